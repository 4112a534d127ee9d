-- `item_values::named` meets its contract: a fix's columns by the law, an equal's as they stand.
use Rattle.item_values.proofs.ValueLaws.{fix_columns}
use Rattle.item_values.proofs.named.Goals as goal

pub returns-in-Fix : goal.returns-in-Fix
returns-in-Fix c = rw c.in-Fix.is (fix_columns c.in-Fix.count c.in-Fix.a c.in-Fix.b c.in-Fix.c c.in-Fix.d)

pub returns-in-Equal : goal.returns-in-Equal
returns-in-Equal c = rw c.in-Equal.is

-- `orders::column_of` meets its contract: 128 less where the entry descends.
use native.Mathlib.Omega.{arith}
use mathlib.Core.Path.{sym, ◌∙◌}
use Rattle.theory.proofs.Reflect.{says_true}
use Rattle.theory.proofs.EntryLaws.{says_descends, column_by}
use Rattle.orders.proofs.column_of.Goals as goal

pub overflow_sub-result : goal.overflow_sub-result
overflow_sub-result c = omega (arith, says_true (says_descends c.args.e) (sym c.descends.ensures ∙ c.if-descends.true))

pub returns-then-descends : goal.returns-then-descends
returns-then-descends c = sym (column_by c.args.e (sym c.descends.ensures ∙ c.if-descends.true))

pub returns-else-descends : goal.returns-else-descends
returns-else-descends c = sym (column_by c.args.e (sym c.descends.ensures ∙ c.if-descends.false))

-- `construction::merge` meets its contract: the rows that are numbered are those of the words.
use mathlib.Core.Path.{sym, subst}
use Rattle.theory.specs.Query.{read_query}
use Rattle.theory.specs.Build.{limited}
use Rattle.theory.specs.Steps.{merged_table}
use Rattle.construction.specs.Constructed.{Leaves}
use Rattle.construction.proofs.LeavesLaws.{rows_left}
use Rattle.construction.proofs.merge.Goals as goal

pub returns : goal.returns
returns c =
    let a = c.args in
    let b = a.query.now in
    let z = c.sizes in
    let left = rows_left b a.work.now c.number.result z.result z.ensures.produced z.ensures.tested z.ensures.sets c.number.ensures.0 in
    (subst (Leaves (limited (merged_table (read_query b) a.work.now)) c.number.new.work) (sym c.ok_or.ensures.value) left, c.number.ensures.1)

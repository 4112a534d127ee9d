-- `table_rows::walk::take_sets` meets its contract. The loop's invariant: row i has taken the sets before number s.
use native.Mathlib.Omega.{arith}
use mathlib.Core.Path.{◌∙◌}
use lib.ListN.{take, length-set}
use Rattle.theory.specs.Scratch.{held_part}
use Rattle.table_rows.specs.Walk.{sizes_of}
use Rattle.table_rows.proofs.TakingLaws.{taking_all, taking_over, taking_more}
use Rattle.table_rows.proofs.walk.take_sets.Goals as goal

pub returns-in_err-numbered : goal.returns-in_err-numbered
returns-in_err-numbered c =
    let a = c.args in
    let z = sizes_of a.sizes in
    let l = c.loop-s in
    let words = take held_part a.work.now in
    let next = c.with_set.ensures in
    let j = c.in_err-numbered.ensures in
    rw c.from_residual.ensures (taking_over z words l.invariant.0 (omega arith) next.order next.choice.0 j, j.kept ∙ l.invariant.1)

pub loop-s-preserved : goal.loop-s-preserved
loop-s-preserved c =
    let a = c.args in
    let z = sizes_of a.sizes in
    let l = c.loop-s in
    let words = take held_part a.work.now in
    let next = c.with_set.ensures in
    let j = c.in_ok-numbered.ensures in (
      taking_more z words l.invariant.0 (omega arith) next.order next.choice.0 j a.sizes.few_sets (omega arith) c.slot.result c.slot.ensures.0,
      length-set c.number_row.new.work _ _ ∙ j.kept ∙ l.invariant.1,
    )

pub returns : goal.returns
returns c =
    let a = c.args in
    let l = c.loop-s in
    (taking_all (sizes_of a.sizes) (take held_part a.work.now) l.invariant.0 (omega arith), l.invariant.1)

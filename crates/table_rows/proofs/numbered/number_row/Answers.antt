-- `table_rows::numbered::number_row` meets its contract: the whole choice gives the same state.
use Prim.Native.Nat.{ℕ, ◌+◌}
use native.Mathlib.Omega.{arith}
use mathlib.Core.Path.{◌∙◌, ap₂, subst}
use lib.ListN.{take}
use Rattle.theory.specs.Scratch.{held_part, open_in}
use Rattle.open_sets.specs.Open.{state_of}
use Rattle.open_sets.proofs.OpenLaws.{open_whole}
use Rattle.row_search.proofs.FindLaws.{whole_whole}
use Rattle.table_rows.specs.Walk.{Numbering}
use Rattle.table_rows.proofs.numbered.number_row.Goals as goal

pub number_whole-requires : goal.number_whole-requires
number_whole-requires c =
    let a = c.args in
    let z = a.sizes in
    let r = c.requires in
    let k = c.whole-whole in
    let u = c.under.ensures in
    rw (u.order, u.choice) (
      r.0,
      r.1,
      r.2,
      omega (arith, k.ensures),
      whole_whole z.produced (z.produced + z.tested) z.sets a.work.now r.1.opened a.pair.order a.pair.choice k.result r.2 r.3 k.ensures,
      r.4,
    )

pub returns : goal.returns
returns c =
    let a = c.args in
    let z = a.sizes in
    let r = c.requires in
    let k = c.whole-whole in
    let n = c.number_whole in
    let u = c.under.ensures in
    let bits : ℕ = z.produced + z.tested in
    let words = take held_part a.work.now in
    let same = ap₂ (state_of bits z.sets words) u.order u.choice
    ∙ open_whole bits z.sets words a.pair.order a.pair.choice (open_in z.sets a.work.now a.pair.order a.pair.choice) (r.1.opened a.pair.order a.pair.choice r.2 r.3) r.3 k.result k.ensures in
    subst (λ x. Numbering z.produced bits z.sets a.work.now n.new.work x a.count n.result) same n.ensures

-- `table_rows::held::hold_rows` meets its contract. The loop's invariant: the rows before number i have their held words.
use Prim.Native.Nat.{◌+◌}
use native.Mathlib.Omega.{arith}
use mathlib.Core.Path.{◌∙◌, ap}
use lib.ListN.{length}
use Rattle.theory.specs.Query.{byte_at}
use Rattle.theory.specs.Placed.{placed}
use Rattle.row_pairs.specs.RowPairs.{row_place}
use Rattle.table_rows.specs.Walk.{held_row}
use Rattle.table_rows.proofs.HeldLaws.{holding_none, holding_length, order_kept, choice_kept, holding_more}
use Rattle.table_rows.proofs.held.hold_rows.Goals as goal

pub loop-i-init : goal.loop-i-init
loop-i-init c =
    let z = c.args.sizes in
    holding_none (z.produced + z.tested) z.sets c.args.work.now

pub hold_row-requires : goal.hold_row-requires
hold_row-requires c =
    let a = c.args in
    let bits = a.sizes.produced + a.sizes.tested in
    let sets = a.sizes.sets in
    let w = a.work.now in
    let l = c.loop-i in
    let i = l.i in
    let order = ap (λ d. byte_at d (row_place i)) l.invariant ∙ order_kept bits sets w i c.requires.1 in
    let choice = ap (λ d. byte_at d (row_place i + 1)) l.invariant ∙ choice_kept bits sets w i c.requires.1 in
    let long = ap length l.invariant ∙ holding_length bits sets w i c.requires.1 (omega (arith, c.requires.0.few)) in (
      omega (arith, order, c.requires.0.orders i (omega arith)),
      omega (arith, choice, c.requires.0.choices i (omega arith)),
      omega (arith, c.requires.0.few),
      omega arith,
    )

pub loop-i-preserved : goal.loop-i-preserved
loop-i-preserved c =
    let a = c.args in
    let bits = a.sizes.produced + a.sizes.tested in
    let sets = a.sizes.sets in
    let l = c.loop-i in
    let i = l.i in
    c.hold_row.ensures ∙ ap (λ w. placed (row_place i) (held_row bits sets w i) w) l.invariant
    ∙ holding_more bits sets a.work.now i c.requires.1 (omega (arith, c.requires.0.few))

pub shape_of-work : goal.shape_of-work
shape_of-work c =
    let a = c.args in
    let l = c.loop-i in
    ap length l.invariant ∙ holding_length (a.sizes.produced + a.sizes.tested) a.sizes.sets a.work.now l.i c.requires.1 (omega (arith, c.requires.0.few))

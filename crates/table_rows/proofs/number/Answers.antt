-- `table_rows::number` meets its contract: the open sets of all pairs, then the starts, the walk, then the held words.
use Prim.Native.Nat.{ℕ, ◌+◌, ◌<◌, ◌≤◌}
use native.Mathlib.Omega.{arith}
use mathlib.Core.Path.{◌≡◌, sym, ◌∙◌, ap, subst}
use lib.ListN.{length}
use Rattle.theory.specs.Limits.{max_states}
use Rattle.theory.specs.Scratch.{work_length}
use Rattle.table_rows.specs.Rows.{RowsStored}
use Rattle.table_rows.specs.Walk.{states_of, RowsVisited, sizes_of}
use Rattle.table_rows.proofs.HeldLaws.{holding_length}
use Rattle.table_rows.proofs.FoundLaws.{rows_over, rows_found}
use Rattle.table_rows.proofs.number.Goals as goal

pub returns-in_err-begun : goal.returns-in_err-begun
returns-in_err-begun c =
    let a = c.args in
    let z = sizes_of a.sizes in
    let o = c.open_pairs.ensures in
    let over = subst (λ w. max_states < length (states_of z w)) o.1 c.in_err-begun.ensures.0 in
    rw c.from_residual.ensures (rows_over z a.work.now a.sizes.few_produced a.sizes.few_sets over, c.number_starts.ensures.1 ∙ o.2)

pub returns-in_err-count : goal.returns-in_err-count
returns-in_err-count c =
    let a = c.args in
    let z = sizes_of a.sizes in
    let o = c.open_pairs.ensures in
    let b = c.in_ok-begun.ensures in
    let over = subst (λ w. max_states < length (states_of z w)) (b.0.1.first ∙ o.1) c.in_err-count.ensures.0 in
    rw c.from_residual-in_err-count.ensures (rows_over z a.work.now a.sizes.few_produced a.sizes.few_sets over, c.walk_rows.ensures.1 ∙ b.1 ∙ o.2)

pub returns : goal.returns
returns c =
    let a = c.args in
    let z = sizes_of a.sizes in
    let bits : ℕ = a.sizes.produced + a.sizes.tested in
    let o = c.open_pairs.ensures in
    let r = c.walk_rows in
    let n = c.in_ok-count.count in
    let visited = subst (λ w. RowsVisited z w r.new.work n n) (c.in_ok-begun.ensures.0.1.first ∙ o.1) c.in_ok-count.ensures.0 in
    let kept : length r.new.work ≡ length a.work.now = r.ensures.1 ∙ c.number_starts.ensures.1 ∙ o.2 in
    let long : work_length ≤ length r.new.work = omega (arith, kept, c.requires.1) in
    let h = c.hold_rows.ensures in (
      subst (λ d. RowsStored z a.work.now d n) (sym h) (rows_found z a.work.now a.sizes.few_produced a.sizes.few_sets r.new.work n visited long),
      ap length h ∙ holding_length bits z.sets r.new.work n long visited.pairs.few ∙ kept,
    )

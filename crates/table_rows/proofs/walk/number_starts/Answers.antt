-- `table_rows::walk::number_starts` meets its contract. The loop's invariant: the starts before number p are numbered and written.
use Prim.Native.Nat.{ℕ, ◌+◌}
use native.Mathlib.Omega.{arith}
use mathlib.Core.Path.{refl, ◌∙◌, ap}
use lib.ListN.{take, length-set}
use Rattle.theory.specs.Scratch.{held_part}
use Rattle.open_sets.specs.Open.{state_of}
use Rattle.open_sets.proofs.StateLaws.{state_start}
use Rattle.table_rows.specs.Walk.{machine_of, sizes_of}
use Rattle.table_rows.proofs.WalkLaws.{starting_none, starting_all, joined, joined_over, joined_number, stored_start}
use Rattle.table_rows.proofs.walk.number_starts.Goals as goal

pub loop-p-init : goal.loop-p-init
loop-p-init c = (starting_none (sizes_of c.args.sizes) c.args.work.now c.requires.0, refl)

pub returns-in_err-numbered : goal.returns-in_err-numbered
returns-in_err-numbered c =
    let a = c.args in
    let z = sizes_of a.sizes in
    let bits : ℕ = a.sizes.produced + a.sizes.tested in
    let l = c.loop-p in
    let words = take held_part a.work.now in
    let start = (machine_of z words).start in
    let e = ap (λ w. state_of bits z.sets w l.p 0) l.invariant.0.first ∙ state_start bits z.sets words l.p in
    let j = c.in_err-numbered.ensures in
    rw c.from_residual.ensures (joined_over z words start l.p z.produced l.invariant.0 (omega arith) e j, j.kept ∙ l.invariant.1)

pub loop-p-preserved : goal.loop-p-preserved
loop-p-preserved c =
    let a = c.args in
    let z = sizes_of a.sizes in
    let bits : ℕ = a.sizes.produced + a.sizes.tested in
    let l = c.loop-p in
    let words = take held_part a.work.now in
    let start = (machine_of z words).start in
    let e = ap (λ w. state_of bits z.sets w l.p 0) l.invariant.0.first ∙ state_start bits z.sets words l.p in
    let r = c.in_ok-numbered.numbered in
    let j = c.in_ok-numbered.ensures in
    let more = joined z words start l.p z.produced l.invariant.0 (omega arith) e j in
    let number = joined_number z words start l.p z.produced l.invariant.0 (omega arith) e j in
    (stored_start z words more (omega (arith, j.kept)) r.number (omega arith) a.sizes.few_produced refl number, length-set c.number_row.new.work _ _ ∙ j.kept ∙ l.invariant.1)

pub returns : goal.returns
returns c =
    let a = c.args in
    let l = c.loop-p in
    ((omega arith, starting_all (sizes_of a.sizes) (take held_part a.work.now) (omega arith) l.invariant.0), l.invariant.1)

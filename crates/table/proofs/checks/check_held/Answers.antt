-- `table::checks::check_held` meets its contract: the shift loses no bit, and the one test picks the number.
use Prim.Native.Nat.{ℕ, ◌+◌, ◌*◌, ◌^◌, ◌%◌, ◌≤◌}
use native.Mathlib.Nat.{one-mul}
use native.Mathlib.Omega.{arith}
use mathlib.Core.Path.{◌≡◌, ◌∙◌}
use lib.Pow.{shl_exact}
use Rattle.theory.specs.Table.{held_refusal}
use Rattle.theory.proofs.Picks.{picks}
use Rattle.table.proofs.checks.check_held.Goals as goal

power : (n : ℕ) → n ≤ 16 → 1 * 2 ^ n % 2 ^ 64 ≡ 2 ^ n
power n h = shl_exact 1 n 64 (omega arith) (omega arith) ∙ one-mul _

pub returns-then-held_word-orders : goal.returns-then-held_word-orders
unfolding held_refusal
returns-then-held_word-orders c =
    let t = c.bytes-bytes.ensures.formed in
    let produced = rw c.bytes-bytes.ensures.bytes at c.produced.ensures.0 in
    let tested = rw c.bytes-bytes.ensures.bytes at c.tested.ensures.0 in
    let h = rw (power (c.produced.result + c.tested.result) (omega (arith, t.few_produced, t.few_tested))) at c.if-held_word-orders.true in
    rw (← c.held_word.ensures, ← produced, ← tested) (search picks)

pub returns-else-held_word-orders : goal.returns-else-held_word-orders
unfolding held_refusal
returns-else-held_word-orders c =
    let t = c.bytes-bytes.ensures.formed in
    let produced = rw c.bytes-bytes.ensures.bytes at c.produced.ensures.0 in
    let tested = rw c.bytes-bytes.ensures.bytes at c.tested.ensures.0 in
    let h = rw (power (c.produced.result + c.tested.result) (omega (arith, t.few_produced, t.few_tested))) at c.if-held_word-orders.false in
    rw (← c.held_word.ensures, ← produced, ← tested) (search picks)

use Prim.Native.Nat.{ℕ, ◌<◌}
use mathlib.Core.Path.{◌≡◌}
use Rattle.theory.specs.Query.{order_at}
use Rattle.query_check.proofs.twin.seen_before.Given as goal

abbrev pub invariant-loop-j : goal.invariant-loop-j
invariant-loop-j l = (k : ℕ) → k < l.j → order_at l.query l.i ≡ order_at l.query k → ⊥

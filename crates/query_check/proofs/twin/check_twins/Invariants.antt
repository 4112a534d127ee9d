use Prim.Native.Nat.{ℕ, ◌<◌}
use mathlib.Core.Path.{◌≡◌}
use mathlib.Core.Bool.{false}
use mathlib.Core.List.{map}
use Rattle.theory.specs.Tests.{member, up_from}
use Rattle.theory.specs.Orders.{same_order}
use Rattle.theory.specs.Query.{order_at}
use Rattle.query_check.proofs.twin.check_twins.Given as goal

abbrev pub invariant-loop-i : goal.invariant-loop-i
invariant-loop-i l = (k : ℕ) → k < l.i → member same_order (order_at l.query k) (map (order_at l.query) (up_from 0 k)) ≡ false

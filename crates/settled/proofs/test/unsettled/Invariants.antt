use Prim.Native.Nat.{ℕ, ◌<◌, ◌≤◌}
use mathlib.Core.Path.{◌≡◌}
use mathlib.Core.Bool.{true}
use lib.ListN.{get_or}
use Rattle.theory.specs.Tests.{in_mask}
use Rattle.theory.specs.Orders.{column}
use Rattle.orders.specs.Orders.{order_of}
use Rattle.settled.proofs.test.unsettled.Given as goal

abbrev pub invariant-loop-i : goal.invariant-loop-i
invariant-loop-i l = (l.fn.from ≤ l.i) × ((k : ℕ) → k < l.i → l.fn.from ≤ k → in_mask l.mask (column (get_or (order_of l.o) k 0)) ≡ true)

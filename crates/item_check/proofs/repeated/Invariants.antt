use Prim.Native.Nat.{ℕ, ◌<◌}
use mathlib.Core.Path.{◌≡◌}
use mathlib.Core.Bool.{false}
use lib.Dec.{eqb}
use lib.ListN.{take, get_or}
use Rattle.theory.specs.Tests.{member}
use Rattle.orders.specs.Orders.{order_of}
use Rattle.item_check.proofs.repeated.Given as goal

abbrev pub invariant-loop-i : goal.invariant-loop-i
invariant-loop-i l = (k : ℕ) → k < l.i → member eqb (get_or (order_of l.named) k 0) (take k (order_of l.named)) ≡ false

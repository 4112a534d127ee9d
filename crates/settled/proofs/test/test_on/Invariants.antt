use Prim.Native.Nat.{◌≤◌}
use lib.ListN.{length}
use Rattle.orders.specs.Orders.{order_of}
use Rattle.settled.proofs.TestLaws.{Midway}
use Rattle.settled.proofs.test.test_on.Given as goal

-- the test is at place i of o, and at place j of p
abbrev pub invariant-loop-i : goal.invariant-loop-i
invariant-loop-i l = (l.j ≤ length (order_of l.p)) × Midway l.arrows l.start l.classes (order_of l.p) (order_of l.o) l.i l.j l.mask

-- `settled::test::unsettled` meets its contract. The loop's invariant: the columns from the first place to i are in the mask.
use native.Mathlib.Omega.{arith}
use Rattle.orders.specs.Orders.{order_of}
use Rattle.column_masks.proofs.MaskLaws.{column_narrow}
use Rattle.settled.proofs.test.unsettled.Goals as goal

pub has-requires : goal.has-requires
has-requires c = rw c.column.ensures (column_narrow (order_of c.args.o) c.loop-i.i c.requires.0 (omega arith))

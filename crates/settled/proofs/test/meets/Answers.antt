-- `settled::test::meets` meets its contract: a mask has room for the entry's column.
use native.Mathlib.Omega.{arith}
use Rattle.orders.specs.Orders.{order_of}
use Rattle.column_masks.proofs.MaskLaws.{column_narrow}
use Rattle.settled.proofs.test.meets.Goals as goal

pub has-requires : goal.has-requires
has-requires c = rw (c.column_of.ensures, c.entry-x.ensures) (column_narrow (order_of c.args.p) c.args.at c.requires.1 (omega arith))

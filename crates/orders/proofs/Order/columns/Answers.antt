-- `Order::columns` meets its contract: four columns are read, and as many of them count as the order has entries.
use native.Mathlib.Omega.{arith}
use Rattle.orders.specs.Orders.{order_of}
use Rattle.orders.proofs.OrderLaws.{four_columns}
use Rattle.orders.proofs.Order.columns.Goals as goal

pub returns : goal.returns
returns c = let o = c.args.self in
    record {
      order = rw (c.column.ensures, c.column-2.ensures, c.column-3.ensures, c.column-4.ensures)
          (four_columns (order_of o) c.length.result c.length.ensures.0 c.length.ensures.1);
      short = omega arith;
    }

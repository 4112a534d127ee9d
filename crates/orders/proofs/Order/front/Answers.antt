-- `Order::front` meets its contract.
use native.Mathlib.Omega.{arith}
use Rattle.orders.proofs.OrderLaws.{front_of}
use Rattle.orders.proofs.Order.front.Goals as goal

pub returns : goal.returns
returns c = let a = c.args in
    record { order = front_of c.min-len.result a.n a.self.len a.self.entries (omega arith); short = omega arith }

-- `Order::entry` meets its contract: within the length an entry is that of the array, and past it there is none.
use native.Mathlib.Omega.{arith}
use mathlib.Core.Path.{sym}
use lib.ListN.{get_or-eq_default}
use Rattle.orders.specs.Orders.{order_of}
use Rattle.orders.proofs.OrderLaws.{get_d_within}
use Rattle.orders.proofs.Order.entry.Goals as goal

pub returns-then-i-length : goal.returns-then-i-length
returns-then-i-length c = let a = c.args in sym (get_d_within a.self.len a.self.entries a.i (omega arith))

pub returns-else-i-length : goal.returns-else-i-length
returns-else-i-length c = let a = c.args in sym (get_or-eq_default (order_of a.self) 0 (omega arith))

-- `item_values::order_value` meets its contract.
use native.Mathlib.Omega.{arith}
use mathlib.Core.Path.{ap}
use Rattle.item_values.specs.Values.{order_code}
use Rattle.item_values.proofs.order_value.Goals as goal

pub returns : goal.returns
unfolding order_code
returns c = omega (arith, ap order_code c.order-o.ensures.order)

-- `Order::column` meets its contract.
use mathlib.Core.Path.{◌∙◌, ap}
use Rattle.theory.specs.Orders.{column}
use Rattle.orders.proofs.Order.column.Goals as goal

pub returns : goal.returns
returns c = c.column_of.ensures ∙ ap column c.entry.ensures

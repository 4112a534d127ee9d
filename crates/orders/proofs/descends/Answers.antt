-- `orders::descends` meets its contract.
use mathlib.Core.Path.{refl}
use Rattle.theory.specs.Orders.{descends}
use Rattle.orders.proofs.descends.Goals as goal

pub returns : goal.returns
unfolding descends
returns c = refl

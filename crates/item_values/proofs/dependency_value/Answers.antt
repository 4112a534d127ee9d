-- `item_values::dependency_value` meets its contract: the parts of the dependency that was read, added up.
use native.Mathlib.Omega.{arith}
use mathlib.Core.Path.{ap}
use Rattle.item_values.specs.Values.{dependency_code}
use Rattle.item_values.proofs.dependency_value.Goals as goal

pub returns : goal.returns
unfolding dependency_code
returns c = omega (arith, ap dependency_code c.dependency-d.ensures)

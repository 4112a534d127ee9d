use mathlib.Core.Path.{◌≡◌}
use lib.ListN.{drop}
use Rattle.closure.specs.Closing.{pass}
use Rattle.closure.proofs.pass.Given as goal

abbrev pub invariant-loop-arrow : goal.invariant-loop-arrow
invariant-loop-arrow l = pass (drop l.arrow-index l.arrows) l.all ≡ pass l.arrows l.mask

-- `verify::supplied_cleared` meets its contract: clearing does not change the answer.
use mathlib.Core.Path.{◌∙◌}
use Rattle.theory.proofs.ClearLaws.{zeroed_whole}
use Rattle.verify.proofs.supplied_cleared.Goals as goal

pub returns : goal.returns
returns c = let a = c.supplied-outcome in (a.ensures.0, c.clear.ensures ∙ zeroed_whole a.new.reached c.args.reached.now a.ensures.1)

-- `step_scratch::clear_and_count` meets its contract: the first bytes, lent and cleared, are the zeroed part.
use mathlib.Core.Path.{◌∙◌, ap}
use mathlib.Core.List.{◌++◌}
use lib.ListN.{drop}
use Rattle.theory.specs.Limits.{scratch_length}
use Rattle.theory.specs.Placed.{placed}
use Rattle.theory.specs.Steps.{count_bytes}
use Rattle.theory.proofs.ClearLaws.{zeroed_part}
use Rattle.step_scratch.proofs.clear_and_count.Goals as goal

pub returns : goal.returns
returns c =
    let d = c.args.scratch.now in
    c.put.ensures ∙ ap (placed 0 (count_bytes 1)) (ap (λ f. f ++ drop scratch_length d) c.clear.ensures ∙ zeroed_part scratch_length d c.requires)

-- `lookup::check_state` meets its contract: a refused form refuses, and then the one test picks the number.
use mathlib.Core.Path.{◌∙◌}
use Rattle.theory.specs.Table.{read_refusal}
use Rattle.theory.proofs.Picks.{picks}
use Rattle.numbers.proofs.RefusalLaws.{first_refuses, first_passes, passed_on}
use Rattle.lookup.proofs.check_state.Goals as goal

pub returns-in_err-formed-clause-refusal : goal.returns-in_err-formed-clause-refusal
unfolding read_refusal
returns-in_err-formed-clause-refusal c =
    let r = c.in_err-formed.field-0.0 in
    passed_on c.from_residual.result r c.from_residual.ensures.1 ∙ first_refuses r _ c.in_err-formed.ensures.refusal

pub returns-then-state-states-clause-refusal : goal.returns-then-state-states-clause-refusal
unfolding read_refusal
returns-then-state-states-clause-refusal c =
    first_passes c.in_ok-formed.ensures.refusal (rw (← c.states.ensures.0) (search picks))

pub returns-else-state-states-clause-refusal : goal.returns-else-state-states-clause-refusal
unfolding read_refusal
returns-else-state-states-clause-refusal c =
    first_passes c.in_ok-formed.ensures.refusal (rw (← c.states.ensures.0) (search picks))

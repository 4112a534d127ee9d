-- `step_checks::check_lent` meets its contract.
use mathlib.Core.Path.{refl, ◌∙◌}
use borrow.Author.Tests.{lt-ltb, le-ltb}
use Rattle.theory.specs.Steps.{begin_refusal}
use Rattle.theory.proofs.Picks.{pick_yes, pick_no}
use Rattle.numbers.proofs.RefusalLaws.{first_refuses, first_passes, passed_on}
use Rattle.step_checks.proofs.check_lent.Goals as goal

pub returns-in_err-checked-clause-refusal : goal.returns-in_err-checked-clause-refusal
unfolding begin_refusal
returns-in_err-checked-clause-refusal c =
    passed_on c.from_residual.result _ c.from_residual.ensures.1 ∙ first_refuses _ _ c.in_err-checked.ensures.refusal

pub returns-then-scratch-lt-SCRATCH_LENGTH-clause-refusal : goal.returns-then-scratch-lt-SCRATCH_LENGTH-clause-refusal
unfolding begin_refusal
returns-then-scratch-lt-SCRATCH_LENGTH-clause-refusal c =
    first_passes c.in_ok-checked.ensures.refusal (pick_yes _ (lt-ltb _ _ c.if-scratch-lt-SCRATCH_LENGTH.true) refl)

pub returns-clause-refusal : goal.returns-clause-refusal
unfolding begin_refusal
returns-clause-refusal c =
    first_passes c.in_ok-checked.ensures.refusal (pick_no _ (le-ltb _ _ c.if-scratch-lt-SCRATCH_LENGTH.false) refl)

-- `step_checks::check_continued` meets its contract.
use mathlib.Core.Path.{sym, ◌∙◌, ap, ap₂}
use Rattle.theory.specs.Query.{read_query}
use Rattle.theory.specs.Steps.{pair_count, count_refusal, continue_refusal}
use Rattle.theory.proofs.StepLaws.{begin_lent}
use Rattle.numbers.proofs.RefusalLaws.{first_refuses, first_passes, passed_on}
use Rattle.step_checks.proofs.check_continued.Goals as goal

pub returns-in_err-checked-clause-refusal : goal.returns-in_err-checked-clause-refusal
unfolding continue_refusal
returns-in_err-checked-clause-refusal c =
    passed_on c.from_residual.result _ c.from_residual.ensures.1 ∙ first_refuses _ _ c.in_err-checked.ensures.refusal

pub count-requires : goal.count-requires
count-requires c = (begin_lent c.args.query.now c.args.scratch.now (sym c.in_ok-checked.ensures.refusal)).long

pub returns-in_err-check_count-clause-refusal : goal.returns-in_err-check_count-clause-refusal
unfolding continue_refusal
returns-in_err-check_count-clause-refusal c =
    let pairs = c.pairs.ensures.0 ∙ ap (λ b. pair_count (read_query b)) c.in_ok-checked.ensures.bytes in
    passed_on c.from_residual-in_err-check_count.result _ c.from_residual-in_err-check_count.ensures.1
    ∙ first_passes c.in_ok-checked.ensures.refusal (c.in_err-check_count.ensures ∙ ap₂ count_refusal pairs c.count.ensures.0)

pub returns-clause-refusal : goal.returns-clause-refusal
unfolding continue_refusal
returns-clause-refusal c =
    let pairs = c.pairs.ensures.0 ∙ ap (λ b. pair_count (read_query b)) c.in_ok-checked.ensures.bytes in
    first_passes c.in_ok-checked.ensures.refusal (c.in_ok-check_count.ensures ∙ ap₂ count_refusal pairs c.count.ensures.0)

-- `steps::begin` meets its contract.
use mathlib.Core.Path.{sym, ◌∙◌, subst}
use mathlib.Core.Logic.{◌≢◌}
use Rattle.theory.specs.Refusals.{passed}
use Rattle.theory.proofs.StepLaws.{begin_lent, begun_kept, begun_fresh}
use Rattle.numbers.proofs.RefusalLaws.{refused, passed_on}
use Rattle.steps.proofs.begin.Goals as goal

pub returns-in_err-check_lent : goal.returns-in_err-check_lent
returns-in_err-check_lent c =
    let a = c.args in
    let e = c.in_err-check_lent.ensures.refusal in
    record {
      value = passed_on c.from_residual.result _ c.from_residual.ensures.1 ∙ e;
      scratch_after = sym (begun_kept a.query.now a.scratch.now (subst (λ k. k ≢ passed) e (refused c.in_err-check_lent.field-0.0)));
    }

pub clear_and_count-requires : goal.clear_and_count-requires
clear_and_count-requires c = (begin_lent c.args.query.now c.args.scratch.now (sym c.in_ok-check_lent.ensures.refusal)).long

pub returns : goal.returns
returns c =
    let a = c.args in
    let e = c.in_ok-check_lent.ensures.refusal in
    record { value = e; scratch_after = c.clear_and_count.ensures ∙ sym (begun_fresh a.query.now a.scratch.now (sym e)) }

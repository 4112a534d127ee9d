-- `query_check::check` meets its contract: the first of the three checks that refuses.
use mathlib.Core.Path.{sym, ◌∙◌}
use Rattle.numbers.proofs.RefusalLaws.{first_refuses, first_passes, passed_on}
use Rattle.theory.specs.Query.{query_refusal}
use Rattle.query_check.proofs.check.Goals as goal

pub returns-in_err-check_sizes-clause-refusal : goal.returns-in_err-check_sizes-clause-refusal
unfolding query_refusal
returns-in_err-check_sizes-clause-refusal c =
    passed_on c.from_residual.result _ c.from_residual.ensures.1 ∙ first_refuses _ _ c.in_err-check_sizes.ensures

pub returns-in_err-check_items-clause-refusal : goal.returns-in_err-check_items-clause-refusal
unfolding query_refusal
returns-in_err-check_items-clause-refusal c =
    passed_on c.from_residual-in_err-check_items.result _ c.from_residual-in_err-check_items.ensures.1 ∙ first_passes c.in_ok-check_sizes.ensures (first_refuses _ _ c.in_err-check_items.ensures)

pub returns-in_err-check_twins-clause-refusal : goal.returns-in_err-check_twins-clause-refusal
unfolding query_refusal
returns-in_err-check_twins-clause-refusal c =
    passed_on c.from_residual-in_err-check_twins.result _ c.from_residual-in_err-check_twins.ensures.1 ∙ first_passes c.in_ok-check_sizes.ensures (first_passes c.in_ok-check_items.ensures c.in_err-check_twins.ensures)

pub new-requires : goal.new-requires
unfolding query_refusal
new-requires c = sym (first_passes c.in_ok-check_sizes.ensures (first_passes c.in_ok-check_items.ensures c.in_ok-check_twins.ensures))

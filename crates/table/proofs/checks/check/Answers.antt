-- `table::checks::check` meets its contract: the first check that refuses tells, and a table that every check passes is handed on.
use mathlib.Core.Path.{◌∙◌}
use Rattle.theory.specs.Table.{table_refusal}
use Rattle.numbers.proofs.RefusalLaws.{first_refuses, first_passes, passed_on}
use Rattle.table.proofs.checks.check.Goals as goal

pub returns-in_err-formed-clause-refusal : goal.returns-in_err-formed-clause-refusal
unfolding table_refusal
returns-in_err-formed-clause-refusal c =
    let r = c.in_err-formed.field-0.0 in
    passed_on c.from_residual.result r c.from_residual.ensures.1 ∙ first_refuses r _ c.in_err-formed.ensures.refusal

pub returns-in_err-check_starts-clause-refusal : goal.returns-in_err-check_starts-clause-refusal
unfolding table_refusal
returns-in_err-check_starts-clause-refusal c =
    let r = c.in_err-check_starts.field-0.0 in
    let same = c.in_ok-formed.ensures.bytes in
    passed_on c.from_residual-in_err-check_starts.result r c.from_residual-in_err-check_starts.ensures.1
    ∙ first_passes c.in_ok-formed.ensures.refusal (first_refuses r _ (rw same at c.in_err-check_starts.ensures))

pub returns-in_err-check_successors-clause-refusal : goal.returns-in_err-check_successors-clause-refusal
unfolding table_refusal
returns-in_err-check_successors-clause-refusal c =
    let r = c.in_err-check_successors.field-0.0 in
    let same = c.in_ok-formed.ensures.bytes in
    passed_on c.from_residual-in_err-check_successors.result r c.from_residual-in_err-check_successors.ensures.1
    ∙ first_passes c.in_ok-formed.ensures.refusal
    (first_passes (rw same at c.in_ok-check_starts.ensures) (first_refuses r _ (rw same at c.in_err-check_successors.ensures)))

pub returns-in_err-check_held_rows-clause-refusal : goal.returns-in_err-check_held_rows-clause-refusal
unfolding table_refusal
returns-in_err-check_held_rows-clause-refusal c =
    let r = c.in_err-check_held_rows.field-0.0 in
    let same = c.in_ok-formed.ensures.bytes in
    passed_on c.from_residual-in_err-check_held_rows.result r c.from_residual-in_err-check_held_rows.ensures.1
    ∙ first_passes c.in_ok-formed.ensures.refusal
    (first_passes (rw same at c.in_ok-check_starts.ensures)
    (first_passes (rw same at c.in_ok-check_successors.ensures) (rw same at c.in_err-check_held_rows.ensures)))

pub returns-clause-refusal : goal.returns-clause-refusal
unfolding table_refusal
returns-clause-refusal c =
    let same = c.in_ok-formed.ensures.bytes in
    first_passes c.in_ok-formed.ensures.refusal
    (first_passes (rw same at c.in_ok-check_starts.ensures)
    (first_passes (rw same at c.in_ok-check_successors.ensures) (rw same at c.in_ok-check_held_rows.ensures)))

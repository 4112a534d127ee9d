-- `table::checks::check_run` meets its contract. The loop's invariant: no state number that was passed is refused.
use native.Mathlib.Omega.{arith}
use mathlib.Core.Path.{◌∙◌}
use lib.ListN.{length}
use Rattle.theory.specs.Query.{byte_at}
use Rattle.theory.specs.Table.{state_refusal}
use Rattle.theory.proofs.RefusalLaws.{first_found, first_none}
use Rattle.numbers.proofs.RefusalLaws.{refused, passed_on}
use Rattle.table.specs.Form.{run_refusal}
use Rattle.table.proofs.checks.check_run.Goals as goal

pub returns-in_err-check_state : goal.returns-in_err-check_state
unfolding run_refusal
returns-in_err-check_state c =
    passed_on c.from_residual.result c.in_err-check_state.field-0.0 c.from_residual.ensures.1
    ∙ first_found (λ i. state_refusal c.args.table.now (byte_at c.args.run.now i)) c.loop-state.state-index (length c.args.run.now) (omega arith) c.loop-state.invariant c.in_err-check_state.ensures (refused c.in_err-check_state.field-0.0)

pub returns : goal.returns
unfolding run_refusal
returns c =
    first_none (λ i. state_refusal c.args.table.now (byte_at c.args.run.now i)) c.loop-state.state-index (length c.args.run.now) (omega arith) (omega arith) c.loop-state.invariant

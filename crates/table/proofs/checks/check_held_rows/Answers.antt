-- `table::checks::check_held_rows` meets its contract. The loop's invariant: no held bytes that were passed are refused.
use native.Mathlib.Omega.{arith}
use mathlib.Core.Path.{ap, ◌∙◌}
use Rattle.theory.specs.Table.{states_in, held_refusal}
use Rattle.theory.proofs.RefusalLaws.{first_found}
use Rattle.numbers.proofs.RefusalLaws.{refused, passed_on}
use Rattle.table.proofs.checks.check_held_rows.Goals as goal

pub returns-in_err-check_held : goal.returns-in_err-check_held
returns-in_err-check_held c =
    let t = c.args.table.now in
    let same = ap states_in c.bytes.ensures.bytes in
    passed_on c.from_residual.result c.in_err-check_held.field-0.0 c.from_residual.ensures.1
    ∙ first_found (held_refusal t) c.loop-state.state (states_in t) (omega arith) c.loop-state.invariant c.in_err-check_held.ensures (refused c.in_err-check_held.field-0.0)

use mathlib.Core.Path.{◌≡◌}
use Rattle.theory.specs.Query.{byte_at}
use Rattle.theory.specs.Table.{state_refusal}
use Rattle.theory.specs.Refusals.{passed, first_of}
use Rattle.table.proofs.checks.check_run.Given as goal

abbrev pub invariant-loop-state : goal.invariant-loop-state
invariant-loop-state l = first_of (λ i. state_refusal l.table (byte_at l.run i)) l.state-index ≡ passed

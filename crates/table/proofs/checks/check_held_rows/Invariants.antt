use mathlib.Core.Path.{◌≡◌}
use Rattle.theory.specs.Table.{held_refusal}
use Rattle.theory.specs.Refusals.{passed, first_of}
use Rattle.table.proofs.checks.check_held_rows.Given as goal

abbrev pub invariant-loop-state : goal.invariant-loop-state
invariant-loop-state l = first_of (held_refusal l.table) l.state ≡ passed

use mathlib.Core.Path.{◌≡◌}
use Rattle.theory.specs.Placed.{placed}
use Rattle.settled.specs.Ends.{row_by}
use Rattle.two_rows.proofs.write_row.Given as goal

abbrev pub invariant-loop-c : goal.invariant-loop-c
invariant-loop-c l = l.rows ≡ placed l.at (row_by l.inside l.stop.settled l.stop.class l.c) l.initial.rows

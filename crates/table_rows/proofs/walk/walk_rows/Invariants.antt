use Prim.Native.Nat.{◌-◌, ◌≤◌}
use mathlib.Core.Path.{◌≡◌}
use lib.ListN.{length, take}
use Rattle.theory.specs.Limits.{max_states}
use Rattle.theory.specs.Scratch.{held_part}
use Rattle.table_rows.specs.Walk.{RowsVisited, sizes_of}
use Rattle.table_rows.proofs.walk.walk_rows.Given as goal

abbrev pub invariant-loop-i : goal.invariant-loop-i
invariant-loop-i l = RowsVisited (sizes_of l.sizes) (take held_part l.initial.work) l.work l.known l.i × (l.i ≤ l.known) × (length l.work ≡ length l.initial.work)

abbrev pub decreases-loop-i : goal.decreases-loop-i
decreases-loop-i l = max_states - l.i

use mathlib.Core.Path.{◌≡◌}
use lib.ListN.{length, take}
use Rattle.theory.specs.Scratch.{held_part}
use Rattle.table_rows.specs.Walk.{Starting, sizes_of}
use Rattle.table_rows.proofs.walk.number_starts.Given as goal

abbrev pub invariant-loop-p : goal.invariant-loop-p
invariant-loop-p l = Starting (sizes_of l.sizes) (take held_part l.initial.work) l.work l.known l.p × (length l.work ≡ length l.initial.work)

use mathlib.Core.Path.{◌≡◌}
use lib.ListN.{length, take}
use Rattle.theory.specs.Scratch.{held_part}
use Rattle.table_rows.specs.Walk.{Taking, sizes_of}
use Rattle.table_rows.proofs.walk.take_sets.Given as goal

abbrev pub invariant-loop-s : goal.invariant-loop-s
invariant-loop-s l = Taking (sizes_of l.sizes) (take held_part l.initial.work) l.work l.known l.i l.pair.order l.pair.choice l.s × (length l.work ≡ length l.initial.work)

use Prim.Native.Nat.{◌+◌}
use mathlib.Core.Path.{◌≡◌}
use lib.ListN.{length, take}
use Rattle.theory.specs.Scratch.{held_part}
use Rattle.open_sets.specs.Open.{Opened}
use Rattle.open_sets.proofs.open_pairs.Given as goal

abbrev pub invariant-loop-p : goal.invariant-loop-p
invariant-loop-p l = Opened l.p (l.sizes.produced + l.sizes.tested) l.sizes.sets (take held_part l.initial.work) l.work × (take held_part l.work ≡ take held_part l.initial.work) × (length l.work ≡ length l.initial.work)

use Prim.Native.Nat.{◌+◌}
use lib.ListN.{take}
use Rattle.theory.specs.Scratch.{held_part}
use Rattle.open_sets.specs.Open.{Gathered, next_open}
use Rattle.open_sets.proofs.gather.Given as goal

abbrev pub invariant-loop-s : goal.invariant-loop-s
invariant-loop-s l =
    Gathered (l.sizes.produced + l.sizes.tested) l.sizes.sets (take held_part l.work) (next_open l.sizes.sets l.work l.pair.order l.pair.choice) l.pair.order l.pair.choice l.s l.gathered

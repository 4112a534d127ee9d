use Prim.Native.Nat.{◌*◌}
use mathlib.Core.Path.{◌≡◌}
use mathlib.Core.List.{◌++◌}
use lib.ListN.{length, take, drop}
use Rattle.replay.specs.Replay.{replayed}
use Rattle.replay.proofs.run.Given as goal

abbrev pub invariant-loop-i : goal.invariant-loop-i
invariant-loop-i l = (length l.lookups ≡ length l.initial.lookups) × (take (2 * l.i) l.lookups ++ replayed l.table l.mark.state.0 (drop (2 * l.i) l.lookups) ≡ replayed l.table 0 l.initial.lookups)

use Prim.Native.Nat.{◌*◌}
use Rattle.comparison.specs.Alike.{AlikeFrom}
use Rattle.comparison.proofs.all_alike.Given as goal

abbrev pub invariant-loop-k : goal.invariant-loop-k
invariant-loop-k l = AlikeFrom l.tables.ours l.tables.theirs l.reached 0 (8 * l.k)

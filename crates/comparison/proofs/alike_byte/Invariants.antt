use Prim.Native.Nat.{◌+◌, ◌*◌}
use Rattle.comparison.specs.Alike.{AlikeFrom}
use Rattle.comparison.proofs.alike_byte.Given as goal

abbrev pub invariant-loop-j : goal.invariant-loop-j
invariant-loop-j l = AlikeFrom l.tables.ours l.tables.theirs l.reached (8 * l.k) (8 * l.k + l.j)

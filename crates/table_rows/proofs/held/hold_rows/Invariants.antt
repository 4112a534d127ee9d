use Prim.Native.Nat.{◌+◌}
use mathlib.Core.Path.{◌≡◌}
use Rattle.table_rows.proofs.HeldLaws.{holding}
use Rattle.table_rows.proofs.held.hold_rows.Given as goal

abbrev pub invariant-loop-i : goal.invariant-loop-i
invariant-loop-i l = l.work ≡ holding (l.sizes.produced + l.sizes.tested) l.sizes.sets l.initial.work l.i

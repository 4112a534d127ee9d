use Prim.Native.Nat.{◌-◌}
use Rattle.closure.proofs.CloseLaws.{Growing}
use Rattle.closure.proofs.close.Given as goal

abbrev pub invariant-loop-all : goal.invariant-loop-all
invariant-loop-all l = Growing l.arrows l.mask l.all

abbrev pub decreases-loop-all : goal.decreases-loop-all
decreases-loop-all l = 65535 - l.all

use Prim.Native.Nat.{◌*◌}
use Rattle.joint_states.specs.JointStates.{JointVisited}
use Rattle.joint_states.proofs.pass.Given as goal

abbrev pub invariant-loop-k : goal.invariant-loop-k
invariant-loop-k l = JointVisited l.tables.ours l.tables.theirs 0 (8 * l.k) l.initial.reached l.reached l.behind

use Prim.Native.Nat.{◌+◌, ◌*◌}
use Rattle.joint_states.specs.JointStates.{JointVisited}
use Rattle.joint_states.proofs.turn_byte.Given as goal

abbrev pub invariant-loop-j : goal.invariant-loop-j
invariant-loop-j l = JointVisited l.tables.ours l.tables.theirs (8 * l.k) (8 * l.k + l.j) l.initial.reached l.reached l.behind

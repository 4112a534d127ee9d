use mathlib.Core.Bool.{false}
use mathlib.Core.List.{map}
use Rattle.theory.specs.Tests.{up_from}
use Rattle.joint_states.specs.JointStates.{start_joint_state, Added}
use Rattle.joint_states.proofs.add_starts.Given as goal

abbrev pub invariant-loop-p : goal.invariant-loop-p
invariant-loop-p l = Added 0 (map (start_joint_state l.tables.ours l.tables.theirs) (up_from 0 l.p)) l.initial.reached l.reached false

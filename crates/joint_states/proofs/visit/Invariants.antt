use mathlib.Core.List.{map}
use Rattle.theory.specs.Tests.{up_from}
use Rattle.joint_states.specs.JointStates.{next_joint_state, Added}
use Rattle.joint_states.proofs.visit.Given as goal

abbrev pub invariant-loop-s : goal.invariant-loop-s
invariant-loop-s l = Added l.i (map (next_joint_state l.tables.ours l.tables.theirs l.i) (up_from 0 l.s)) l.initial.reached l.reached l.behind

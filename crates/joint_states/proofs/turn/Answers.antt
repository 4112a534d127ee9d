-- `joint_states::turn` meets its contract: a joint state that is in the set is visited, another is passed over.
use Rattle.joint_states.proofs.SetLaws.{visited_over, visited_one}
use Rattle.joint_states.proofs.turn.Goals as goal

pub returns-then-has : goal.returns-then-has
returns-then-has c = visited_one c.requires.0 (cc) c.visit.ensures

pub returns-else-has : goal.returns-else-has
returns-else-has c = rw c.if-has.false (visited_over c.requires.0 (cc))

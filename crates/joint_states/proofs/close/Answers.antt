-- `joint_states::close` meets its contract. The loop's invariant: the set has what it had, and nothing but joint states that are reached; each pass but the last adds a joint state.
use Rattle.joint_states.proofs.SetLaws.{pass_closed, pass_less}
use Rattle.joint_states.proofs.close.Goals as goal

pub loop-init : goal.loop-init
loop-init c = record { walking = c.requires; keeps = λ j k. k }

pub loop-smaller : goal.loop-smaller
loop-smaller c = pass_less c.pass.ensures c.loop-test.true

pub loop-preserved : goal.loop-preserved
loop-preserved c = let v = c.pass.ensures in record { walking = v.walking; keeps = λ j k. v.keeps j (c.loop.invariant.keeps j k) }

pub returns : goal.returns
returns c = pass_closed c.loop.invariant.keeps c.pass.ensures c.loop-test.false

-- `joint_states::turn_byte` meets its contract. The loop's invariant: the first j joint states of the byte had their turn.
use native.Mathlib.Omega.{arith}
use mathlib.Core.Path.{◌≡◌}
use Rattle.joint_states.proofs.SetLaws.{byte_none, visited_none, visited_skip, visited_more}
use Rattle.joint_states.proofs.turn_byte.Goals as goal

pub returns-then-reached-k-eq0 : goal.returns-then-reached-k-eq0
returns-then-reached-k-eq0 c = visited_skip c.requires.0 (byte_none c.args.reached.now c.args.k c.if-reached-k-eq0.true)

pub loop-j-init : goal.loop-j-init
loop-j-init c = visited_none (omega arith) c.requires.0

pub turn-behind-requires : goal.turn-behind-requires
turn-behind-requires c = (c.loop-j.invariant.walking, omega (arith, c.requires.1))

pub loop-j-preserved : goal.loop-j-preserved
loop-j-preserved c = visited_more (omega arith) (omega arith) c.loop-j.invariant c.turn-behind.ensures

pub returns : goal.returns
returns c =
    let end : c.loop-j.j ≡ 8 = omega arith in
    rw end at c.loop-j.invariant

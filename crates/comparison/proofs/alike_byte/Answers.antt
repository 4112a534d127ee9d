-- `comparison::alike_byte` meets its contract. The loop's invariant: the states of the first j joint states of the byte hold the same.
use native.Mathlib.Omega.{arith}
use mathlib.Core.Path.{◌≡◌, ap}
use Rattle.theory.specs.Tests.{holds}
use Rattle.joint_states.proofs.SetLaws.{byte_none}
use mathlib.Core.Bool.{not}
use Rattle.comparison.proofs.HeldLaws.{alike_skip, alike_none, alike_more, unlike}
use Rattle.comparison.proofs.alike_byte.Goals as goal

pub returns-then-reached-k-eq0 : goal.returns-then-reached-k-eq0
returns-then-reached-k-eq0 c = holds (alike_skip (byte_none c.args.reached.now c.args.k c.if-reached-k-eq0.true))

pub loop-j-init : goal.loop-j-init
loop-j-init c = alike_none (omega arith)

pub returns-then-not-alike : goal.returns-then-not-alike
returns-then-not-alike c = unlike (omega arith) (omega arith) c.alike.ensures (ap not c.if-not-alike.true)

pub loop-j-preserved : goal.loop-j-preserved
loop-j-preserved c = alike_more (omega arith) c.loop-j.invariant c.alike.ensures (ap not c.if-not-alike.false)

pub returns : goal.returns
returns c = let l = c.loop-j in
    let end : l.j ≡ 8 = omega arith in
    holds (rw end at l.invariant)

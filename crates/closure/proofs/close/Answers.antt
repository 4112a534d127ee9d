-- `closure::close` meets its contract. The loop's invariant: the mask grew by passes; it only gets larger.
use native.Mathlib.Omega.{arith}
use mathlib.Core.Path.{sym, ◌∙◌}
use Rattle.closure.proofs.CloseLaws.{growing_none, growing_more, growing_end, pass_more}
use Rattle.closure.proofs.close.Goals as goal

pub loop-all-init : goal.loop-all-init
loop-all-init c = growing_none _

pub returns-then-next-all : goal.returns-then-next-all
returns-then-next-all c = growing_end c.loop-all.invariant (sym c.pass-next.ensures ∙ c.if-next-all.true)

pub loop-all-smaller : goal.loop-all-smaller
loop-all-smaller c = let a = c.args in
    omega (arith, pass_more a.arrows.now c.loop-all.all, c.pass-next.ensures)

pub loop-all-preserved : goal.loop-all-preserved
loop-all-preserved c = rw c.pass-next.ensures (growing_more c.loop-all.invariant)

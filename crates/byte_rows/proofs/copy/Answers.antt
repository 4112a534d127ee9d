-- `byte_rows::copy` meets its contract. The loop's invariant: the output is the one lent with the first bytes put in.
use native.Mathlib.Omega.{arith}
use native.Mathlib.Numerals.{add-one}
use lib.Seq.{paste-zero, paste-suc, length-paste}
use Rattle.byte_rows.proofs.copy.Goals as goal

pub loop-i-init : goal.loop-i-init
loop-i-init c = paste-zero c.args.out.now c.args.at c.args.from.now

pub bounds-out-at : goal.bounds-out-at
bounds-out-at c =
    let a = c.args in
    let l = c.loop-i in
    rw (l.invariant, length-paste a.out.now a.at a.from.now l.i (omega arith) (omega arith)) (omega arith)

pub loop-i-preserved : goal.loop-i-preserved
loop-i-preserved c =
    let a = c.args in
    let l = c.loop-i in
    rw (l.invariant, add-one) (paste-suc a.out.now a.at a.from.now l.i 0 (omega arith) (omega arith))

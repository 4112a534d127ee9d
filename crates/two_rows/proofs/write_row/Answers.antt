-- `two_rows::write_row` meets its contract. The loop's invariant: the first c values are written.
use native.Mathlib.Omega.{arith}
use Rattle.theory.proofs.PlacedLaws.{placed_none}
use Rattle.two_rows.proofs.WriteLaws.{wrote_more}
use Rattle.two_rows.proofs.write_row.Goals as goal

pub loop-c-init : goal.loop-c-init
loop-c-init c = placed_none c.args.rows.now c.args.at

pub loop-c-preserved : goal.loop-c-preserved
loop-c-preserved c = let a = c.args in let l = c.loop-c in
    rw l.invariant (wrote_more a.inside a.stop a.at l.c c.value.result a.rows.now c.value.ensures (omega arith))

-- `byte_rows::clear` meets its contract. The loop's invariant: the first bytes are 0.
use native.Mathlib.Omega.{arith}
use Rattle.theory.proofs.ClearLaws.{zeroed_none, zeroed_more}
use Rattle.byte_rows.proofs.clear.Goals as goal

pub loop-byte-init : goal.loop-byte-init
loop-byte-init c = zeroed_none c.args.part.now

pub loop-byte-preserved : goal.loop-byte-preserved
loop-byte-preserved c = let l = c.loop-byte in rw l.invariant (zeroed_more l.byte-index c.args.part.now (omega arith))

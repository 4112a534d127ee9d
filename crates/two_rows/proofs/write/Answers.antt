-- `two_rows::write` meets its contract: the second row is placed behind the first.
use native.Mathlib.Omega.{arith}
use mathlib.Core.Path.{◌∙◌, ap}
use mathlib.Core.Bool.{not}
use Rattle.theory.proofs.RangeLaws.{entry_count}
use Rattle.theory.specs.Placed.{placed}
use Rattle.theory.proofs.PlacedLaws.{placed_more}
use Rattle.settled.specs.Ends.{row_by}
use Rattle.two_rows.proofs.WriteLaws.{written_value}
use Rattle.two_rows.proofs.write.Goals as goal

pub returns : goal.returns
returns c =
    let a = c.args in
    let stop = a.stop in
    c.write_row-2.ensures
    ∙ ap (placed _ (row_by (not stop.ascends) stop.settled stop.class a.n)) c.write_row.ensures
    ∙ placed_more 0 _ (row_by stop.ascends stop.settled stop.class a.n) (row_by (not stop.ascends) stop.settled stop.class a.n) a.rows.now (omega (arith, entry_count (written_value stop.ascends stop) 0 a.n)) (omega arith)

-- Its three pieces, one behind the other.
use Rattle.std.proofs.Common.{arith}
use Rattle.text.proofs.TextLaws.{wrote_as, wrote_on}
use Rattle.order_counterexample.proofs.TextLaws.{row_pieces, rest_length}
use Rattle.order_counterexample.proofs.row_line.Goals as goal

pub returns : goal.returns
returns c =
    let row = c.args.row.now in
    wrote_as (row_pieces row c.requires.0) (omega (arith, rest_length row)) (wrote_on c.number-second.ensures (wrote_on c.row_numbers-end.ensures c.word.ensures))

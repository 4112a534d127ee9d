-- `text::row_numbers` meets its contract. The loop's invariant: the first numbers are written, each of at most 4 bytes.
use native.Mathlib.Omega.{arith}
use mathlib.Core.Path.{ap}
use mathlib.Core.List.{map, flatten}
use lib.Seq.{take_all}
use Rattle.theory.specs.Listing.{spaced}
use Rattle.text.proofs.TextLaws.{wrote_none, wrote_as, wrote_turn}
use Rattle.text.proofs.DigitLaws.{row_more}
use Rattle.text.proofs.row_numbers.Goals as goal

pub loop-n-init : goal.loop-n-init
unfolding flatten
loop-n-init c = wrote_none _ _ (omega arith)

pub loop-n-preserved : goal.loop-n-preserved
loop-n-preserved c =
    let l = c.loop-n in
    wrote_turn l.n-index (row_more spaced c.args.row.now l.n-index (omega arith)) l.invariant c.spaced_number-end.ensures

pub returns : goal.returns
returns c =
    let l = c.loop-n in
    wrote_as (ap (λ r. flatten (map spaced r)) (take_all l.n-index c.args.row.now (omega arith))) (omega arith) l.invariant

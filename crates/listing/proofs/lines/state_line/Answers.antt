-- `listing::lines::state_line` meets its contract: its five pieces, one behind the other.
use native.Mathlib.Omega.{arith}
use mathlib.Core.Path.{refl}
use Rattle.theory.specs.Listing.{state_line}
use Rattle.text.specs.Text.{Wrote}
use Rattle.text.proofs.TextLaws.{wrote_as, wrote_on}
use Rattle.listing.specs.Lines.{longest_row}
use Rattle.listing.proofs.lines.state_line.Goals as goal

pub returns : goal.returns
unfolding state_line
returns c =
    let successors = c.successors.ensures in
    let row-short : Wrote _ _ _ longest_row _ _ = wrote_as refl (omega (arith, successors.1, c.requires.0)) c.row_numbers-end.ensures in
    rw (← successors.0)
    (wrote_on c.word-first.ensures (wrote_on c.number-second.ensures (wrote_on c.word-third.ensures (wrote_on row-short c.held_field.ensures))))

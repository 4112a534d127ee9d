-- `listing::lines::start_line` meets its contract: its four pieces, one behind the other.
use Rattle.theory.specs.Listing.{start_line}
use Rattle.text.proofs.TextLaws.{wrote_on}
use Rattle.listing.proofs.lines.start_line.Goals as goal

pub returns : goal.returns
unfolding start_line
returns c =
    let start = c.starts.ensures.starts c.args.p c.requires.0 in
    rw (← start) (wrote_on c.word-first.ensures (wrote_on c.number-second.ensures (wrote_on c.spaced_number-end.ensures c.word.ensures)))

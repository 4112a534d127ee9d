-- `listing::lines::held_field` meets its contract: its three pieces, one behind the other.
use Rattle.text.proofs.TextLaws.{wrote_on}
use Rattle.listing.proofs.lines.held_field.Goals as goal

pub returns : goal.returns
returns c =
    rw (← c.held_word.ensures) (wrote_on c.word-first.ensures (wrote_on c.number_of-end.ensures c.word.ensures))

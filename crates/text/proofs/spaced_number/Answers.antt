-- `text::spaced_number` meets its contract: its two pieces, one behind the other.
use Rattle.text.proofs.TextLaws.{wrote_on}
use Rattle.text.proofs.spaced_number.Goals as goal

pub returns : goal.returns
returns c = wrote_on c.word-digits.ensures c.number.ensures

-- `refusal_line::refused` meets its contract: its three pieces, one behind the other.
use Rattle.text.proofs.TextLaws.{wrote_on, wrote_first}
use Rattle.refusal_line.proofs.refused.Goals as goal

pub returns : goal.returns
returns c =
    wrote_first (wrote_on c.word-at.ensures (wrote_on c.number-end.ensures c.word.ensures))

-- What is written first is printed.
use Rattle.text.proofs.TextLaws.{wrote_first}
use Rattle.order_verify.proofs.accepted.Goals as goal

pub returns : goal.returns
returns c = wrote_first c.word.ensures

-- The word stands at the text's first place.
use Rattle.text.proofs.TextLaws.{wrote_first}
use Rattle.order_counterexample.proofs.none.Goals as goal

pub returns : goal.returns
returns c = wrote_first c.word.ensures

-- The numbers are bytes or they are not, and what is answered to the first bytes is answered to the whole.
use Rattle.theory.proofs.Reflect.{says_true, says_false}
use Rattle.order_counterexample.proofs.EvidenceLaws.{told_large, told_small}
use Rattle.order_counterexample.proofs.FrontLaws.{tells}
use Rattle.order_counterexample.proofs.answer.Goals as goal

pub returns-then-small : goal.returns-then-small
returns-then-small c = tells c.evidence.ensures.text.fits (told_small (says_true c.small.ensures c.if-small.true) c.evidence.ensures)

pub returns : goal.returns
returns c = tells c.large.ensures.fits (told_large _ _ _ _ (says_false c.small.ensures c.if-small.false) c.large.ensures)

-- `comparison::same_answers` meets its contract: the tables answer alike exactly when the states of every reached joint state hold the same.
use mathlib.Core.Path.{sym, ◌∙◌}
use Rattle.comparison.proofs.AnswerLaws.{alike_answers}
use Rattle.comparison.proofs.same_answers.Goals as goal

pub returns : goal.returns
returns c = let t = c.reach.ensures in (alike_answers t c.all_alike.ensures, t.walking.long ∙ sym c.requires)

-- `comparison::same_held` meets its contract: the words decide.
use mathlib.Core.Path.{◌∙◌, ap}
use Rattle.theory.specs.Table.{word_in}
use Rattle.comparison.proofs.HeldLaws.{words_say}
use Rattle.comparison.proofs.same_held.Goals as goal

pub held_word-requires : goal.held_word-requires
held_word-requires c = rw c.ours.ensures.table c.requires.0

pub held_word-requires-2 : goal.held_word-requires-2
held_word-requires-2 c = rw c.theirs.ensures.table c.requires.1

pub returns : goal.returns
returns c =
    let a = c.args in
    words_say c.ours.ensures.comparable c.requires.0 c.requires.1 (c.held_word.ensures ∙ ap (λ t. word_in t a.x.0) c.ours.ensures.table) (c.held_word-2.ensures ∙ ap (λ t. word_in t a.y.0) c.theirs.ensures.table)

-- `text::word` meets its contract: what is copied is placed.
use mathlib.Core.Path.{◌∙◌}
use borrow.Author.Rules.{rules}
use Rattle.theory.proofs.PlacedLaws.{placed_row}
use Rattle.text.proofs.word.Goals as goal

pub returns : goal.returns
returns c =
    let a = c.args in
    record {
      text = c.copy.ensures ∙ placed_row a.text.now a.at a.bytes.now;
      place = search rules;
      fits = search rules;
      short = search rules;
    }

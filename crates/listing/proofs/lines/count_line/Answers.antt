-- `listing::lines::count_line` meets its contract: its three pieces, one behind the other.
use mathlib.Core.Path.{◌≡◌, ◌∙◌, ap}
use Rattle.theory.specs.Table.{states_in}
use Rattle.theory.specs.Listing.{count_line}
use Rattle.text.proofs.TextLaws.{wrote_on}
use Rattle.listing.proofs.lines.count_line.Goals as goal

pub returns : goal.returns
unfolding count_line
returns c =
    let count : c.states-count.result ≡ states_in c.args.table.now = c.states-count.ensures.0 ∙ ap states_in c.bytes.ensures.bytes in
    rw (← count) (wrote_on c.word-first.ensures (wrote_on c.number-end.ensures c.word.ensures))

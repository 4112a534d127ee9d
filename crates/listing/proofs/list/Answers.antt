-- `listing::list` meets its contract: the count, the starts and the states, one behind the other, are the listing.
use Rattle.theory.specs.Listing.{table_listing}
use Rattle.text.proofs.TextLaws.{wrote_on, wrote_first}
use Rattle.listing.proofs.list.Goals as goal

pub returns : goal.returns
unfolding table_listing
returns c =
    wrote_first (wrote_on c.count_line-starts.ensures (wrote_on c.start_lines-states.ensures c.state_lines.ensures))

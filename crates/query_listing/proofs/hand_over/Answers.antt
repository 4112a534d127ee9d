-- `query_listing::hand_over` meets its contract: the text is shorter than the listing, or it takes it.
use Rattle.query_listing.proofs.ListedLaws.{text_short, text_whole}
use Rattle.query_listing.proofs.hand_over.Goals as goal

pub returns-then-text-listing : goal.returns-then-text-listing
returns-then-text-listing c = text_short c.args.listing.now c.args.text.now c.if-text-listing.true

pub returns : goal.returns
returns c = text_whole c.args.listing.now c.args.text.now c.if-text-listing.false c.copy.ensures

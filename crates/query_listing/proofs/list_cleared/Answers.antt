-- `query_listing::list_cleared` meets its contract: clearing changes neither the answer nor the text.
use mathlib.Core.Path.{◌∙◌, subst}
use Rattle.theory.proofs.ClearLaws.{zeroed_whole}
use Rattle.query_listing.specs.Listed.{Handed}
use Rattle.query_listing.proofs.list_cleared.Goals as goal

pub returns : goal.returns
returns c = (subst (λ l. Handed l c.args.text.now c.hand_over-listed.new.text c.hand_over-listed.result) c.write_listing-n.ensures.0.first c.hand_over-listed.ensures, c.clear.ensures ∙ zeroed_whole c.write_listing-n.new.work c.args.work.now c.write_listing-n.ensures.1)

-- `item_check::clear_from` meets its contract.
use mathlib.Core.Path.{◌∙◌}
use lib.Dec.{eqb}
use lib.ListN.{drop}
use borrow.Author.Rules.{rules}
use borrow.Author.Tests.{tests}
use Rattle.std.proofs.lemmas.Iterator.{YieldsList-from_slice}
use Rattle.std.proofs.lemmas.Iterator.Adapters.{YieldsList-from_skip}
use Rattle.std.proofs.lemmas.Iterator.Search.{all_from_yields_List}
use Rattle.theory.specs.Limits.{unused_byte}
use Rattle.orders.specs.Orders.{order_of}
use Rattle.item_check.proofs.EveryLaws.{every_all}
use Rattle.item_check.proofs.clear_from.Goals as goal

pub returns : goal.returns
returns c = let l = order_of c.args.body in let n = c.args.used in
    all_from_yields_List (λ x. eqb x unused_byte) _ _ _ c.all.ensures.ran (YieldsList-from_skip n (YieldsList-from_slice l cc) cc) (λ x b q k. search (rules, tests)) ∙ every_all (λ x. eqb x unused_byte) (drop n l)

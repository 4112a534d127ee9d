-- `item_check::below` meets its contract.
use mathlib.Core.Path.{◌∙◌}
use lib.Dec.{ltb}
use borrow.Author.Rules.{rules}
use borrow.Author.Tests.{tests}
use Rattle.std.proofs.lemmas.Iterator.{YieldsList-from_slice}
use Rattle.std.proofs.lemmas.Iterator.Search.{all_from_yields_List}
use Rattle.orders.specs.Orders.{order_of}
use Rattle.item_check.proofs.EveryLaws.{every_all}
use Rattle.item_check.proofs.below.Goals as goal

pub returns : goal.returns
returns c = let l = order_of c.args.named in let n = c.args.columns in
    all_from_yields_List (λ x. ltb x n) _ _ _ c.all.ensures.ran (YieldsList-from_slice l cc) (λ x b q k. search (rules, tests)) ∙ every_all (λ x. ltb x n) l

-- `item_check::check_order` meets its contract.
use mathlib.Core.Path.{◌∙◌, ap}
use borrow.Author.Tests.{le-ltb}
use Rattle.theory.specs.Orders.{columns}
use Rattle.theory.specs.Query.{body_refusal, order_refusal}
use Rattle.theory.proofs.Picks.{pick_no, picks}
use Rattle.orders.specs.Orders.{order_of}
use Rattle.item_check.proofs.check_order.Goals as goal

pub returns-then-head-gt-MAX_LENGTH : goal.returns-then-head-gt-MAX_LENGTH
unfolding order_refusal
returns-then-head-gt-MAX_LENGTH c = search picks

pub returns : goal.returns
unfolding order_refusal
returns c = let a = c.args in
    pick_no _ (le-ltb _ _ c.if-head-gt-MAX_LENGTH.false)
    (c.check_body.ensures ∙ ap (body_refusal a.columns a.head (order_of a.body)) (c.columns-named.ensures.order ∙ ap columns c.front.ensures.order))

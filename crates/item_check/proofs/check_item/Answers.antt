-- `item_check::check_item` meets its contract: an order before P + T, a dependency from there on.
use native.Mathlib.Omega.{arith}
use borrow.Author.Tests.{lt-ltb, le-ltb}
use Rattle.theory.specs.Query.{item_refusal, order_count}
use Rattle.theory.proofs.Picks.{pick_yes, pick_no}
use Rattle.item_check.proofs.check_item.Goals as goal

pub returns-then-i-order_count : goal.returns-then-i-order_count
unfolding item_refusal
returns-then-i-order_count c = let a = c.args in pick_yes _ (lt-ltb a.i (order_count a.query.now) (omega arith)) (cc)

pub returns : goal.returns
unfolding item_refusal
returns c = let a = c.args in pick_no _ (le-ltb a.i (order_count a.query.now) (omega arith)) (cc)

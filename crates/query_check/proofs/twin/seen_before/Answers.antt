-- `query_check::twin::seen_before` meets its contract. The loop's invariant: none of the first j orders is order i.
use native.Mathlib.Omega.{arith}
use mathlib.Core.Path.{sym, ◌∙◌}
use borrow.Author.Count.{below_more}
use Rattle.theory.proofs.Reflect.{decides_order, says_true, says_false}
use Rattle.theory.specs.Query.{order_at}
use Rattle.orders.specs.Orders.{order_of}
use Rattle.query.proofs.Searches.{among, not_among}
use Rattle.query_check.proofs.twin.seen_before.Goals as goal

pub returns-then-same : goal.returns-then-same
returns-then-same c = let a = c.args in let f = order_at a.query.now in
    let e = says_true (decides_order (order_of c.order_at-order.result) (order_of c.order_at.result)) (sym c.same.ensures ∙ c.if-same.true) in
    sym (among decides_order f a.i (f a.i) c.loop-j.j (omega arith) (cc))

pub loop-j-preserved : goal.loop-j-preserved
loop-j-preserved c = let n = says_false (decides_order (order_of c.order_at-order.result) (order_of c.order_at.result)) (sym c.same.ensures ∙ c.if-same.false) in
    below_more _ _ c.loop-j.invariant (λ e. n (cc))

pub returns : goal.returns
returns c = let a = c.args in let f = order_at a.query.now in
    sym (not_among decides_order f a.i (f a.i) (λ k h. c.loop-j.invariant k (omega arith)))

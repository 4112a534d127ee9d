-- `query::rule` meets its contract: an equal's two columns, or a fix's left columns and the one behind them.
use Prim.Native.Nat.{◌≤◌}
use native.Mathlib.Omega.{arith}
use mathlib.Core.Path.{◌≡◌}
use lib.ListN.{length, take, length-take}
use borrow.Author.Tests.{eq-eqb, ne_eqb}
use borrow.Author.Rules.{rules}
use Rattle.orders.specs.Orders.{order_of}
use Rattle.theory.proofs.Picks.{pick_yes, pick_no}
use Rattle.query.proofs.Bodies.{padded_front, padded_next}
use Rattle.query.proofs.rule.Goals as goal

pub returns-then-kind-eq-EQUAL_KIND : goal.returns-then-kind-eq-EQUAL_KIND
returns-then-kind-eq-EQUAL_KIND c = pick_yes _ (eq-eqb _ _ c.if-kind-eq-EQUAL_KIND.true) (cc)

pub returns : goal.returns
returns c = let a = c.args in
    let four : length a.body.entries ≡ 4 = search rules in
    let short : length (order_of a.body) ≤ 4 = omega (arith, length-take a.body.len a.body.entries) in
    let e : c.length-count.result ≡ length (take a.kind (order_of a.body)) = cc in
    pick_no _ (ne_eqb _ _ c.if-kind-eq-EQUAL_KIND.false) (cc (padded_front (order_of a.body) short a.kind c.length-count.result e, padded_next (order_of a.body) short a.kind c.length-count.result e))

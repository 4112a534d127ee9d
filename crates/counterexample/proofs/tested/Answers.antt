-- `counterexample::tested` meets its contract: the test is prepared for the rules in force, and the orders are the query's.
use native.Mathlib.Omega.{arith}
use mathlib.Core.Path.{◌≡◌, ◌∙◌, ap}
use Rattle.theory.specs.Query.{order_at}
use Rattle.orders.specs.Orders.{order_of}
use Rattle.column_masks.proofs.MaskLaws.{order_narrow}
use Rattle.counterexample.proofs.tested.Goals.{After-order-o}
use Rattle.counterexample.proofs.tested.Goals as goal

-- the orders that are read are the query's
one : (c : After-order-o) → order_of c.order-p.result ≡ order_at c.args.query.now c.args.produced.0
one c = c.order-p.ensures.order ∙ ap (λ b. order_at b c.args.produced.0) c.bytes-bytes.ensures.bytes

other : (c : After-order-o) → order_of c.order-o.result ≡ order_at c.args.query.now c.args.order.0
other c = c.order-o.ensures.order ∙ ap (λ b. order_at b c.args.order.0) c.bytes-bytes.ensures.bytes

pub test-requires : goal.test-requires
test-requires c = let q = c.args.query.now in let checked = c.bytes-bytes.ensures.checked in let here = (goal.at.test-requires c).After-order-o in
    (omega arith, (order_narrow q checked _ _ (one here) c.requires.0, order_narrow q checked _ _ (other here) c.requires.1))

-- `item_check::repeated` meets its contract. The loop's invariant: none of the first i columns is among those before it.
use native.Mathlib.Omega.{arith}
use mathlib.Core.Path.{sym}
use Rattle.theory.proofs.Reflect.{decides_number}
use Rattle.orders.specs.Orders.{order_of}
use Rattle.query.proofs.Searches.{repeats_found, repeats_none}
use Rattle.item_check.proofs.repeated.Goals as goal

pub returns-then-has : goal.returns-then-has
returns-then-has c = let l = order_of c.args.named in sym (repeats_found decides_number 0 l c.loop-i.i (omega arith) (cc))

pub returns : goal.returns
returns c = let l = order_of c.args.named in sym (repeats_none decides_number 0 l (λ k h. c.loop-i.invariant k (omega arith)))

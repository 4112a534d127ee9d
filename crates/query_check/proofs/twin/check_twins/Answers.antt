-- `query_check::twin::check_twins` meets its contract. The loop's invariant: none of the first i orders was seen before it.
use native.Mathlib.Omega.{arith}
use mathlib.Core.Path.{refl}
use Rattle.theory.proofs.Reflect.{decides_order}
use Rattle.theory.specs.Query.{order_at, order_count, twin_refusal}
use Rattle.theory.proofs.Picks.{pick_yes, pick_no}
use Rattle.query.proofs.Searches.{twice, never_twice}
use Rattle.query_check.proofs.twin.check_twins.Goals as goal

pub returns-then-seen_before : goal.returns-then-seen_before
unfolding twin_refusal
returns-then-seen_before c = let b = c.args.query.now in
    pick_yes _ (twice decides_order (order_at b) (order_count b) c.loop-i.i (omega arith) (cc)) refl

pub returns : goal.returns
unfolding twin_refusal
returns c = let b = c.args.query.now in
    pick_no _ (never_twice decides_order (order_at b) (order_count b) (λ k h. c.loop-i.invariant k (omega arith))) refl

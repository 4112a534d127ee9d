-- `choices::held::word` meets its contract. The loop's invariant: the word is the held bits from i on, as a number.
use Prim.Native.Nat.{◌+◌, ◌*◌, ◌-◌, ◌≤◌}
use native.Mathlib.Omega.{arith}
use mathlib.Core.Path.{◌≡◌, sym, ◌∙◌, ap, ap₂}
use lib.ListN.{drop}
use Rattle.theory.specs.Settled.{is_held}
use Rattle.theory.specs.Table.{bit, number}
use Rattle.theory.specs.Query.{produced_count, tested_count, order_count, order_at}
use Rattle.theory.proofs.PassedLaws.{query_passed}
use Rattle.orders.specs.Orders.{order_of}
use Rattle.column_masks.proofs.MaskLaws.{order_narrow}
use Rattle.choices.specs.Words.{held_bits}
use Rattle.choices.proofs.HeldLaws.{number_none, number_more, number_room}
use Rattle.choices.proofs.held.word.Goals.{After-order-produced, After-tested, After-order-order}
use Rattle.choices.proofs.held.word.Goals as goal

-- there are as many orders as the query has, and no more than its limits
many : (c : After-tested) → c.produced.result + c.tested.result ≡ order_count c.args.query.now
many c = let same = c.bytes-bytes.ensures.bytes in ap₂ (λ p t. p + t) (c.produced.ensures ∙ ap produced_count same) (c.tested.ensures ∙ ap tested_count same)

few : (c : After-tested) → order_count c.args.query.now ≤ 16
few c = let s = (query_passed c.args.query.now c.bytes-bytes.ensures.checked).sized in omega (arith, s.few_produced, s.few_tested)

-- the two orders that are read are the query's
produced : (c : After-order-produced) → order_of c.order-produced.result ≡ order_at c.args.query.now c.args.p
produced c = c.order-produced.ensures.order ∙ ap (λ b. order_at b c.args.p) c.bytes-bytes.ensures.bytes

order : (c : After-order-order) → order_of c.order-order.result ≡ order_at c.args.query.now (c.loop-i.i - 1)
order c = c.order-order.ensures.order ∙ ap (λ b. order_at b (c.loop-i.i - 1)) c.bytes-bytes.ensures.bytes

pub overflow_step-i : goal.overflow_step-i
overflow_step-i c = let here = (goal.at.overflow_step-i c).After-tested in omega (arith, many here, few here)

pub loop-i-init : goal.loop-i-init
loop-i-init c = let a = c.args in let b = a.query.now in let e = many (goal.at.loop-i-init c).After-tested in
    λ rs f. number_none (λ i. is_held rs (order_at b a.p) (order_at b i)) (order_count b) (c.produced.result + c.tested.result) (omega arith)

pub held-requires : goal.held-requires
held-requires c = let b = c.args.query.now in let checked = c.bytes-bytes.ensures.checked in let here = goal.at.held-requires c in (
  omega arith,
  (
    order_narrow b checked _ _ (produced here.After-order-produced) (omega (arith, c.requires.1)),
    order_narrow b checked _ _ (order here.After-order-order) (omega (arith, many here.After-tested)),
  ),
)

pub with_bit-word-requires : goal.with_bit-word-requires
with_bit-word-requires c = let b = c.args.query.now in let h = few (goal.at.with_bit-word-requires c).After-tested in let l = c.loop-i in
    let f = c.requires.0 in
    rw (l.invariant f.0 f.1) (number_room (λ i. is_held f.0 (order_at b c.args.p) (order_at b i)) (order_count b) l.i (omega arith) (omega arith))

pub loop-i-preserved : goal.loop-i-preserved
loop-i-preserved c = let a = c.args in let l = c.loop-i in let here = goal.at.loop-i-preserved c in
    let b = a.query.now in
    let j = l.i - 1 in
    let back : j + 1 ≡ l.i = omega arith in
    λ rs f.
    let held : c.held.result ≡ is_held rs (order_at b a.p) (order_at b j) =
    c.held.ensures rs f ∙ ap₂ (is_held rs) (produced here.After-order-produced) (order here.After-order-order) in
    c.with_bit-word.ensures
    ∙ ap₂ (λ t w. bit t + 2 * w) held (l.invariant rs f ∙ ap (λ k. number (drop k (held_bits b rs a.p))) (sym back))
    ∙ sym (number_more (λ i. is_held rs (order_at b a.p) (order_at b i)) (order_count b) j (omega (arith, many here.After-tested)))

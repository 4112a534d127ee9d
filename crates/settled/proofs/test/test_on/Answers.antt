-- `settled::test::test_on` meets its contract: a turn reads its entry and compares it; it is passed over, or the test ends there.
use Prim.Native.Nat.{◌^◌, ◌<◌}
use native.Mathlib.Omega.{arith}
use mathlib.Core.Path.{◌≡◌, sym, ◌∙◌, ap, ap₂, subst, subst₂}
use mathlib.Core.Bool.{not}
use lib.Bits.{bit_or}
use lib.ListN.{length, get_or}
use Rattle.std.specs.Prelude.{Some}
use Rattle.theory.specs.Tests.{in_mask}
use Rattle.theory.specs.Orders.{descends, column}
use Rattle.orders.specs.Orders.{order_of}
use Rattle.column_masks.proofs.MaskLaws.{column_narrow}
use Rattle.closure.specs.Closing.{Closes}
use Rattle.settled.specs.Places.{class_in, meets}
use Rattle.settled.proofs.TestLaws.{Ended, midway_begins, midway_passes, midway_fails, midway_last, midway_next, meets_there}
use Rattle.settled.proofs.test.test_on.Goals.{After-column_of-c, After-has, After-meets}
use Rattle.settled.proofs.test.test_on.Goals as goal

-- a turn's place in o is one of o's entries, and its column, which was read, is below 16
inside : (c : After-column_of-c) → c.loop-i.i < length (order_of c.args.o)
inside c = omega arith

read : (c : After-column_of-c) → c.column_of-c.result ≡ column (get_or (order_of c.args.o) c.loop-i.i 0)
read c = c.column_of-c.ensures ∙ ap column c.entry-e.ensures

narrow : (c : After-column_of-c) → column (get_or (order_of c.args.o) c.loop-i.i 0) < 16
narrow c = column_narrow (order_of c.args.o) c.loop-i.i c.requires.1 (inside c)

-- what the mask says of it, and the comparison
passed : (c : After-has) → in_mask c.loop-i.mask (column (get_or (order_of c.args.o) c.loop-i.i 0)) ≡ c.has.result
passed c = sym (c.has.ensures ∙ ap (in_mask c.loop-i.mask) (read (goal.at.After-has c).After-column_of-c))

comparison : (c : After-meets) → let a = c.args in meets a.classes.now (get_or (order_of a.o) c.loop-i.i 0) (order_of a.p) c.unsettled-j.result ≡ c.meets.result
comparison c = let a = c.args in sym (c.meets.ensures ∙ ap (λ x. meets a.classes.now x (order_of a.p) c.unsettled-j.result) c.entry-e.ensures)

pub loop-i-init : goal.loop-i-init
loop-i-init c = let a = c.args in
    (omega arith, midway_begins a.arrows.now a.start a.classes.now (order_of a.p) (order_of a.o))

pub has-requires : goal.has-requires
has-requires c = rw (read (goal.at.has-requires c).After-column_of-c) (narrow (goal.at.has-requires c).After-column_of-c)

pub loop-i-preserved-then-has : goal.loop-i-preserved-then-has
loop-i-preserved-then-has c = let a = c.args in let at = c.loop-i in let here = goal.at.loop-i-preserved-then-has c in
    (at.invariant.0, midway_passes a.arrows.now a.start a.classes.now (order_of a.p) (order_of a.o) at.i at.j at.mask at.invariant.1 (inside here.After-column_of-c) (passed here.After-has ∙ c.if-has.true))

pub meets-requires : goal.meets-requires
meets-requires c = (rw c.entry-e.ensures (narrow (goal.at.meets-requires c).After-column_of-c), c.requires.0)

pub class_by-requires : goal.class_by-requires
class_by-requires c = rw c.entry-e.ensures (narrow (goal.at.class_by-requires c).After-column_of-c)

pub returns-then-not-meets : goal.returns-then-not-meets
returns-then-not-meets c = let a = c.args in let at = c.loop-i in let k = c.unsettled-j in let here = goal.at.returns-then-not-meets c in
    subst₂ (λ class up. Ended a.arrows.now a.start a.classes.now (order_of a.p) (order_of a.o) (Some (record { settled = at.mask; class = class; ascends = up })))
    (sym (c.class_by.ensures ∙ ap₂ (λ e y. class_in a.classes.now e (descends y)) c.entry-e.ensures c.entry-x.ensures)) (sym (ap not (c.descends.ensures ∙ ap descends c.entry-x.ensures)))
    (midway_fails a.arrows.now a.start a.classes.now (order_of a.p) (order_of a.o) at.i at.j at.mask at.invariant.1 (inside here.After-column_of-c) (passed here.After-has ∙ c.if-has.false) (narrow here.After-column_of-c)
    k.result k.ensures (comparison here.After-meets ∙ c.if-not-meets.true))

pub returns-then-i-m : goal.returns-then-i-m
returns-then-i-m c = let a = c.args in let at = c.loop-i in let k = c.unsettled-j in let here = goal.at.returns-then-i-m c in
    midway_last a.arrows.now a.start a.classes.now (order_of a.p) (order_of a.o) at.i at.j at.mask at.invariant.1 (inside here.After-column_of-c) (passed here.After-has ∙ c.if-has.false) (narrow here.After-column_of-c)
    k.result k.ensures (comparison here.After-meets ∙ c.if-not-meets.false) (omega arith)

pub bit-requires : goal.bit-requires
bit-requires c = rw (read (goal.at.bit-requires c).After-column_of-c) (narrow (goal.at.bit-requires c).After-column_of-c)

pub loop-i-preserved : goal.loop-i-preserved
loop-i-preserved c = let a = c.args in let at = c.loop-i in let k = c.unsettled-j in let here = goal.at.loop-i-preserved c in
    let met = comparison here.After-meets ∙ c.if-not-meets.false in
    let closes = subst (λ x. Closes a.arrows.now (bit_or at.mask x) c.close-mask.result) (c.bit.ensures ∙ ap (λ x. 2 ^ x) (read here.After-column_of-c)) c.close-mask.ensures in (
      omega (arith, meets_there a.classes.now (get_or (order_of a.o) at.i 0) (order_of a.p) k.result (sym met)),
      midway_next a.arrows.now a.start a.classes.now (order_of a.p) (order_of a.o) at.i at.j at.mask at.invariant.1 (inside here.After-column_of-c) (passed here.After-has ∙ c.if-has.false) (narrow here.After-column_of-c)
          k.result k.ensures met c.close-mask.result closes,
    )

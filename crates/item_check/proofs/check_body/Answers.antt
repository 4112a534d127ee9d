-- `item_check::check_body` meets its contract: the three checks in the order of the list, by what the searches found.
use Rattle.theory.specs.Query.{body_refusal}
use Rattle.item_check.proofs.check_body.Goals as goal

pub returns-then-not-clear_from : goal.returns-then-not-clear_from
unfolding body_refusal
returns-then-not-clear_from c =
    rw (← c.clear_from.ensures, c.if-not-clear_from.true)

pub returns-then-not-below : goal.returns-then-not-below
unfolding body_refusal
returns-then-not-below c =
    rw (← c.clear_from.ensures, c.if-not-clear_from.false)
    (rw (← c.below.ensures, c.if-not-below.true))

pub returns-then-repeated : goal.returns-then-repeated
unfolding body_refusal
returns-then-repeated c =
    rw (← c.clear_from.ensures, c.if-not-clear_from.false)
    (rw (← c.below.ensures, c.if-not-below.false)
    (rw (← c.repeated.ensures, c.if-repeated.true)))

pub returns : goal.returns
unfolding body_refusal
returns c =
    rw (← c.clear_from.ensures, c.if-not-clear_from.false)
    (rw (← c.below.ensures, c.if-not-below.false)
    (rw (← c.repeated.ensures, c.if-repeated.false)))

-- `item_check::check_dependency` meets its contract.
use mathlib.Core.Path.{refl, ◌∙◌, ap, ap₂}
use mathlib.Core.Logic.{⊎_elim}
use lib.ListN.{take}
use borrow.Author.Tests.{lt-ltb, le-ltb, le-leb, lt-leb}
use Rattle.theory.specs.Query.{body_refusal, dependency_refusal}
use Rattle.theory.proofs.Picks.{pick_yes, pick_no}
use Rattle.orders.specs.Orders.{order_of}
use Rattle.item_check.proofs.check_dependency.Goals as goal

pub returns-then-kind-gt-EQUAL_KIND : goal.returns-then-kind-gt-EQUAL_KIND
unfolding dependency_refusal
returns-then-kind-gt-EQUAL_KIND c =
    ⊎_elim (λ h. pick_yes _ (lt-ltb _ _ h) refl) (λ h. pick_no _ (le-ltb _ _ h.0) (pick_yes _ (le-leb _ _ h.1) refl)) c.then-kind-gt-EQUAL_KIND.either

pub returns : goal.returns
unfolding dependency_refusal
returns c = let a = c.args in let used = c.used_by-used.ensures in
    pick_no _ (le-ltb _ _ c.if-kind-gt-EQUAL_KIND.false)
    (pick_no _ (lt-leb _ _ c.if-sets-set.false)
    (c.check_body.ensures ∙ ap₂ (λ n. body_refusal a.columns n (order_of a.body)) used (c.front-named.ensures.order ∙ ap (λ n. take n (order_of a.body)) used)))

-- `rules_in_force::listed` meets its contract: by the kind of the dependency.
use mathlib.Core.Path.{◌≡◌, refl, ◌∙◌}
use mathlib.Core.Bool.{Bool, true, false}
use lib.Dec.{eqb}
use borrow.Author.Tests.{eq-eqb, ne_eqb}
use Rattle.theory.specs.Tests.{pick}
use Rattle.theory.specs.Limits.{equal_kind}
use Rattle.theory.specs.Query.{kind_of}
use Rattle.theory.proofs.Picks.{pick_yes, pick_no}
use Rattle.rules_in_force.specs.Rules.{is_listed}
use Rattle.rules_in_force.proofs.listed.Goals.{else-only-via-then-only+else-head-ne-EQUAL_KIND, else-only-via-else-only}
use Rattle.rules_in_force.proofs.listed.Goals as goal

-- where all kinds are listed the kind says nothing
any_kind : (kind only force : Bool) → only ≡ false → force ≡ pick kind force (pick only false force)
any_kind true only force e = refl
any_kind false only force e = rw e

pub returns-then-head-ne-EQUAL_KIND : goal.returns-then-head-ne-EQUAL_KIND
unfolding is_listed
returns-then-head-ne-EQUAL_KIND c = pick_no _ (ne_eqb (kind_of c.args.head) equal_kind c.if-head-ne-EQUAL_KIND.true) (pick_yes _ c.if-only.true refl)

pub returns : goal.returns
unfolding is_listed
returns c = let kind = kind_of c.args.head in
    elim c.else-only.branch [
      | else-only-via-then-only+else-head-ne-EQUAL_KIND w ↦ pick_yes _ (eq-eqb kind equal_kind w.if-head-ne-EQUAL_KIND.false) c.has.ensures
      | else-only-via-else-only w ↦ c.has.ensures ∙ any_kind (eqb kind equal_kind) c.args.only _ w.if-only.false
    ]

-- `query_check::sizes::check_sizes` meets its contract: at each return the tests before it have gone the other way.
use Prim.Native.Nat.{ℕ, zero-le}
use mathlib.Core.Path.{◌≡◌, refl, sym, ap, ◌∙◌}
use mathlib.Core.Bool.{Bool, true, false}
use lib.Dec.{ltb}
use borrow.Author.Tests.{lt-ltb, le-ltb, eq-eqb, ne_eqb}
use Rattle.theory.specs.Tests.{pick}
use Rattle.theory.specs.Refusals.{passed, size_refused}
use Rattle.theory.specs.Query.{outside, sizes_refusal}
use Rattle.theory.proofs.Picks.{pick_yes, pick_no}
use Rattle.numbers.specs.declared.refusals.Refusal.{Refusal}
use Rattle.numbers.specs.Refusals.{number_of}
use Rattle.numbers.proofs.RefusalLaws.{refused, passed_on}
use Rattle.query_check.proofs.sizes.check_sizes.Goals as goal

-- a size that was read, between 1 and a limit, and one that may be 0
some : (high : ℕ) {m n : ℕ} → m ≡ n → outside 1 high m ≡ outside 1 high n
some high e = ap (outside 1 high) e

none : (high : ℕ) {m n : ℕ} → m ≡ n → outside 0 high m ≡ ltb high n
none high {m} e = rw (le-ltb m 0 zero-le, e)

-- a size outside its limits is refused, and one within them lets the next check say
refuses : (r : Refusal) {t u : Bool} (x : ℕ) → t ≡ u → number_of r ≡ pick t size_refused passed → number_of r ≡ pick u size_refused x
refuses r {t} x e h = rw (← e) (go t h)
  where
    go : (t : Bool) → number_of r ≡ pick t size_refused passed → number_of r ≡ pick t size_refused x
    go true h = h
    go false h = absurd (refused r h)

passes : {t u : Bool} {x z : ℕ} → t ≡ u → passed ≡ pick t size_refused passed → z ≡ x → z ≡ pick u size_refused x
passes {t} {x = x} {z = z} e h k = rw (← e) (go t h)
  where
    go : (t : Bool) → passed ≡ pick t size_refused passed → z ≡ pick t size_refused x
    go true h = cc
    go false h = k

pub returns-then-query-lt-QUERY_SIZES : goal.returns-then-query-lt-QUERY_SIZES
unfolding sizes_refusal
returns-then-query-lt-QUERY_SIZES c =
    pick_yes _ (lt-ltb _ _ c.if-query-lt-QUERY_SIZES.true) refl

pub returns-in_err-check_size : goal.returns-in_err-check_size
unfolding sizes_refusal
returns-in_err-check_size c =
    passed_on c.from_residual.result _ c.from_residual.ensures.1
    ∙ pick_no _ (le-ltb _ _ c.if-query-lt-QUERY_SIZES.false)
    (refuses _ _ (some _ c.columns.ensures) c.in_err-check_size.ensures)

pub returns-in_err-check_size-2 : goal.returns-in_err-check_size-2
unfolding sizes_refusal
returns-in_err-check_size-2 c =
    passed_on c.from_residual-in_err-check_size-2.result _ c.from_residual-in_err-check_size-2.ensures.1
    ∙ pick_no _ (le-ltb _ _ c.if-query-lt-QUERY_SIZES.false)
    (passes (some _ c.columns.ensures) c.in_ok-check_size.ensures
    (refuses _ _ (some _ c.produced.ensures) c.in_err-check_size-2.ensures))

pub returns-in_err-check_size-3 : goal.returns-in_err-check_size-3
unfolding sizes_refusal
returns-in_err-check_size-3 c =
    passed_on c.from_residual-in_err-check_size-3.result _ c.from_residual-in_err-check_size-3.ensures.1
    ∙ pick_no _ (le-ltb _ _ c.if-query-lt-QUERY_SIZES.false)
    (passes (some _ c.columns.ensures) c.in_ok-check_size.ensures
    (passes (some _ c.produced.ensures) c.in_ok-check_size-2.ensures
    (refuses _ _ (none _ c.tested.ensures) c.in_err-check_size-3.ensures)))

pub returns-in_err-check_size-4 : goal.returns-in_err-check_size-4
unfolding sizes_refusal
returns-in_err-check_size-4 c =
    passed_on c.from_residual-in_err-check_size-4.result _ c.from_residual-in_err-check_size-4.ensures.1
    ∙ pick_no _ (le-ltb _ _ c.if-query-lt-QUERY_SIZES.false)
    (passes (some _ c.columns.ensures) c.in_ok-check_size.ensures
    (passes (some _ c.produced.ensures) c.in_ok-check_size-2.ensures
    (passes (none _ c.tested.ensures) c.in_ok-check_size-3.ensures
    (refuses _ _ (none _ c.sets.ensures) c.in_err-check_size-4.ensures))))

pub returns-in_err-check_size-5 : goal.returns-in_err-check_size-5
unfolding sizes_refusal
returns-in_err-check_size-5 c =
    passed_on c.from_residual-in_err-check_size-5.result _ c.from_residual-in_err-check_size-5.ensures.1
    ∙ pick_no _ (le-ltb _ _ c.if-query-lt-QUERY_SIZES.false)
    (passes (some _ c.columns.ensures) c.in_ok-check_size.ensures
    (passes (some _ c.produced.ensures) c.in_ok-check_size-2.ensures
    (passes (none _ c.tested.ensures) c.in_ok-check_size-3.ensures
    (passes (none _ c.sets.ensures) c.in_ok-check_size-4.ensures
    (refuses _ _ (none _ c.dependencies.ensures) c.in_err-check_size-5.ensures)))))

pub returns-then-query-implied : goal.returns-then-query-implied
unfolding sizes_refusal
returns-then-query-implied c =
    pick_no _ (le-ltb _ _ c.if-query-lt-QUERY_SIZES.false)
    (passes (some _ c.columns.ensures) c.in_ok-check_size.ensures
    (passes (some _ c.produced.ensures) c.in_ok-check_size-2.ensures
    (passes (none _ c.tested.ensures) c.in_ok-check_size-3.ensures
    (passes (none _ c.sets.ensures) c.in_ok-check_size-4.ensures
    (passes (none _ c.dependencies.ensures) c.in_ok-check_size-5.ensures
    (pick_no _ (ne_eqb _ _ (λ e. c.if-query-implied.true (e ∙ sym c.implied.ensures))) refl))))))

pub returns : goal.returns
unfolding sizes_refusal
returns c =
    pick_no _ (le-ltb _ _ c.if-query-lt-QUERY_SIZES.false)
    (passes (some _ c.columns.ensures) c.in_ok-check_size.ensures
    (passes (some _ c.produced.ensures) c.in_ok-check_size-2.ensures
    (passes (none _ c.tested.ensures) c.in_ok-check_size-3.ensures
    (passes (none _ c.sets.ensures) c.in_ok-check_size-4.ensures
    (passes (none _ c.dependencies.ensures) c.in_ok-check_size-5.ensures
    (pick_yes _ (eq-eqb _ _ (c.if-query-implied.false ∙ c.implied.ensures)) refl))))))

-- Written arrows stand for the rules whose arrows they are.
use Prim.Native.Nat.{ℕ}
use mathlib.Core.Path.{◌≡◌, refl, sym, ap, subst}
use mathlib.Core.Bool.{true, false}
use mathlib.Core.Logic.{inl, inr, ⊎_elim}
use mathlib.Core.List.Memᴰ
use mathlib.Core.List.{List, [], ◌∷◌, ◌++◌, map, flatten, Memᴰ}
use Rattle.theory.specs.Tests.{those, in_mask, Inside}
use Rattle.theory.specs.Orders.{Rule, fix, equal}
use Rattle.theory.specs.Settled.{Settled, fixed, equalled, is_equal}
use Rattle.theory.proofs.Reflect.{says_true, true_says}
use Rattle.theory.proofs.ListLaws.{member_flatten_map, flatten_map_member}
use Rattle.theory.proofs.RowLaws.{all_cons}
use Rattle.closure.specs.RuleMasks.{ClosedMask, StandFor}
use Rattle.closure.specs.Closing.{Sound}
use Rattle.arrows.specs.declared.Arrow.{Arrow}
use Rattle.arrows.specs.Arrows.{ColumnArrow, arrows_of, ArrowIs, Written, no_arrow, next_arrow}

-- each written arrow goes between the masks of some of these columns, and for each of these an arrow is written
written_columns : {xs : List ColumnArrow} {written : List Arrow} → Written xs written → (a : Arrow) → Memᴰ a written → (x : ColumnArrow) × Memᴰ x xs × ArrowIs x a
written_columns no_arrow a i = absurd (Memᴰ.not-nil i)
written_columns (next_arrow {columns} is rest) a i =
    ⊎_elim (λ e. (columns, Memᴰ.head refl, subst (λ (y : Arrow). ArrowIs columns y) (sym e) is)) (λ k. let t = written_columns rest a k in (t.0, Memᴰ.tail t.1, t.2)) (Memᴰ.cases_cons i)

written_arrow : {xs : List ColumnArrow} {written : List Arrow} → Written xs written → (x : ColumnArrow) → Memᴰ x xs → (a : Arrow) × Memᴰ a written × ArrowIs x a
written_arrow no_arrow x i = absurd (Memᴰ.not-nil i)
written_arrow (next_arrow {arrow = a} is rest) x i =
    ⊎_elim (λ e. (a, Memᴰ.head refl, subst (λ (y : ColumnArrow). ArrowIs y a) (sym e) is)) (λ k. let t = written_arrow rest x k in (t.0, Memᴰ.tail t.1, t.2)) (Memᴰ.cases_cons i)

-- Columns that w settles, if they are all from which the arrow goes, settle the one to which it goes.
abbrev Settles : List Rule → List ℕ → ColumnArrow → Type 0
Settles rs w a = ((c : ℕ) → Memᴰ c a.from → Settled rs w c) → Settled rs w a.to

-- so do the arrows of the rules
rule_settles : {rs : List Rule} {w : List ℕ} (x : Rule) → Memᴰ x rs → (a : ColumnArrow) → Memᴰ a (arrows_of false x) → Settles rs w a
rule_settles {rs} {w} (fix l r) i = all_cons {P = Settles rs w} (fixed i) (λ b k. absurd (Memᴰ.not-nil k))
rule_settles {rs} {w} (equal c d) i =
    all_cons {P = Settles rs w} (λ h. equalled (inl i) (h c (Memᴰ.head refl)))
    (all_cons {P = Settles rs w} (λ h. equalled (inr i) (h d (Memᴰ.head refl))) (λ b k. absurd (Memᴰ.not-nil k)))

-- arrows that are the arrows of the rules stand for them
module _ {rs : List Rule} {written : List Arrow} (v : Written (flatten (map (arrows_of false) rs)) written) where
  arrows_sound : (a : Arrow) → Memᴰ a written → (w : List ℕ) → Sound rs w a.left → Sound rs w a.right
  arrows_sound a i w s c k =
      let t = written_columns v a i in
      let m = member_flatten_map (arrows_of false) rs t.1 in
      subst (Settled rs w) (sym (Memᴰ.eq_of_singleton (says_true (t.2.1 c) k))) (rule_settles m.0 m.1 t.0 m.2 (λ d j. s d (true_says (t.2.0 d) j)))

  module _ (m : ℕ) (none : (a : Arrow) → Memᴰ a written → Inside a.left m → Inside a.right m) where
    arrow_closed : {a : ColumnArrow} (x : Rule) → Memᴰ x rs → Memᴰ a (arrows_of false x) → ((c : ℕ) → Memᴰ c a.from → in_mask m c ≡ true) → in_mask m a.to ≡ true
    arrow_closed {a} x i j h =
        let t = written_arrow v a (flatten_map_member (arrows_of false) i j) in
        none t.0 t.1 (λ c k. h c (says_true (t.2.0 c) k)) a.to (true_says (t.2.1 a.to) (Memᴰ.head refl))

    arrows_closed : ClosedMask rs m
    arrows_closed =
        record {
          fixes = λ l r i h. arrow_closed (fix l r) i (Memᴰ.head refl) h;
          equals = λ a b s h.
              let one : (c : ℕ) → Memᴰ c (a ∷ []) → in_mask m c ≡ true =
              (λ c k. subst (λ y. in_mask m y ≡ true) (sym (Memᴰ.eq_of_singleton k)) h) in
              ⊎_elim (λ i. arrow_closed (equal a b) i (Memᴰ.head refl) one) (λ i. arrow_closed (equal b a) i (Memᴰ.tail (Memᴰ.head refl)) one) s;
        }

  pub written_stands : StandFor rs written
  written_stands = record { sound = arrows_sound; complete = arrows_closed }

-- the arrows of the equals alone
pub only_equals : (rs : List Rule) → flatten (map (arrows_of true) rs) ≡ flatten (map (arrows_of false) (those is_equal rs))
unfolding flatten
only_equals [] = refl
only_equals (fix l r ∷ rs) = only_equals rs
only_equals (equal a b ∷ rs) = ap (λ l. arrows_of false (equal a b) ++ l) (only_equals rs)

-- Searches that end with a Boolean: for an element among others, and for a repeat.
use Prim.Native.Nat.{ℕ, zero, suc, ◌<◌, ◌≤◌}
use native.Mathlib.Nat.{not-suc-le-zero, le_of_suc-le-suc, zero-add}
use native.Mathlib.Omega.{arith}
use mathlib.Core.Path.{◌≡◌, refl, sym, ◌∙◌, ap}
use mathlib.Core.Bool.{Bool, true, false}
use mathlib.Core.Logic.{⊎_elim}
use mathlib.Core.List.Memᴰ
use mathlib.Core.List.{List, [], ◌∷◌, map, Memᴰ}
use lib.ListN.{length, take, get_or}
use Rattle.theory.specs.Tests.{Decides, Distinct, empty, also, member, repeats, up_from}
use Rattle.theory.proofs.Reflect.{says_member, says_repeats, says_false, true_says, false_says, says_true}
use Rattle.theory.proofs.ListLaws.{member_get_d, get_d_member, member_up_from, up_from_member}
use Rattle.theory.proofs.RangeLaws.{entry_at, entry_count}

module _ {A : Type 0} (d : A) where
  -- no element is one of those before it
  pub distinct_earlier : {l : List A} → Distinct l → (i : ℕ) → i < length l → ¬ Memᴰ (get_or l i d) (take i l)
  distinct_earlier empty i h m = absurd (not-suc-le-zero h)
  distinct_earlier (also n r) zero h m = absurd (Memᴰ.not-nil m)
  distinct_earlier (also {xs} n r) (suc i) h m =
      ⊎_elim (λ e. n (Memᴰ.cast (sym e) (member_get_d xs i d (le_of_suc-le-suc h)))) (λ k. distinct_earlier r i (le_of_suc-le-suc h) k) (Memᴰ.cases_cons m)

  pub earlier_distinct : (l : List A) → ((i : ℕ) → i < length l → ¬ Memᴰ (get_or l i d) (take i l)) → Distinct l
  earlier_distinct [] h = empty
  earlier_distinct (x ∷ xs) h =
      also {xs = xs} (λ m. let t = get_d_member d m in h (suc t.0) (omega arith) (Memᴰ.head t.2))
      (earlier_distinct xs (λ i l m. h (suc i) (omega arith) (Memᴰ.tail m)))

take_up_from : {A : Type 0} (f : ℕ → A) (k n i : ℕ) → i ≤ n → take i (map f (up_from k n)) ≡ map f (up_from k i)
take_up_from f k n zero h = refl
take_up_from f k zero (suc i) h = absurd (not-suc-le-zero h)
take_up_from f k (suc n) (suc i) h = ap (λ r. f k ∷ r) (take_up_from f (suc k) n i (le_of_suc-le-suc h))

module _ {A : Type 0} {same : A → A → Bool} (dec : Decides same) where
  -- x is one of the first n that f gives, or none of them
  module _ (f : ℕ → A) (n : ℕ) (x : A) where
    pub among : (j : ℕ) → j < n → x ≡ f j → member same x (map f (up_from 0 n)) ≡ true
    among j h e = true_says (says_member dec x (map f (up_from 0 n))) (Memᴰ.cast e (Memᴰ.map f (up_from_member 0 n {x = j} (omega arith) (omega arith))))

    pub not_among : ((j : ℕ) → j < n → x ≡ f j → ⊥) → member same x (map f (up_from 0 n)) ≡ false
    not_among h =
        false_says (says_member dec x (map f (up_from 0 n)))
        (λ m. let t = Memᴰ.of_map f (up_from 0 n) m in h t.0 (omega (arith, member_up_from 0 n t.1)) (sym t.2))

  -- an element stands twice exactly when one is among those before it
  module _ (d : A) (l : List A) where
    pub repeats_found : (i : ℕ) → i < length l → member same (get_or l i d) (take i l) ≡ true → repeats same l ≡ true
    repeats_found i h e = true_says (says_repeats dec l) (λ r. distinct_earlier d r i h (says_true (says_member dec (get_or l i d) (take i l)) e))

    pub repeats_none : ((i : ℕ) → i < length l → member same (get_or l i d) (take i l) ≡ false) → repeats same l ≡ false
    repeats_none h = false_says (says_repeats dec l) (λ n. n (earlier_distinct d l (λ i b. says_false (says_member dec (get_or l i d) (take i l)) (h i b))))

  -- the same of the first n that f gives
  module _ (f : ℕ → A) (n : ℕ) where
    earlier_of : (i : ℕ) → i < n → member same (get_or (map f (up_from 0 n)) i (f 0)) (take i (map f (up_from 0 n))) ≡ member same (f i) (map f (up_from 0 i))
    earlier_of i h =
        rw (entry_at f 0 n i (f 0) h, zero-add, take_up_from f 0 n i (omega arith))

    pub twice : (i : ℕ) → i < n → member same (f i) (map f (up_from 0 i)) ≡ true → repeats same (map f (up_from 0 n)) ≡ true
    twice i h e = repeats_found (f 0) (map f (up_from 0 n)) i (rw entry_count h) (earlier_of i h ∙ e)

    pub never_twice : ((i : ℕ) → i < n → member same (f i) (map f (up_from 0 i)) ≡ false) → repeats same (map f (up_from 0 n)) ≡ false
    never_twice h = repeats_none (f 0) (map f (up_from 0 n)) (λ i b. let c : i < n = rw entry_count at b in earlier_of i c ∙ h i c)

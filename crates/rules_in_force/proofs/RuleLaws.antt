-- The arrows of the dependencies in force are those of the rules in force.
use Prim.Native.Nat.{ℕ, zero, suc, ◌+◌, ◌/◌, ◌%◌, ◌^◌, ◌<◌, ◌≤◌}
use native.Mathlib.Nat.{add-zero, add-suc}
use native.Mathlib.Omega.{arith}
use mathlib.Core.Path.{◌≡◌, refl, ◌∙◌, ap}
use mathlib.Core.Bool.{Bool, true, false}
use mathlib.Core.List.{List, [], ◌∷◌, ◌++◌, map, flatten}
use lib.Dec.{eqb}
use lib.ListN.{length, take}
use Rattle.theory.specs.Tests.{pick, up_from, bits_of, in_mask}
use Rattle.theory.specs.Limits.{equal_kind}
use Rattle.theory.specs.Orders.{Rule, fix, equal, columns_of, rules_in}
use Rattle.theory.specs.Choices.{in_force}
use Rattle.theory.specs.Query.{Bytes, byte_at, set_count, order_count, dependency_count, head_at, body_at, kind_of, set_of, dependency_at, read_query}
use Rattle.theory.proofs.ChoiceNumbers.{bits_entry}
use Rattle.theory.proofs.PassedLaws.{Passed}
use Rattle.column_masks.specs.Masks.{Narrow}
use Rattle.arrows.specs.Arrows.{ColumnArrow, arrows_of}
use Rattle.rules_in_force.specs.Rules.{rules_at, arrows_at, is_listed}

-- a rule has at most two arrows, and so has a dependency
few_arrows : (only : Bool) (x : Rule) → length (arrows_of only x) ≤ 2
few_arrows true (fix l r) = omega arith
few_arrows false (fix l r) = omega arith
few_arrows only (equal a b) = omega arith

pub few_at : (only : Bool) (b : Bytes) (x i : ℕ) → length (arrows_at only b x i) ≤ 2
few_at only b x i = let d = dependency_at b (order_count b + i) in go (eqb (x / 2 ^ d.set % 2) 1) d.rule
  where
    go : (t : Bool) (r : Rule) → length (pick t (arrows_of only r) []) ≤ 2
    go true r = few_arrows only r
    go false r = omega arith

-- the arrows of a dependency are those of its rule where its head says that it is listed
listed_arrows : (kind force only : Bool) (a c : ℕ) (l : List ℕ) (r : ℕ)
    → pick force (arrows_of only (pick kind (equal a c) (fix l r))) [] ≡ pick (pick kind force (pick only false force)) (arrows_of false (pick kind (equal a c) (fix l r))) []
listed_arrows true force only a c l r = refl
listed_arrows false true true a c l r = refl
listed_arrows false false true a c l r = refl
listed_arrows false force false a c l r = refl

pub listed_at : (only : Bool) (b : Bytes) (x i : ℕ)
    → arrows_at only b x i ≡ pick (is_listed only x (head_at b (order_count b + i))) (arrows_of false (dependency_at b (order_count b + i)).rule) []
unfolding is_listed
listed_at only b x i =
    let head = head_at b (order_count b + i) in
    let body = body_at b (order_count b + i) in
    listed_arrows (eqb (kind_of head) equal_kind) (in_mask x (set_of head)) only (byte_at body 0) (byte_at body 1) (take (kind_of head) body) (byte_at body (kind_of head))

-- the arrows of the dependencies in force are those of the rules in force: one more, from a dependency on, and all
arrows_next : (only t s : Bool) (x : Rule) {xs : List ColumnArrow} (l : List Rule) → s ≡ t → xs ≡ flatten (map (arrows_of only) l)
    → pick t (arrows_of only x) [] ++ xs ≡ flatten (map (arrows_of only) (pick s (x ∷ l) l))
unfolding flatten
arrows_next only true s x l e h = rw e (ap (λ y. arrows_of only x ++ y) h)
arrows_next only false s x l e h = rw e h

module _ (only : Bool) (b : Bytes) (x : ℕ) where
  arrows_from : (k n : ℕ) → ((i : ℕ) → i < k + n → (dependency_at b (order_count b + i)).set < set_count b)
      → flatten (map (arrows_at only b x) (up_from k n)) ≡ flatten (map (arrows_of only) (rules_in (in_force (bits_of (set_count b) x)) (map (dependency_at b) (up_from (order_count b + k) n))))
  unfolding flatten
  arrows_from k zero h = refl
  arrows_from k (suc n) h =
      let d = dependency_at b (order_count b + k) in
      let on = in_force (bits_of (set_count b) x) in
      arrows_next only (eqb (x / 2 ^ d.set % 2) 1) (on d.set) d.rule (rules_in on (map (dependency_at b) (up_from (suc (order_count b + k)) n)))
      (bits_entry (set_count b) x d.set (h k (omega arith)))
      (arrows_from (suc k) n (λ i l. h i (omega arith)) ∙ ap (λ j. flatten (map (arrows_of only) (rules_in on (map (dependency_at b) (up_from j n))))) (add-suc (order_count b) k))

  pub arrows_in_force : Passed b → flatten (map (arrows_at only b x) (up_from 0 (dependency_count b))) ≡ flatten (map (arrows_of only) (rules_at b x))
  unfolding read_query
  arrows_in_force p =
      arrows_from 0 (dependency_count b) (λ i h. (p.dependency (order_count b + i) (omega arith) (omega arith)).set)
      ∙ ap (λ j. flatten (map (arrows_of only) (rules_in (in_force (bits_of (set_count b) x)) (map (dependency_at b) (up_from j (dependency_count b)))))) (add-zero (order_count b))

-- a mask has room for a dependency's columns
pub dependency_narrow : (b : Bytes) → Passed b → (i : ℕ) → i < dependency_count b → Narrow (columns_of (dependency_at b (order_count b + i)).rule)
dependency_narrow b p i h c k =
    omega (arith, (p.dependency (order_count b + i) (omega arith) (omega arith)).columns.below c k, p.sized.few_columns)

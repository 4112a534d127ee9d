-- Masks closed under arrows: those of single columns, which are the classes, and that of no column.
use Prim.Native.Nat.{ℕ, ◌+◌, ◌^◌, ◌<◌}
use native.Mathlib.Omega.{arith}
use mathlib.Core.Path.{◌≡◌}
use mathlib.Core.Bool.{Bool}
use mathlib.Core.List.Memᴰ
use mathlib.Core.List.{List, [], ◌∷◌}
use lib.ListN.{length, get_or, set}
use lib.Seq.{get_or-set_same, get_or-set_other}
use Rattle.theory.specs.Tests.{Says, holds, fails, those}
use Rattle.theory.specs.Orders.{Rule}
use Rattle.theory.specs.Settled.{among, is_equal}
use Rattle.theory.proofs.Reflect.{says_eqb, says_true, true_says, says_one}
use Rattle.theory.proofs.SettledLaws.{says_settled}
use Rattle.column_masks.proofs.MaskLaws.{mask_none, mask_one}
use Rattle.arrows.specs.declared.Arrow.{Arrow}
use Rattle.closure.specs.RuleMasks.{StandFor, SettledMask, ClassesOf}
use Rattle.closure.specs.Closing.{Closes}

-- Mask c, for each c below i, has exactly the columns that column c settles.
abbrev pub Classed : List Arrow → List ℕ → ℕ → Type 0
Classed arrows classes i = (rs : List Rule) → StandFor rs arrows → (c : ℕ) → c < i → SettledMask rs (c ∷ []) (get_or classes c 0)

module _ (arrows : List Arrow) (classes : List ℕ) where
  -- one more
  pub classed_more : (i r : ℕ) → i < length classes → Classed arrows classes i → Closes arrows (2 ^ i) r → Classed arrows (set classes i r) (i + 1)
  classed_more i r l k closes rs f c h = go (says_eqb c i)
    where
      go : {b : Bool} → Says (c ≡ i) b → SettledMask rs (c ∷ []) (get_or (set classes i r) c 0)
      go (holds e) =
          rw (e, get_or-set_same classes i r 0 l)
          (closes rs (i ∷ []) f (λ d t. among (says_true (mask_one i d) t)) (λ d t. true_says (mask_one i d) t))
      go (fails e) = rw (get_or-set_other classes i c r 0 e) (k rs f c (omega arith))

  -- under the equals of the rules these are the classes
  pub classed_end : (rs : List Rule) → StandFor (those is_equal rs) arrows → Classed arrows classes 16 → ClassesOf rs classes
  classed_end rs f k c x h = says_one (k (those is_equal rs) f c h x) (says_settled (those is_equal rs) (c ∷ []) x)

-- closed from nothing, a mask has what is settled from the start
pub closes_none : (arrows : List Arrow) (m : ℕ) → Closes arrows 0 m → (rs : List Rule) → StandFor rs arrows → SettledMask rs [] m
closes_none arrows m closes rs f = closes rs [] f (λ c h. among (says_true (mask_none c) h)) (λ c h. absurd (Memᴰ.not-nil h))

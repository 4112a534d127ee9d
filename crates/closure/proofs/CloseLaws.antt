-- Arrows used on a mask: one, one pass, and passes until nothing is added.
use Prim.Native.Nat.{ℕ, ◌≤◌}
use native.Mathlib.Omega.{arith}
use mathlib.Core.Path.{◌≡◌, refl, sym, subst}
use mathlib.Core.Bool.{Bool, true}
use mathlib.Core.Logic.{◌⊎◌, inl, inr, ⊎_elim}
use mathlib.Core.List.Memᴰ
use mathlib.Core.List.{List, [], ◌∷◌, Memᴰ}
use lib.Bits.{bit_or}
use Rattle.theory.specs.Tests.{pick, Says, holds, fails, in_mask, Inside}
use Rattle.theory.specs.Orders.{Rule}
use Rattle.theory.specs.Settled.{Settled, among, fixed, equalled}
use Rattle.theory.proofs.Reflect.{says_eqb}
use Rattle.theory.proofs.BitLaws.{or_keeps, or_only, or_more, or_inside, inside_or}
use Rattle.column_masks.proofs.MaskLaws.{says_both}
use Rattle.arrows.specs.declared.Arrow.{Arrow}
use Rattle.closure.specs.RuleMasks.{ClosedMask, StandFor}
use Rattle.closure.specs.Closing.{used, pass, Sound, Closes}

-- one arrow: it adds no more than its right columns, and these only to a mask that has the left ones
module _ (a : Arrow) (m : ℕ) where
  used_more : m ≤ used a m
  used_more = go (says_eqb (bit_or m a.left) m)
    where
      go : {b : Bool} → Says (bit_or m a.left ≡ m) b → m ≤ pick b (bit_or m a.right) m
      go (holds e) = or_more m a.right
      go (fails n) = omega arith

  used_keeps : Inside m (used a m)
  used_keeps c h = go (says_eqb (bit_or m a.left) m)
    where
      go : {b : Bool} → Says (bit_or m a.left ≡ m) b → in_mask (pick b (bit_or m a.right) m) c ≡ true
      go (holds e) = or_keeps m a.right c h
      go (fails n) = h

  used_only : (c : ℕ) → in_mask (used a m) c ≡ true → (in_mask m c ≡ true) ⊎ (Inside a.left m × (in_mask a.right c ≡ true))
  used_only c = go (says_eqb (bit_or m a.left) m)
    where
      go : {b : Bool} → Says (bit_or m a.left ≡ m) b → in_mask (pick b (bit_or m a.right) m) c ≡ true → (in_mask m c ≡ true) ⊎ (Inside a.left m × (in_mask a.right c ≡ true))
      go (holds e) h = ⊎_elim inl (λ k. inr (or_inside m a.left e, k)) (or_only m a.right c h)
      go (fails n) h = inl h

  used_closed : used a m ≡ m → Inside a.left m → Inside a.right m
  used_closed = go (says_eqb (bit_or m a.left) m)
    where
      go : {b : Bool} → Says (bit_or m a.left ≡ m) b → pick b (bit_or m a.right) m ≡ m → Inside a.left m → Inside a.right m
      go (holds e) same h = or_inside m a.right same
      go (fails n) same h = absurd (n (inside_or a.left m h))

-- one pass: it adds to the mask, and no more than is settled
pub pass_more : (arrows : List Arrow) (m : ℕ) → m ≤ pass arrows m
pass_more [] m = omega arith
pass_more (a ∷ rest) m = omega (arith, used_more a m, pass_more rest (used a m))

pub pass_keeps : (arrows : List Arrow) (m : ℕ) → Inside m (pass arrows m)
pass_keeps [] m c h = h
pass_keeps (a ∷ rest) m c h = pass_keeps rest (used a m) c (used_keeps a m c h)

pub pass_sound : (rs : List Rule) (w : List ℕ) (arrows : List Arrow) → ((a : Arrow) → Memᴰ a arrows → Sound rs w a.left → Sound rs w a.right)
    → (m : ℕ) → Sound rs w m → Sound rs w (pass arrows m)
pass_sound rs w [] gives m s = s
pass_sound rs w (a ∷ rest) gives m s =
    pass_sound rs w rest (λ b k. gives b (Memᴰ.tail k)) (used a m)
    (λ c h. ⊎_elim (s c) (λ t. gives a (Memᴰ.head refl) (λ d k. s d (t.0 d k)) c t.1) (used_only a m c h))

-- where it adds nothing, no arrow does
pub pass_closed : (arrows : List Arrow) (m : ℕ) → pass arrows m ≡ m → (a : Arrow) → Memᴰ a arrows → Inside a.left m → Inside a.right m
pass_closed [] m e a i = absurd (Memᴰ.not-nil i)
pass_closed (b ∷ rest) m e a i =
    let same : used b m ≡ m = omega (arith, used_more b m, pass_more rest (used b m)) in
    ⊎_elim (λ k. subst (λ (x : Arrow). Inside x.left m → Inside x.right m) (sym k) (used_closed b m same)) (λ k. pass_closed rest m (subst (λ n. pass rest n ≡ m) same e) a k) (Memᴰ.cases_cons i)

-- a closed mask that has w has all that w settles
closed_has : {rs : List Rule} {w : List ℕ} {m : ℕ} → ClosedMask rs m → ((c : ℕ) → Memᴰ c w → in_mask m c ≡ true) → {c : ℕ} → Settled rs w c → in_mask m c ≡ true
closed_has k h (among i) = h _ i
closed_has k h (fixed {l} {r} i f) = k.fixes l r i (λ c j. closed_has k h (f c j))
closed_has k h (equalled {a} {b} s t) = k.equals a b s (closed_has k h t)

-- The mask grew from one to the other by passes.
pub record Growing (arrows : List Arrow) (m r : ℕ) : Type 0 where
  pub keeps : Inside m r
  pub sound : (rs : List Rule) (w : List ℕ) → StandFor rs arrows → Sound rs w m → Sound rs w r

module _ {arrows : List Arrow} where
  -- no pass, one more, and the end: a pass that adds nothing
  pub growing_none : (m : ℕ) → Growing arrows m m
  growing_none m = record { keeps = λ c h. h; sound = λ rs w f s. s }

  pub growing_more : {m r : ℕ} → Growing arrows m r → Growing arrows m (pass arrows r)
  growing_more {r} g =
      record {
        keeps = λ c h. pass_keeps arrows r c (g.keeps c h);
        sound = λ rs w f s. pass_sound rs w arrows (λ a k. f.sound a k w) r (g.sound rs w f s);
      }

  pub growing_end : {m r : ℕ} → Growing arrows m r → pass arrows r ≡ r → Closes arrows m r
  growing_end {m} {r} g e rs w f s h c =
      says_both (in_mask r c) (g.sound rs w f s c) (closed_has (f.complete r (pass_closed arrows r e)) (λ d k. g.keeps d (h d k)))

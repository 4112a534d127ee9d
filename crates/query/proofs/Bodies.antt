-- An item's four bytes, read one by one.
use Prim.Native.Nat.{ℕ, zero, suc, ◌+◌, ◌-◌, ◌≤◌, min}
use native.Mathlib.Nat.{add-zero}
use native.Mathlib.Omega.{arith}
use mathlib.Core.Path.{◌≡◌, refl, sym, ◌∙◌, ap}
use mathlib.Core.Bool.{Bool}
use mathlib.Core.List.{List, [], ◌∷◌}
use lib.ListN.{length, take, drop, get_or, length-take, length-drop, get_or-eq_default}
use lib.Seq.{get_or-take, get_or-drop, ext_get_or}
use Rattle.theory.specs.Tests.{Says, holds, fails}
use Rattle.theory.specs.Limits.{body_width}
use Rattle.theory.specs.Query.{byte_at}
use Rattle.theory.proofs.Reflect.{says_leb}
use Rattle.orders.proofs.OrderLaws.{four}

-- the four bytes from a place on, as many as are there
pub four_at : (b : List ℕ) (at n : ℕ) → n ≡ min body_width (length b - at)
    → take n (byte_at b at ∷ byte_at b (at + 1) ∷ byte_at b (at + 2) ∷ byte_at b (at + 3) ∷ []) ≡ take body_width (drop at b)
four_at b at n e = simp (get_or-drop, add-zero) at (four (drop at b) n (omega (arith, length-drop at b)))

-- at most four bytes, read one by one, with 0 past their end
abbrev pub padded : List ℕ → List ℕ
padded l = get_or l 0 0 ∷ get_or l 1 0 ∷ get_or l 2 0 ∷ get_or l 3 0 ∷ []

module _ (l : List ℕ) (short : length l ≤ body_width) where
  padded_at : (i : ℕ) → get_or (padded l) i 0 ≡ get_or l i 0
  padded_at zero = refl
  padded_at (suc zero) = refl
  padded_at (suc (suc zero)) = refl
  padded_at (suc (suc (suc zero))) = refl
  padded_at (suc (suc (suc (suc i)))) = sym (get_or-eq_default l 0 (omega arith))

  -- the first k of them, and the one behind
  module _ (k n : ℕ) (e : n ≡ length (take k l)) where
    pub padded_front : take n (padded l) ≡ take k l
    padded_front =
        let h : length (take n (padded l)) ≡ n = length-take n (padded l) ∙ omega (arith, length-take k l) in
        ext_get_or 0 (take n (padded l)) (take k l) (h ∙ e)
        (λ i b. get_or-take n (padded l) i 0 (omega arith) ∙ padded_at i ∙ sym (get_or-take k l i 0 (omega (arith, length-take k l))))

    pub padded_next : get_or (padded l) n 0 ≡ get_or l k 0
    padded_next = padded_at n ∙ go (says_leb k (length l))
      where
        go : {b : Bool} → Says (k ≤ length l) b → get_or l n 0 ≡ get_or l k 0
        go (holds h) = ap (λ i. get_or l i 0) (omega (arith, length-take k l))
        go (fails h) = get_or-eq_default l 0 (omega (arith, length-take k l)) ∙ sym (get_or-eq_default l 0 (omega arith))

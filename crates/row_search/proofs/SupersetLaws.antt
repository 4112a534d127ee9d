-- The choices that have all sets of another, one after the other, which tell its state.
use Prim.Native.Nat.{ℕ, ◌+◌, ◌/◌, ◌%◌, ◌^◌, ◌≤◌, ◌<◌}
use native.Mathlib.Omega.{arith}
use mathlib.Core.Path.{◌≡◌, sym, ◌∙◌, ap, subst}
use mathlib.Core.Bool.{Bool}
use lib.Arith.{bin_ind}
use lib.Bits.{bit_or, or_comm, or_zero_r, or_self, or_step, or_lt}
use Rattle.theory.specs.Tests.{Says, holds, fails}
use Rattle.theory.specs.Query.{Bytes}
use Rattle.theory.proofs.Reflect.{says_eqb, says_ltb}
use Rattle.theory.proofs.BitLaws.{or_more}
use Rattle.theory.proofs.ChoiceNumbers.{or_assoc}
use Rattle.row_pairs.specs.RowPairs.{cut_word}
use Rattle.open_sets.specs.Open.{state_of}
use Rattle.open_sets.proofs.StateLaws.{state_same, state_tells}

-- a number that has all bits of m is not smaller
pub or_below : (y m : ℕ) → bit_or y m ≡ y → m ≤ y
or_below y m e = omega (arith, or_more m y, or_comm m y, e)

-- of the numbers that have all bits of m, the next behind y, ..
next_superset : (m y z : ℕ) → bit_or y m ≡ y → bit_or z m ≡ z → y < z → bit_or (y + 1) m ≤ z
next_superset =
    bin_ind (λ m. (y z : ℕ) → bit_or y m ≡ y → bit_or z m ≡ z → y < z → bit_or (y + 1) m ≤ z) (λ y z e f h. omega (arith, or_zero_r (y + 1)))
    (λ m ih y z e f h. go m ih y z e f h (says_eqb (y % 2) 1))
  where
    go : (m : ℕ) → ((y z : ℕ) → bit_or y (m / 2) ≡ y → bit_or z (m / 2) ≡ z → y < z → bit_or (y + 1) (m / 2) ≤ z) →
        (y z : ℕ) → bit_or y m ≡ y → bit_or z m ≡ z → y < z → {b : Bool} → Says (y % 2 ≡ 1) b → bit_or (y + 1) m ≤ z
    go m ih y z e f h (holds o) =
        let half : (y + 1) / 2 ≡ y / 2 + 1 = omega arith in
        let more = ih (y / 2) (z / 2) (omega (arith, or_step y m)) (omega (arith, or_step z m)) (omega arith) in
        omega (arith, or_step (y + 1) m, ap (λ k. bit_or k (m / 2)) half, or_step z m)
    go m ih y z e f h (fails o) =
        let half : (y + 1) / 2 ≡ y / 2 = omega arith in
        omega (arith, or_step (y + 1) m, ap (λ k. bit_or k (m / 2)) half, or_step y m)

-- .. which is larger, and has them too
pub superset_more : (m y : ℕ) → y < bit_or (y + 1) m
superset_more m y = omega (arith, or_more (y + 1) m)

pub superset_has : (m y : ℕ) → bit_or (bit_or (y + 1) m) m ≡ bit_or (y + 1) m
superset_has m y = or_assoc (y + 1) m m ∙ ap (bit_or (y + 1)) (or_self m)

-- so what holds of all such numbers before one and of that one holds of all before the next
pub superset_step : (P : ℕ → Type 0) (m x : ℕ) → bit_or x m ≡ x → P x → ((y : ℕ) → y < x → bit_or y m ≡ y → P y) → (y : ℕ) → y < bit_or (x + 1) m → bit_or y m ≡ y → P y
superset_step P m x e own before y h f = go (says_ltb y x) (says_eqb x y)
  where
    go : {a b : Bool} → Says (y < x) a → Says (x ≡ y) b → P y
    go (holds l) s = before y l f
    go (fails l) (holds d) = subst P d own
    go (fails l) (fails d) = absurd (omega (arith, next_superset m x y e f (omega arith)))

module _ (bits sets : ℕ) (words : Bytes) where
  -- what is held with each choice that has all sets of m gives the state, ..
  pub supersets_same : (p q m : ℕ) → ((y : ℕ) → y < 2 ^ sets → bit_or y m ≡ y → cut_word bits sets words p y ≡ cut_word bits sets words q y) → m < 2 ^ sets → state_of bits sets words p m ≡ state_of bits sets words q m
  supersets_same p q m h l =
      state_same bits sets words p m q m (λ x k. h (bit_or m x) (or_lt sets m x l k) (or_comm (bit_or m x) m ∙ sym (or_assoc m m x) ∙ ap (λ n. bit_or n x) (or_self m)))

  -- .. and the state tells it
  pub superset_tells : (p q m : ℕ) → state_of bits sets words p m ≡ state_of bits sets words q m → (y : ℕ) → y < 2 ^ sets → bit_or y m ≡ y → cut_word bits sets words p y ≡ cut_word bits sets words q y
  superset_tells p q m e y h k =
      let same : bit_or m y ≡ y = or_comm m y ∙ k in
      subst (λ n. cut_word bits sets words p n ≡ cut_word bits sets words q n) same (state_tells bits sets words p m q m e y h)

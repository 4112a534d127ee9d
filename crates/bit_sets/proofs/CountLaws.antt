-- What is in a set with one number more, and how many of the numbers below n are in a set: putting in one that was not there makes them more.
use Prim.Native.Nat.{ℕ, zero, suc, ◌/◌, ◌%◌, ◌^◌, ◌<◌, ◌≤◌}
use native.Mathlib.Nat.{not-suc-le-zero, le_of_suc-le-suc, eq-or-lt_of_le}
use native.Mathlib.Omega.{arith}
use mathlib.Core.Path.{◌≡◌, refl, sym, ◌∙◌, ap}
use mathlib.Core.Bool.{Bool, true, false}
use mathlib.Core.Logic.{◌⊎◌, inl, inr, ⊎_elim}
use lib.Bits.{bit_or}
use lib.Dec.{eqb}
use lib.ListN.{length, length-set}
use lib.Seq.{get_or-set_same, get_or-set_other}
use Rattle.theory.specs.Tests.{Says, holds, fails}
use Rattle.theory.specs.Query.{Bytes, byte_at}
use Rattle.theory.specs.Table.{bit}
use Rattle.theory.proofs.Reflect.{says_eqb}
use Rattle.theory.proofs.RowLaws.{bit_below}
use Rattle.theory.proofs.BitLaws.{raised_has, raised_keeps, raised_only}
use Rattle.bit_sets.specs.BitSets.{in_bits, with_bit, bits_below}

pub add_length : (m : Bytes) (i : ℕ) → length (with_bit m i) ≡ length m
unfolding with_bit
add_length m i = length-set m (i / 8) _

-- a set with one number more has that one, and those that it had
module _ (m : Bytes) (i : ℕ) (within : i / 8 < length m) where
  byte_same : (j : ℕ) → j / 8 ≡ i / 8 → byte_at (with_bit m i) (j / 8) ≡ bit_or (byte_at m (j / 8)) (2 ^ (i % 8))
  unfolding with_bit
  byte_same j e = rw (e, get_or-set_same m (i / 8) (bit_or (byte_at m (i / 8)) (2 ^ (i % 8))) 0 within)

  pub add_keeps : (j : ℕ) → in_bits m j ≡ true → in_bits (with_bit m i) j ≡ true
  unfolding with_bit
  add_keeps j h = go (says_eqb (j / 8) (i / 8))
    where
      go : {b : Bool} → Says (j / 8 ≡ i / 8) b → in_bits (with_bit m i) j ≡ true
      go (holds e) = ap (λ n. eqb (n / 2 ^ (j % 8) % 2) 1) (byte_same j e) ∙ raised_keeps (byte_at m (j / 8)) (i % 8) (j % 8) h
      go (fails n) = rw (get_or-set_other m (i / 8) (j / 8) (bit_or (byte_at m (i / 8)) (2 ^ (i % 8))) 0 n) h

  pub add_sets : in_bits (with_bit m i) i ≡ true
  add_sets = ap (λ n. eqb (n / 2 ^ (i % 8) % 2) 1) (byte_same i refl) ∙ raised_has (byte_at m (i / 8)) (i % 8)

  pub add_only : (j : ℕ) → in_bits (with_bit m i) j ≡ true → (j ≡ i) ⊎ (in_bits m j ≡ true)
  unfolding with_bit
  add_only j h = go (says_eqb (j / 8) (i / 8))
    where
      go : {b : Bool} → Says (j / 8 ≡ i / 8) b → (j ≡ i) ⊎ (in_bits m j ≡ true)
      go (holds e) =
          ⊎_elim (λ f. inl (omega arith)) inr
          (raised_only (byte_at m (j / 8)) (i % 8) (j % 8) (sym (ap (λ n. eqb (n / 2 ^ (j % 8) % 2) 1) (byte_same j e)) ∙ h))
      go (fails n) = inr (rw (get_or-set_other m (i / 8) (j / 8) (bit_or (byte_at m (i / 8)) (2 ^ (i % 8))) 0 n) at h)

pub below_few : (n : ℕ) (m : Bytes) → bits_below n m ≤ n
below_few zero m = omega arith
below_few (suc n) m = omega (arith, bit_below (in_bits m n), below_few n m)

module _ (m m' : Bytes) (keeps : (j : ℕ) → in_bits m j ≡ true → in_bits m' j ≡ true) where
  bit_more : (a b : Bool) → (a ≡ true → b ≡ true) → bit a ≤ bit b
  bit_more true b f = rw (f refl) (omega arith)
  bit_more false b f = omega arith

  pub below_more : (n : ℕ) → bits_below n m ≤ bits_below n m'
  below_more zero = omega arith
  below_more (suc n) = omega (arith, bit_more (in_bits m n) (in_bits m' n) (keeps n), below_more n)

  pub below_grows : (n i : ℕ) → i < n → in_bits m i ≡ false → in_bits m' i ≡ true → bits_below n m < bits_below n m'
  below_grows zero i h a b = absurd (not-suc-le-zero h)
  below_grows (suc n) i h a b =
      ⊎_elim
      (λ e.
      let was : bit (in_bits m n) ≡ 0 = ap (λ k. bit (in_bits m k)) (sym e) ∙ ap bit a in
      let is : bit (in_bits m' n) ≡ 1 = ap (λ k. bit (in_bits m' k)) (sym e) ∙ ap bit b in
      omega (arith, below_more n))
      (λ l. omega (arith, bit_more (in_bits m n) (in_bits m' n) (keeps n), below_grows n i l a b))
      (eq-or-lt_of_le (le_of_suc-le-suc h))

-- The value of a word with one more digit.
use Prim.Native.Nat.{ℕ, ◌+◌, ◌*◌, ◌-◌, ◌<◌, min}
use native.Mathlib.Omega.{arith}
use mathlib.Core.Path.{◌≡◌, refl, ◌∙◌, ap}
use mathlib.Core.List.{[], ◌∷◌, ◌++◌}
use lib.ListN.{length, take}
use Rattle.theory.specs.Query.{Bytes, byte_at}
use Rattle.theory.proofs.RangeLaws.{take_more}
use Rattle.decimal.specs.Words.{large_number, digit_zero, ten, value_with, value_of}

-- a digit behind all others
pub value_more : (n : ℕ) (l : Bytes) (b : ℕ) → value_with n (l ++ (b ∷ [])) ≡ value_with n l * ten + (b - digit_zero)
value_more n [] b = refl
value_more n (c ∷ l) b = value_more (n * ten + (c - digit_zero)) l b

-- of a large number the value is not needed any more
pub read_more : (w : Bytes) (i n : ℕ) {r : ℕ} → i < length w → n ≡ min (value_of (take i w)) large_number → r ≡ min (n * ten + (byte_at w i - digit_zero)) large_number
    → r ≡ min (value_of (take (i + 1) w)) large_number
read_more w i n h e f =
    let more : value_of (take (i + 1) w) ≡ value_of (take i w) * ten + (byte_at w i - digit_zero) = ap value_of (take_more w i 0 h) ∙ value_more 0 (take i w) (byte_at w i) in
    omega arith

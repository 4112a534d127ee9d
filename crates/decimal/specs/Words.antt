-- A word that is a number in decimal, the number, and what a reading says of it.
use Rattle.std.specs.Prelude.{ℕ, ◌+◌, ◌*◌, ◌-◌, ◌≤◌, ◌<◌, min, ◌≡◌, [], ◌∷◌, length, Option, Some, None}
use Rattle.theory.specs.Query.{Bytes, byte_at}

-- The first number that no byte holds. It stands for every larger one too.
abbrev pub large_number : ℕ
large_number = 256

-- The digits are the bytes from "0" to "9", and a digit counts ten times the one behind it.
abbrev pub digit_zero : ℕ
digit_zero = 48

abbrev pub digit_nine : ℕ
digit_nine = 57

abbrev pub ten : ℕ
ten = 10

-- The byte is a digit.
pub record Digit (b : ℕ) : Type 0 where
  pub low : digit_zero ≤ b
  pub high : b ≤ digit_nine

-- The word is a number: it has a byte, and all of its bytes are digits.
pub record Decimal (w : Bytes) : Type 0 where
  pub some : 1 ≤ length w
  pub digits : (i : ℕ) → i < length w → Digit (byte_at w i)

-- The number that a number and more digits behind it make.
abbrev pub value_with : ℕ → Bytes → ℕ
value_with n [] = n
value_with n (b ∷ bs) = value_with (n * ten + (b - digit_zero)) bs

-- The number that a word of digits is.
abbrev pub value_of : Bytes → ℕ
value_of w = value_with 0 w

-- A reading gives a number's value, or that it is large, and says of every other word that it is no number.
abbrev pub Reads : Bytes → Option ℕ → Type 0
Reads w (Some n) = Decimal w × (n ≡ min (value_of w) large_number)
Reads w None = ¬ Decimal w

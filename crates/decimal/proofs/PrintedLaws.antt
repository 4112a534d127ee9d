-- What the listing prints of a number is a number in decimal, and its value is that number.
use Prim.Native.Nat.{ℕ, zero, suc, ◌+◌, ◌*◌, ◌/◌, ◌%◌, ◌-◌, ◌<◌}
use native.Mathlib.Nat.{not-suc-le-zero, le_of_suc-le-suc, zero-lt-suc}
use native.Mathlib.Omega.{arith}
use mathlib.Core.Path.{◌≡◌, ◌∙◌}
use mathlib.Core.Bool.{Bool, true, false}
use mathlib.Core.List.{[], ◌∷◌, ◌++◌}
use lib.Dec.{ltb}
use lib.ListN.{length, length-append}
use Rattle.theory.specs.Tests.{pick, Says, holds, fails}
use Rattle.theory.specs.Query.{Bytes, byte_at}
use Rattle.theory.specs.Listing.{decimal_within, decimal}
use Rattle.theory.proofs.Reflect.{says_ltb}
use Rattle.decimal.specs.Words.{ten, Digit, Decimal, value_of}
use Rattle.decimal.proofs.WordLaws.{value_more}

abbrev Digits : Bytes → Type 0
Digits l = (i : ℕ) → i < length l → Digit (byte_at l i)

digits_more : (l : Bytes) (b : ℕ) → Digits l → Digit b → Digits (l ++ (b ∷ []))
digits_more [] b f d zero h = d
digits_more [] b f d (suc i) h = absurd (not-suc-le-zero (le_of_suc-le-suc h))
digits_more (c ∷ l) b f d zero h = f zero (zero-lt-suc (length l))
digits_more (c ∷ l) b f d (suc i) h = digits_more l b (λ j k. f (suc j) (omega arith)) d i (le_of_suc-le-suc h)

-- the digits of a number of at most k digits are digits ..
digits_within : (k n : ℕ) → Digits (decimal_within k n)
digits_within zero n = λ i h. absurd (not-suc-le-zero h)
digits_within (suc k) n =
    digits_more (pick (ltb n 10) [] (decimal_within k (n / 10))) (48 + n % 10) (go (ltb n 10) (digits_within k (n / 10))) (record { low = omega arith; high = omega arith })
  where
    go : (t : Bool) → Digits (decimal_within k (n / 10)) → Digits (pick t [] (decimal_within k (n / 10)))
    go true f = λ i h. absurd (not-suc-le-zero h)
    go false f = f

-- .. and one digit more gives ten times as many numbers
value_longer : (k most : ℕ) → ((m : ℕ) → m < most → value_of (decimal_within k m) ≡ m) → (n : ℕ) → n < ten * most → value_of (decimal_within (suc k) n) ≡ n
value_longer k most h n l = value_more 0 (pick (ltb n 10) [] (decimal_within k (n / 10))) (48 + n % 10) ∙ go (says_ltb n 10)
  where
    go : {t : Bool} → Says (n < 10) t → value_of (pick t [] (decimal_within k (n / 10))) * ten + (48 + n % 10 - 48) ≡ n
    go (holds small) = omega arith
    go (fails f) = let e : value_of (decimal_within k (n / 10)) ≡ n / 10 = h (n / 10) (omega arith) in omega arith

pub printed_value : (n : ℕ) → n < 100000 → value_of (decimal n) ≡ n
printed_value = value_longer 4 10000 (value_longer 3 1000 (value_longer 2 100 (value_longer 1 10 (value_longer 0 1 (λ m l. omega arith)))))

pub printed_decimal : (n : ℕ) → Decimal (decimal n)
printed_decimal n = record { some = rw length-append (omega arith); digits = digits_within 5 n }

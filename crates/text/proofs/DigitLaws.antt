-- The digits of a number, and the numbers of a row with one more.
use Prim.Native.Nat.{ℕ, zero, suc, ◌+◌, ◌*◌, ◌/◌, ◌%◌, ◌-◌, ◌<◌, ◌≤◌}
use native.Mathlib.Nat.{not-suc-le-zero}
use native.Mathlib.Omega.{arith}
use mathlib.Core.Path.{◌≡◌, sym, ◌∙◌, ap}
use mathlib.Core.List.{[], ◌∷◌, ◌++◌, map, map-append, append-nil, flatten}
use lib.Dec.{ltb}
use lib.ListN.{length, take, get_or}
use borrow.Author.Tests.{lt-ltb, le-ltb}
use Rattle.theory.specs.Tests.{pick}
use Rattle.theory.specs.Query.{Bytes}
use Rattle.theory.specs.Listing.{decimal_within, decimal}
use Rattle.theory.proofs.RangeLaws.{take_more, flatten_append}

-- the last digit, alone and behind others
pub digits_one : (k n : ℕ) → 0 < k → n < 10 → (48 + n % 10) ∷ [] ≡ decimal_within k n
digits_one zero n h l = absurd (not-suc-le-zero h)
digits_one (suc k) n h l = rw (lt-ltb n 10 l)

pub digits_more : (k n : ℕ) → 0 < k → 10 ≤ n → decimal_within (k - 1) (n / 10) ++ ((48 + n % 10) ∷ []) ≡ decimal_within k n
digits_more zero n h l = absurd (not-suc-le-zero h)
digits_more (suc k) n h l = let e : suc k - 1 ≡ k = omega arith in rw (le-ltb n 10 l, e)

-- room for more digits changes nothing where all have room
more_room : (j k b : ℕ) → ((m : ℕ) → m < b → decimal_within j m ≡ decimal_within k m) → (n : ℕ) → n < 10 * b → decimal_within (suc j) n ≡ decimal_within (suc k) n
more_room j k b h n l = ap (λ f. pick (ltb n 10) [] f ++ ((48 + n % 10) ∷ [])) (h (n / 10) (omega arith))

pub three_digits : (n : ℕ) → n < 1000 → decimal_within 3 n ≡ decimal n
three_digits = more_room 2 4 100 (more_room 1 3 10 (λ m l. rw (lt-ltb m 10 l)))

-- one more piece behind the others of a row
pub row_more : (piece : ℕ → Bytes) (row : Bytes) (i : ℕ) → i < length row
    → flatten (map piece (take i row)) ++ piece (get_or row i 0) ≡ flatten (map piece (take (i + 1) row))
unfolding flatten
row_more piece row i h =
    let front = flatten (map piece (take i row)) in
    let last = piece (get_or row i 0) in
    sym (ap (λ l. flatten (map piece l)) (take_more row i 0 h)
    ∙ ap flatten (map-append piece (take i row) (get_or row i 0 ∷ []))
    ∙ flatten_append (map piece (take i row)) (last ∷ [])
    ∙ ap (λ l. front ++ l) (append-nil last))

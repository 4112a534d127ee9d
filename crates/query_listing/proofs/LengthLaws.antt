-- No listing is longer than 7,547 bytes: the numbers in it have at most three digits, and the held bits at most five.
use Prim.Native.Nat.{ℕ, zero, suc, ◌+◌, ◌*◌, ◌/◌, ◌≤◌, ◌<◌}
use native.Mathlib.Nat.{suc-mul, mul-le-mul_right, le_trans}
use native.Mathlib.Omega.{arith}
use mathlib.Core.Path.{◌≡◌, refl, subst}
use mathlib.Core.Bool.{Bool, true, false}
use mathlib.Core.List.{List, [], ◌∷◌, ◌++◌, map, Memᴰ, flatten}
use lib.Dec.{ltb}
use lib.ListN.{length, length-append, length-take}
use Rattle.theory.specs.Limits.{scratch_length, longest_table}
use Rattle.theory.specs.Tests.{pick, up_from, Says, holds, fails}
use Rattle.theory.specs.Query.{Bytes, read_query}
use Rattle.theory.specs.Table.{states_in, produced_in, sets_in, start_in, row_in, word_in}
use Rattle.theory.specs.Build.{Outcome, refused, built, outcome}
use Rattle.theory.specs.Listing.{decimal_within, decimal, refused_label, states_label, start_label, state_label, next_label, held_label, line_end, spaced, count_line, start_line, state_line, table_listing, listed, listing}
use Rattle.theory.specs.Lookups.{Faithful}
use Rattle.theory.proofs.Reflect.{says_ltb}
use Rattle.theory.proofs.ListLaws.{up_from_length, member_up_from, get_d_member}
use Rattle.theory.proofs.DemandThree.{Built, built_facts, built_faithful}
use Rattle.table.specs.Form.{Formed}
use Rattle.builder.proofs.AnswerLaws.{built_formed}
use Rattle.listing.specs.Lines.{longest_listing}

-- The bytes are at most so many.
pub record Short (l : Bytes) (most : ℕ) : Type 0 where
  pub short : length l ≤ most

-- a word, and one piece behind the other
word : (l : Bytes) → Short l (length l)
word l = record { short = omega arith }

joined : {x y : Bytes} {m n : ℕ} → Short x m → Short y n → Short (x ++ y) (m + n)
joined s t = record { short = rw length-append (omega arith) }

-- at most k pieces, each of at most w bytes
pieces : (piece : ℕ → Bytes) (w : ℕ) (l : List ℕ) → ((x : ℕ) → Memᴰ x l → Short (piece x) w) → length (flatten (map piece l)) ≤ length l * w
unfolding flatten
pieces piece w [] h = omega arith
pieces piece w (x ∷ l) h =
    rw (suc-mul, length-append) (omega (arith, (h x (Memᴰ.head refl)).short, pieces piece w l (λ y m. h y (Memᴰ.tail m))))

some_pieces : {piece : ℕ → Bytes} {w : ℕ} (k : ℕ) (l : List ℕ) → ((x : ℕ) → Memᴰ x l → Short (piece x) w) → length l ≤ k → Short (flatten (map piece l)) (k * w)
some_pieces {piece} {w} k l h m = record { short = le_trans (pieces piece w l h) (mul-le-mul_right w m) }

-- a number: at most as many digits as are counted, and at most j + 1 where it is below the power j + 1 of ten
decimal_short : (k n : ℕ) → Short (decimal_within k n) k
decimal_short zero n = record { short = omega arith }
decimal_short (suc k) n = record { short = rw length-append (go (ltb n 10) (decimal_short k (n / 10))) }
  where
    go : (t : Bool) → Short (decimal_within k (n / 10)) k → length (pick t [] (decimal_within k (n / 10))) + 1 ≤ suc k
    go true h = omega arith
    go false h = omega arith

abbrev power_of_ten : ℕ → ℕ
power_of_ten zero = 1
power_of_ten (suc j) = 10 * power_of_ten j

digits_few : (k j n : ℕ) → n < power_of_ten (suc j) → Short (decimal_within k n) (suc j)
digits_few zero j n h = record { short = omega arith }
digits_few (suc k) j n h = record { short = rw length-append (go j h (λ i. digits_few k i (n / 10)) (says_ltb n 10)) }
  where
    go : (j : ℕ) → n < power_of_ten (suc j) → ((i : ℕ) → n / 10 < power_of_ten (suc i) → Short (decimal_within k (n / 10)) (suc i)) →
        {t : Bool} → Says (n < 10) t → length (pick t [] (decimal_within k (n / 10))) + 1 ≤ suc j
    go j h rest (holds l) = omega arith
    go zero h rest (fails f) = absurd (f (omega arith))
    go (suc j) h rest (fails f) = omega (arith, (rest j (omega arith)).short)

number : (n : ℕ) → n < 1000 → Short (decimal n) 3
number n h = digits_few 5 2 n h

spaced_number : (n : ℕ) → n < 1000 → Short (spaced n) 4
spaced_number n h = joined (word (32 ∷ [])) (number n h)

refusal_short : (n : ℕ) → Short (listed (refused n)) 14
refusal_short n = joined (word refused_label) (joined (decimal_short 5 n) (word line_end))

-- the lines of a table that was built
module _ {query t : Bytes} (b : Built query t) where
  form : Formed t
  form = built_formed b

  faithful : Faithful (read_query query) t
  faithful = built_faithful b

  count_short : Short (count_line t) 11
  unfolding count_line
  count_short = joined (word states_label) (joined (number (states_in t) (omega (arith, form.few_states))) (word line_end))

  start_short : (p : ℕ) → p < produced_in t → Short (start_line t p) 14
  unfolding start_line
  start_short p h =
      joined (word start_label)
      (joined (number p (omega (arith, form.few_produced)))
      (joined (spaced_number (start_in t p) (omega (arith, form.few_states, faithful.start_below p h))) (word line_end)))

  -- a number in a state's row is a state
  row_below : (state x : ℕ) → state < states_in t → Memᴰ x (row_in t state) → x < 1000
  row_below state x h m =
      let at = get_d_member 0 m in
      let few : at.0 < sets_in t = let k : length (row_in t state) ≤ sets_in t = rw length-take (omega arith) in omega (arith, at.1) in
      subst (λ y. y < 1000) at.2 (omega (arith, form.few_states, faithful.successor_below state at.0 h few))

  state_short : (state : ℕ) → state < states_in t → Short (state_line t state) 58
  unfolding state_line
  state_short state h =
      let row : length (row_in t state) ≤ 8 = rw length-take (omega (arith, form.few_sets)) in
      joined (word state_label)
      (joined (number state (omega (arith, form.few_states)))
      (joined (word next_label)
      (joined (some_pieces 8 (row_in t state) (λ x m. spaced_number x (row_below state x h m)) row)
      (joined (word held_label) (joined (decimal_short 5 (word_in t state)) (word line_end))))))

  table_short : Short (table_listing t) longest_listing
  unfolding table_listing
  table_short =
      joined count_short
      (joined (some_pieces 8 (up_from 0 (produced_in t)) (λ p m. start_short p (omega (arith, (member_up_from 0 (produced_in t) m).1))) (rw up_from_length form.few_produced))
      (some_pieces 128 (up_from 0 (states_in t)) (λ state m. state_short state (omega (arith, (member_up_from 0 (states_in t) m).1))) (rw up_from_length form.few_states)))

-- Every query's listing.
pub listing_short : (query : Bytes) → length (listing query) ≤ longest_listing
unfolding listing
listing_short query = go (outcome query scratch_length longest_table) refl
  where
    go : (o : Outcome) → outcome query scratch_length longest_table ≡ o → length (listed o) ≤ longest_listing
    go (refused n) e = le_trans (refusal_short n).short (omega arith)
    go (built t) e = (table_short (built_facts query scratch_length longest_table t e)).short

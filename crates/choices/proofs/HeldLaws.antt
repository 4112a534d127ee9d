-- The held bits, from the last order down, and as the query's.
use Prim.Native.Nat.{ℕ, suc, ◌+◌, ◌*◌, ◌<◌, ◌≤◌}
use native.Mathlib.Nat.{zero-add}
use native.Mathlib.Numerals.{add-one}
use native.Mathlib.Omega.{arith}
use mathlib.Core.Path.{◌≡◌, sym, ◌∙◌, ap, ap₂}
use mathlib.Core.Bool.{Bool, false}
use mathlib.Core.List.{[], ◌∷◌, map, map-map}
use lib.ListN.{drop, get_or, length-drop, drop_of_length-le}
use lib.Seq.{drop-cons}
use Rattle.theory.specs.Tests.{up_from, bits_of}
use Rattle.theory.specs.Settled.{is_held}
use Rattle.theory.specs.Construction.{held_under}
use Rattle.theory.specs.Query.{Bytes, produced_count, order_count, order_at, read_query}
use Rattle.theory.specs.Table.{bit, number}
use Rattle.theory.proofs.RowLaws.{number_fits}
use Rattle.theory.proofs.RangeLaws.{entry_at, entry_count}
use Rattle.theory.proofs.QueryLaws.{set_count_lem}
use Rattle.theory.proofs.ReadLaws.{interesting_read, produced_at}
use Rattle.rules_in_force.specs.Rules.{rules_at}
use Rattle.choices.specs.Words.{held_bits}

-- what the bits from i on are, as a number
pub number_more : (f : ℕ → Bool) (n i : ℕ) → i < n → let bits = map f (up_from 0 n) in number (drop i bits) ≡ bit (f i) + 2 * number (drop (i + 1) bits)
number_more f n i h =
    let bits = map f (up_from 0 n) in
    let at : get_or bits i false ≡ f i = rw zero-add at (entry_at f 0 n i false h) in
    ap number (drop-cons bits i false (rw entry_count h) ∙ ap (λ b. b ∷ drop (suc i) bits) at) ∙ ap (λ k. bit (f i) + 2 * number (drop k bits)) (sym (add-one i))

-- there are none behind the last
pub number_none : (f : ℕ → Bool) (n i : ℕ) → n ≤ i → 0 ≡ number (drop i (map f (up_from 0 n)))
number_none f n i h = sym (ap number (drop_of_length-le (map f (up_from 0 n)) {i = i} (rw entry_count h)))

-- and the number of at most 16 bits without the first is below 2 ^ 15
pub number_room : (f : ℕ → Bool) (n i : ℕ) → n ≤ 16 → 0 < i → number (drop i (map f (up_from 0 n))) < 32768
number_room f n i h l = number_fits (drop i (map f (up_from 0 n))) 15 (simp (length-drop, entry_count) (omega arith))

-- under the rules of a choice they are the query's held bits
pub held_bits_lem : (b : Bytes) (x p : ℕ) → p < produced_count b → held_bits b (rules_at b x) p ≡ held_under (read_query b) (get_or (read_query b).produced p []) (bits_of (read_query b).sets x)
held_bits_lem b x p h =
    sym (map-map (λ o. is_held (rules_at b x) (order_at b p) o) (order_at b) (up_from 0 (order_count b)))
    ∙ ap (map (λ o. is_held (rules_at b x) (order_at b p) o)) (sym (interesting_read b))
    ∙ ap₂ (λ o n. held_under (read_query b) o (bits_of n x)) (sym (produced_at b p [] h)) (sym (set_count_lem b))

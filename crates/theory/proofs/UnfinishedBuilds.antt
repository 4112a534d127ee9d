-- Document 02, Req 08: an unfinished build, its count and its held bytes, one pair more at a time; merged when all pairs are settled it is the query's table.
use Prim.Native.Nat.{ℕ, suc, ◌+◌, ◌*◌, ◌/◌, ◌%◌, ◌^◌, ◌≤◌, ◌<◌}
use native.Mathlib.Nat.{add-zero, mul-le-mul_right, suc-mul}
use native.Mathlib.Numerals.{add-one}
use native.Mathlib.Omega.{arith}
use mathlib.Core.Path.{◌≡◌, refl, sym, ◌∙◌, ap, ap₂, subst}
use mathlib.Core.List.Memᴰ
use mathlib.Core.List.{List, [], ◌++◌, map, Memᴰ, append_assoc, flatten}
use lib.ListN.{length, drop, get_or, length-append}
use lib.Pow.{high, low}
use lib.Seq.{get_or-take, get_or-drop}
use Rattle.theory.specs.Tests.{up_from, bits_of}
use Rattle.theory.specs.Limits.{held_width, scratch_length}
use Rattle.theory.specs.Orders.{Query}
use Rattle.theory.specs.Construction.{held_under}
use Rattle.theory.specs.Query.{Bytes, byte_at, row_at}
use Rattle.theory.specs.Placed.{placed}
use Rattle.theory.specs.Scratch.{words_part, word_at}
use Rattle.theory.specs.Table.{number}
use Rattle.theory.specs.Build.{query_table, zeroed}
use Rattle.theory.specs.Steps.{pair_count, pair_bytes, count_in, count_bytes, settled_pair, merged_table, unfinished}
use Rattle.theory.proofs.RowLaws.{flatten_length, row_of_rows, number_split}
use Rattle.theory.proofs.RangeLaws.{entry_of, entry_count, flatten_more}
use Rattle.theory.proofs.PlacedLaws.{placed_first, placed_more, placed_over}
use Rattle.theory.proofs.ClearLaws.{zeroed_length}
use Rattle.theory.proofs.MergedTables.{merged_query}
use Rattle.theory.proofs.StepBuffers.{AlikeBehind, alike_trans, alike_placed, alike_zeroed}

-- the held bytes of the first pairs, and those of each
module _ (q : Query) where
  abbrev first_pairs : ℕ → Bytes
  first_pairs i = flatten (map (pair_bytes q) (up_from 0 i))

  wide : (i : ℕ) (r : Bytes) → Memᴰ r (map (pair_bytes q) (up_from 0 i)) → length r ≡ held_width
  wide i r m = let t = Memᴰ.of_map (pair_bytes q) (up_from 0 i) m in ap length (sym t.2)

  pairs_length : (i : ℕ) → length (first_pairs i) ≡ i * held_width
  pairs_length i = flatten_length held_width (map (pair_bytes q) (up_from 0 i)) (wide i) ∙ ap (λ n. n * held_width) (entry_count (pair_bytes q) 0 i)

  front_length : (i : ℕ) → length (count_bytes (suc i) ++ first_pairs i) ≡ words_part + held_width * i
  front_length i = omega (arith, length-append (count_bytes (suc i)) (first_pairs i), pairs_length i)

  module _ (scratch : Bytes) (long : scratch_length ≤ length scratch) where
    abbrev cleared : Bytes
    cleared = zeroed scratch_length scratch

    fits : (i : ℕ) → i ≤ 2048 → words_part + held_width * i ≤ length cleared
    fits i h = omega (arith, zeroed_length scratch_length scratch long)

    pub unfinished_count : (i : ℕ) → count_in (unfinished q i scratch) ≡ suc i
    unfolding unfinished
    unfinished_count i = ap count_in (placed_first (count_bytes (suc i) ++ first_pairs i) cleared) ∙ omega arith

    pub unfinished_behind : (i : ℕ) → i ≤ 2048 → AlikeBehind (unfinished q i scratch) scratch
    unfolding unfinished
    unfinished_behind i h =
        let z = alike_zeroed scratch long in
        alike_trans (alike_placed 0 (count_bytes (suc i) ++ first_pairs i) cleared (omega (arith, front_length i)) (omega (arith, z.lengths))) z

    -- one pair more is settled
    pub unfinished_more : (i : ℕ) → i < 2048 → settled_pair q i (unfinished q i scratch) ≡ unfinished q (suc i) scratch
    unfolding unfinished
    unfinished_more i h =
        let front = count_bytes (suc i) ++ first_pairs i in
        let next : placed (words_part + held_width * i) (pair_bytes q i) (placed 0 front cleared) ≡ placed 0 (count_bytes (suc i) ++ first_pairs (suc i)) cleared =
        placed_more 0 (words_part + held_width * i) front (pair_bytes q i) cleared (omega (arith, front_length i)) (fits i (omega arith))
        ∙ ap (λ x. placed 0 x cleared)
        (append_assoc (count_bytes (suc i)) (first_pairs i) (pair_bytes q i)
        ∙ ap (λ x. count_bytes (suc i) ++ x) (sym (flatten_more (pair_bytes q) 0 i i (omega arith)) ∙ ap first_pairs (add-one i))) in
        ap (placed 0 (count_bytes (suc (suc i)))) next ∙ placed_over (count_bytes (suc i)) (count_bytes (suc (suc i))) (first_pairs (suc i)) cleared refl

    -- the held bytes of a pair that is settled stand in their place, and so does its word
    abbrev rows : ℕ → List Bytes
    rows i = map (pair_bytes q) (up_from 0 i)

    unfinished_row : (i k : ℕ) → k < i → row_at words_part held_width k (unfinished q i scratch) ≡ pair_bytes q k
    unfolding unfinished
    unfinished_row i k h =
        let front = count_bytes (suc i) ++ first_pairs i in
        let rest = drop (length front) cleared in
        ap (row_at words_part held_width k) (placed_first front cleared ∙ append_assoc (count_bytes (suc i)) (first_pairs i) rest)
        ∙ row_of_rows held_width words_part (count_bytes (suc i)) (rows i) rest k (wide i) refl (subst (λ n. k < n) (sym (entry_count (pair_bytes q) 0 i)) h)
        ∙ entry_of (pair_bytes q) i k [] h

    unfinished_byte : (i k j : ℕ) → k < i → j < held_width → byte_at (unfinished q i scratch) (words_part + held_width * k + j) ≡ byte_at (pair_bytes q k) j
    unfinished_byte i k j h l =
        let b = unfinished q i scratch in
        let place : words_part + held_width * k + j ≡ words_part + k * held_width + j = omega arith in
        ap (byte_at b) place
        ∙ sym (get_or-take held_width (drop (words_part + k * held_width) b) j 0 l ∙ get_or-drop (words_part + k * held_width) b j 0)
        ∙ ap (λ r. byte_at r j) (unfinished_row i k h)

    unfinished_word : (p x : ℕ) → p < length q.produced → x < 2 ^ q.sets →
        word_at q.sets (unfinished q (pair_count q) scratch) p x ≡ number (held_under q (get_or q.produced p []) (bits_of q.sets x))
    unfinished_word p x h l =
        let k = p * 2 ^ q.sets + x in
        let held = held_under q (get_or q.produced (k / 2 ^ q.sets) []) (bits_of q.sets (k % 2 ^ q.sets)) in
        let below : k < pair_count q = omega (arith, mul-le-mul_right (2 ^ q.sets) h, suc-mul p (2 ^ q.sets)) in
        let b = unfinished q (pair_count q) scratch in
        ap₂ (λ i j. byte_at b i + 256 * byte_at b j) (sym (add-zero (words_part + held_width * k))) (sym (add-one (words_part + held_width * k)))
        ∙ ap₂ (λ a c. a + 256 * c) (unfinished_byte (pair_count q) k 0 below (omega arith)) (unfinished_byte (pair_count q) k 1 below (omega arith))
        ∙ number_split 8 held
        ∙ ap₂ (λ r y. number (held_under q (get_or q.produced r []) (bits_of q.sets y))) (high p q.sets l) (low p q.sets l)

    -- where all pairs are settled, what is merged is the query's table
    pub merged_whole : merged_table q (unfinished q (pair_count q) scratch) ≡ query_table q
    merged_whole = merged_query q (unfinished q (pair_count q) scratch) unfinished_word

-- Settling pair by pair: the word that is written is the pair's, and the other words stay.
use Prim.Native.Nat.{ℕ, zero, suc, ◌+◌, ◌-◌, ◌/◌, ◌%◌, ◌^◌, ◌<◌, ◌≤◌}
use native.Mathlib.Nat.{zero-add}
use native.Mathlib.Numerals.{add-one}
use native.Mathlib.Omega.{arith}
use mathlib.Core.Path.{◌≡◌, refl, ◌∙◌, ap, subst, sym}
use mathlib.Core.Bool.{Bool}
use mathlib.Core.List.{List, [], ◌∷◌}
use borrow.Author.Count.{below_none, below_more}
use lib.ListN.{length, get_or}
use Rattle.theory.specs.Tests.{bits_of}
use Rattle.theory.specs.Limits.{max_produced, max_sets}
use Rattle.theory.specs.Construction.{held_under}
use Rattle.theory.specs.Query.{Bytes, read_query}
use Rattle.theory.specs.Table.{number}
use Rattle.theory.specs.Scratch.{pair_at, held_part}
use Rattle.theory.specs.Placed.{placed}
use Rattle.theory.proofs.ChoiceNumbers.{word_bytes}
use Rattle.theory.proofs.PlacedLaws.{placed_length}
use Rattle.pair_words.proofs.PairWords.{pair_fits, word_written, word_other}
use Rattle.choices.specs.Words.{bytes_under, settled_orders, WordIs, WordsBelow, WordsTo}

-- no produced order yet
pub words_none : {b work : Bytes} {x : ℕ} → WordsBelow b work x → WordsTo b work x 0
words_none w = record { below = w; first = below_none _ }

module _ (b : Bytes) (x : ℕ) where
  -- one order more: the scratch with the held bytes of produced order p written
  abbrev one : ℕ → Bytes → Bytes
  one p work = placed (pair_at (read_query b).sets p x) (bytes_under b p x) work

  pub settled_more : (from p : ℕ) (work : Bytes) → from ≤ p → one p (settled_orders b x from (p - from) work) ≡ settled_orders b x from (p + 1 - from) work
  settled_more from p work h =
      let at : p ≡ from + (p - from) = omega arith in
      let next : suc (p - from) ≡ p + 1 - from = omega arith in
      ap (λ k. one k (settled_orders b x from (p - from) work)) at ∙ ap (λ n. settled_orders b x from n work) next

module _ (b : Bytes) (some : length (read_query b).produced ≤ max_produced) (few : (read_query b).sets ≤ max_sets) (x : ℕ) (low : x < 2 ^ (read_query b).sets) where
  abbrev sets : ℕ
  sets = (read_query b).sets

  abbrev orders : ℕ
  orders = length (read_query b).produced

  fits : (p : ℕ) → p < orders → pair_at sets p x + 2 ≤ held_part
  fits p h = pair_fits sets p x (omega (arith, some)) few low

  -- the length stays
  one_length : (p : ℕ) (work : Bytes) → p < orders → held_part ≤ length work → length (one b x p work) ≡ length work
  one_length p work h long = placed_length (pair_at sets p x) (bytes_under b p x) work (omega (arith, fits p h))

  settled_length : (from n : ℕ) (work : Bytes) → from + n ≤ orders → held_part ≤ length work → length (settled_orders b x from n work) ≡ length work
  settled_length from zero work h long = refl
  settled_length from (suc n) work h long =
      let before = settled_length from n work (omega arith) long in
      one_length (from + n) (settled_orders b x from n work) (omega arith) (omega (arith, before)) ∙ before

  -- the word that is written is the pair's, and the other words stay
  module _ {work : Bytes} {p : ℕ} (s : WordsTo b work x p) (h : p < orders) (long : held_part ≤ length work) where
    abbrev held : List Bool
    held = held_under (read_query b) (get_or (read_query b).produced p []) (bits_of sets x)

    abbrev word : ℕ
    word = number held

    abbrev written : Bytes
    written = placed (pair_at sets p x) (word % 256 ∷ word / 256 ∷ []) work

    other : (q y : ℕ) → q < orders → y < 2 ^ sets → (q ≡ p → y ≡ x → ⊥) → WordIs b work q y → WordIs b written q y
    other q y hq hy n e = word_other sets p x (omega (arith, some)) few low q y (omega (arith, some)) hy n (word % 256) (word / 256) work (omega arith) ∙ e

    words_more : WordsTo b (one b x p work) x (p + 1)
    words_more =
        subst (λ after. WordsTo b after x (p + 1)) (sym (ap (λ w. placed (pair_at sets p x) w work) (word_bytes held)))
        (record {
          below = λ q y hq hy. other q y hq (omega arith) (λ _ d. let z : ⊥ = omega arith in z) (s.below q y hq hy);
          first =
              below_more (λ k. WordIs b written k x) p (λ k l. other k x (omega arith) low (λ d _. let z : ⊥ = omega arith in z) (s.first k l))
              (word_written sets p x (omega (arith, some)) few low word work (omega arith));
        })

  -- the words of the first n produced orders under the choice lie in their places, ..
  settled_words : (n : ℕ) (work : Bytes) → n ≤ orders → held_part ≤ length work → WordsBelow b work x → WordsTo b (settled_orders b x 0 n work) x n
  settled_words zero work h long w = words_none w
  settled_words (suc n) work h long w =
      let before = settled_orders b x 0 n work in
      let kept = settled_length 0 n work (omega arith) long in
      subst (λ after. WordsTo b after x (suc n)) (ap (λ k. one b x k before) (sym (zero-add n)))
      (subst (WordsTo b (one b x n before) x) (add-one n) (words_more (settled_words n work (omega arith) long w) (omega arith) (omega (arith, kept))))

  -- .. and so do those of all
  pub words_choice : (work : Bytes) → held_part ≤ length work → WordsBelow b work x → WordsBelow b (settled_orders b x 0 orders work) (x + 1)
  words_choice work long w q y hq =
      let s = settled_words orders work (omega arith) long w in
      below_more (λ k. WordIs b (settled_orders b x 0 orders work) q k) x (λ k h. s.below q k hq h) (s.first q hq) y

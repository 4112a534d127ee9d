-- The state that a pair gives, known by the pair's word with each further choice: all that the proofs of the code know of trees.
use Prim.Native.Nat.{ℕ, ◌/◌, ◌%◌, ◌^◌, ◌<◌}
use native.Mathlib.Omega.{arith}
use mathlib.Core.Path.{◌≡◌, refl, sym, ◌∙◌, ap, subst}
use mathlib.Core.Bool.{Bool}
use mathlib.Core.List.{List, [], ◌∷◌}
use lib.Bits.{bit_or, or_comm, or_zero_r}
use Rattle.theory.specs.Tests.{bits_of}
use Rattle.theory.specs.Choices.{with_set}
use Rattle.theory.specs.AnswerTree.{take_tree, held_now}
use Rattle.theory.specs.Query.{Bytes}
use Rattle.theory.specs.Scratch.{word_at, rows_machine}
use Rattle.theory.specs.Table.{number, held_bytes}
use Rattle.theory.proofs.RowLaws.{number_below}
use Rattle.theory.proofs.AnswerLaws.{take_tree_lem, tree_same, tree_reads, held_tree}
use Rattle.theory.proofs.ChoiceNumbers.{bits_length, number_cut, number_bits, bits_cut, number_none, number_with, or_assoc, word_bytes}
use Rattle.row_pairs.specs.RowPairs.{cut_word}
use Rattle.open_sets.specs.Open.{state_of}

module _ (bits sets : ℕ) (words : Bytes) where
  -- what is held from p under choice x
  abbrev held_at : ℕ → ℕ → List Bool
  held_at p x = bits_of bits (word_at sets words p x)

  -- two pairs that hold the same with every further choice give one state, ..
  pub state_same : (p m q k : ℕ) → ((x : ℕ) → x < 2 ^ sets → cut_word bits sets words p (bit_or m x) ≡ cut_word bits sets words q (bit_or k x)) →
      state_of bits sets words p m ≡ state_of bits sets words q k
  unfolding state_of
  state_same p m q k h =
      tree_same sets (λ c. held_at p (bit_or m (number c))) (λ c. held_at q (bit_or k (number c)))
      (λ c e. bits_cut bits (word_at sets words p (bit_or m (number c))) (word_at sets words q (bit_or k (number c))) (h (number c) (subst (λ n. number c < 2 ^ n) e (number_below c))))

  -- .. and two that give one state hold the same with every further choice
  pub state_tells : (p m q k : ℕ) → state_of bits sets words p m ≡ state_of bits sets words q k → (x : ℕ) → x < 2 ^ sets →
      cut_word bits sets words p (bit_or m x) ≡ cut_word bits sets words q (bit_or k x)
  unfolding state_of
  state_tells p m q k e x h =
      let same : (y : ℕ) → number (bits_of sets x) ≡ y → held_at p (bit_or m y) ≡ held_at q (bit_or k y) =
      λ y d. subst (λ n. held_at p (bit_or m n) ≡ held_at q (bit_or k n)) d (tree_reads sets (λ c. held_at p (bit_or m (number c))) (λ c. held_at q (bit_or k (number c))) e (bits_of sets x) (bits_length sets x)) in
      sym (number_cut bits (word_at sets words p (bit_or m x))) ∙ ap number (same x (number_bits sets x h)) ∙ number_cut bits (word_at sets words q (bit_or k x))

  -- with no set in force the pair gives the start, and with one set more what the state becomes under that set
  pub state_start : (p : ℕ) → state_of bits sets words p 0 ≡ (rows_machine bits sets words).start p
  unfolding state_of
  state_start p = refl

  pub state_next : (p m s : ℕ) → s < sets → state_of bits sets words p (bit_or m (2 ^ s)) ≡ take_tree (state_of bits sets words p m) s
  unfolding state_of
  state_next p m s h =
      tree_same sets (λ c. held_at p (bit_or (bit_or m (2 ^ s)) (number c))) (λ c. held_at p (bit_or m (number (with_set c s))))
      (λ c e. ap (held_at p) (or_assoc m (2 ^ s) (number c) ∙ ap (bit_or m) (or_comm (2 ^ s) (number c) ∙ sym (number_with c s (omega arith)))))
      ∙ sym (take_tree_lem sets s (λ c. held_at p (bit_or m (number c))))

  -- the held bytes are those of the pair's own word
  pub state_held : (p m : ℕ) → held_bytes (held_now (state_of bits sets words p m)) ≡ cut_word bits sets words p m % 256 ∷ cut_word bits sets words p m / 256 ∷ []
  unfolding state_of
  state_held p m =
      ap held_bytes (held_tree sets (λ c. held_at p (bit_or m (number c))) ∙ ap (held_at p) (ap (bit_or m) (number_none sets) ∙ or_zero_r m))
      ∙ word_bytes (held_at p m)
      ∙ ap (λ n. n % 256 ∷ n / 256 ∷ []) (number_cut bits (word_at sets words p m))

-- Pairs and their words as numbers. While rows are numbered, row i is a pair of bytes: a produced order and the number of a choice of sets in force that give it.
use Rattle.std.specs.Prelude.{ℕ, ◌+◌, ◌*◌, ◌%◌, ◌^◌, ◌≤◌, ◌<◌}
use Rattle.theory.specs.Limits.{max_produced, max_states, held_width}
use Rattle.theory.specs.Query.{Bytes, byte_at}
use Rattle.theory.specs.Scratch.{word_at, held_part}

-- The word of a pair, of which so many bits count.
abbrev pub cut_word : (bits sets : ℕ) → Bytes → ℕ → ℕ → ℕ
cut_word bits sets words p x = word_at sets words p x % 2 ^ bits

-- Where row i lies.
abbrev pub row_place : ℕ → ℕ
row_place i = held_part + i * held_width

-- There is room for the rows, and each is a pair.
pub record Pairs (sets : ℕ) (work : Bytes) (count : ℕ) : Type 0 where
  pub few : count ≤ max_states
  pub orders : (i : ℕ) → i < count → byte_at work (row_place i) < max_produced
  pub choices : (i : ℕ) → i < count → byte_at work (row_place i + 1) < 2 ^ sets

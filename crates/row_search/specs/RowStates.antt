-- The states of the rows while they are numbered, and the whole choices by which they are known.
use Rattle.std.specs.Prelude.{ℕ, suc, ◌+◌, ◌^◌, ◌<◌, ◌≡◌, List, map, take}
use Rattle.theory.specs.Tests.{up_from}
use Rattle.theory.specs.AnswerTree.{AnswerTree}
use Rattle.theory.specs.Query.{Bytes, byte_at}
use Rattle.theory.specs.Scratch.{held_part, open_in}
use Rattle.row_pairs.specs.RowPairs.{row_place}
use Rattle.open_sets.specs.Open.{state_of, Opened}

-- The state that row i's pair gives, and the states of the first n rows.
abbrev pub row_state : (bits sets : ℕ) → Bytes → ℕ → AnswerTree
row_state bits sets work i = state_of bits sets (take held_part work) (byte_at work (row_place i)) (byte_at work (row_place i + 1))

abbrev pub row_states : (bits sets : ℕ) → Bytes → ℕ → List AnswerTree
row_states bits sets work n = map (row_state bits sets work) (up_from 0 n)

-- A choice is *whole* for a produced order where every set that is not open is in force: of all choices that give one state it is the largest.
abbrev pub Whole : (sets : ℕ) → Bytes → ℕ → ℕ → Type 0
Whole sets work p m = suc (m + open_in sets work p m) ≡ 2 ^ sets

-- Each row is a pair of one of the first n produced orders and a whole choice, and the open sets of all pairs lie in their part.
pub record Wholes (n bits sets : ℕ) (work : Bytes) (count : ℕ) : Type 0 where
  pub own : (i : ℕ) → i < count → byte_at work (row_place i) < n
  pub whole : (i : ℕ) → i < count → Whole sets work (byte_at work (row_place i)) (byte_at work (row_place i + 1))
  pub opened : Opened n bits sets (take held_part work) work

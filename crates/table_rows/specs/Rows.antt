-- What numbering the rows of the words in the scratch leaves there.
use Rattle.std.specs.Prelude.{ℕ, ◌≤◌, ◌<◌, ◌≡◌, Option, MatchOption}
use Rattle.theory.specs.Limits.{max_states}
use Rattle.theory.specs.Machine.{Sizes}
use Rattle.theory.specs.Query.{Bytes}
use Rattle.theory.specs.Scratch.{rows_table, Stored}

-- So many rows are numbered, and the scratch has the table of the words.
pub record RowsStored (z : Sizes) (before after : Bytes) (count : ℕ) : Type 0 where
  pub few : count ≤ max_states
  pub all : count ≡ (rows_table z before).state_count
  pub stored : Stored (rows_table z before) after

-- The rows are numbered and the scratch has the table, or there are more than 128.
abbrev pub RowsFound : (z : Sizes) → Bytes → Bytes → Option ℕ → Type 0
RowsFound z before after r = MatchOption r (max_states < (rows_table z before).state_count) (RowsStored z before after)

-- How long the lines of a listing can be, and lines one behind the other.
use Rattle.std.specs.Prelude.{ℕ}
use mathlib.Core.List.{◌++◌, map, flatten}
use Rattle.theory.specs.Table.{word_in}
use Rattle.theory.specs.Tests.{up_from}
use Rattle.theory.specs.Query.{Bytes}
use Rattle.theory.specs.Listing.{decimal, held_label, line_end}

-- The longest lines, with three digits for each number and five for the held bits: the count; a start; a state, with its row of successors and its held bits.
abbrev pub longest_count : ℕ
longest_count = 11

abbrev pub longest_start : ℕ
longest_start = 14

abbrev pub longest_row : ℕ
longest_row = 32

abbrev pub longest_held : ℕ
longest_held = 12

abbrev pub longest_state : ℕ
longest_state = 58

-- All starts, and all states.
abbrev pub longest_starts : ℕ
longest_starts = 112

abbrev pub longest_states : ℕ
longest_states = 7424

-- The longest listing: the count, 8 starts and 128 states.
abbrev pub longest_listing : ℕ
longest_listing = 7547

-- The first n lines of a kind.
abbrev pub lines : (ℕ → Bytes) → ℕ → Bytes
lines line n = flatten (map line (up_from 0 n))

-- The end of a state's line.
abbrev pub held_field : Bytes → ℕ → Bytes
held_field t state = held_label ++ (decimal (word_in t state) ++ line_end)

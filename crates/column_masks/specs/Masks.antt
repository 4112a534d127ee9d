-- Sets of columns as masks, bit c for column c.
use Rattle.std.specs.Prelude.{ℕ, ◌<◌}
use mathlib.Core.List.{List, Memᴰ}
use Rattle.theory.specs.Tests.{Says, in_mask}

-- A mask has room for the columns.
abbrev pub Narrow : List ℕ → Type 0
Narrow l = (c : ℕ) → Memᴰ c l → c < 16

-- The mask has exactly the columns of the list.
abbrev pub MaskOf : List ℕ → ℕ → Type 0
MaskOf l m = (c : ℕ) → Says (Memᴰ c l) (in_mask m c)

-- How the closure test ends, and the two rows of the masks that it hands out where it stops.
use Rattle.std.specs.Prelude.{ℕ, ◌<◌, ◌≡◌, Bool, true, false, not, Option, None, Some, pos}
use mathlib.Core.List.{List, map, Memᴰ}
use Rattle.theory.specs.Tests.{pick, up_from, in_mask}
use Rattle.theory.specs.Orders.{Order, columns, Rule, RulesBelow}
use Rattle.theory.specs.Rows.{Counterexample}
use Rattle.theory.specs.Settled.{is_held}
use Rattle.theory.specs.Query.{Bytes}
use Rattle.theory.specs.Table.{bit}
use Rattle.settled.specs.declared.Stop.{Stop}

-- A row's value in a column, by whether the column is settled and whether it is in the class: 0 where it is settled, and elsewhere the one row of two has 1 in the class and
-- the other has 1 in all other columns.
abbrev pub value_in : Bool → Bool → Bool → ℕ
value_in inside settled class = pick settled 0 (bit (pick inside class (not class)))

-- The one row or the other of two rows of n columns, by the masks of the settled columns and of the class.
abbrev pub row_by : Bool → ℕ → ℕ → ℕ → Bytes
row_by inside settled class n = map (λ c. value_in inside (in_mask settled c) (in_mask class c)) (up_from 0 n)

-- The test says whether the order is held, and where it stops, the two rows by its masks show that it is not: rows of any width that has all columns of both orders and
-- of the rules. The one with 1 in the class comes first where the produced order's entry ascends, else the other.
abbrev pub Ends : List Rule → Order → Order → Option Stop → Type 0
Ends rs p o None = is_held rs p o ≡ true
Ends rs p o (Some stop) =
    (is_held rs p o ≡ false)
    × ((n : ℕ) → ((c : ℕ) → Memᴰ c (columns p) → c < n) → ((c : ℕ) → Memᴰ c (columns o) → c < n) → RulesBelow n rs
    → Counterexample n rs p o (map pos (row_by stop.ascends stop.settled stop.class n)) (map pos (row_by (not stop.ascends) stop.settled stop.class n)))

-- The places of the closure test: entries passed over, and an entry compared.
use Rattle.std.specs.Prelude.{ℕ, ◌≤◌, ◌<◌, ◌≡◌, Bool, true, false, List, ltb, length, get_or}
use Rattle.std.specs.Bool.{beq}
use Rattle.theory.specs.Tests.{pick, in_mask}
use Rattle.theory.specs.Orders.{Order, descends, column}

-- From one place of an order to another the entries' columns are in the mask, and that of the entry there, if there is one, is not.
pub record Skipped (m : ℕ) (o : Order) (from to : ℕ) : Type 0 where
  pub forth : from ≤ to
  pub within : to ≤ length o
  pub passed : (k : ℕ) → k < to → from ≤ k → in_mask m (column (get_or o k 0)) ≡ true
  pub stopped : to < length o → in_mask m (column (get_or o to 0)) ≡ false

-- The class of an entry's column where the entry descends or ascends as given, else no column.
abbrev pub class_in : List ℕ → ℕ → Bool → ℕ
class_in classes e down = pick (beq (descends e) down) (get_or classes (column e) 0) 0

-- Place i of the order is there, and its entry is alike to e: its column is in the class of e's column, and it has e's direction.
abbrev pub meets : List ℕ → ℕ → Order → ℕ → Bool
meets classes e o i = pick (ltb i (length o)) (in_mask (class_in classes e (descends (get_or o i 0))) (column (get_or o i 0))) false

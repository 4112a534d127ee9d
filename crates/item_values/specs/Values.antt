-- What an order and a dependency say, as one number each.
use Rattle.std.specs.Prelude.{ℕ, ◌+◌, ◌*◌, List, [], ◌∷◌, ◌++◌, length, get_or}
use Rattle.theory.specs.Limits.{equal_kind}
use Rattle.theory.specs.Orders.{Order, Rule, fix, equal, Dependency}

-- Four numbers, a byte each, the first lowest, 0 where there is none.
abbrev pub bytes_code : List ℕ → ℕ
bytes_code l = get_or l 0 0 + 256 * get_or l 1 0 + 65536 * get_or l 2 0 + 16777216 * get_or l 3 0

-- An order: its length, then its entries, 128 included where one descends.
unfoldable pub order_code : Order → ℕ
order_code o = length o + 256 * bytes_code o

-- A rule's kind, and its columns: of a fix the left ones, then the right one.
abbrev pub kind_code : Rule → ℕ
kind_code (fix l r) = length l
kind_code (equal a b) = equal_kind

abbrev pub rule_columns : Rule → List ℕ
rule_columns (fix l r) = l ++ (r ∷ [])
rule_columns (equal a b) = a ∷ b ∷ []

-- A dependency: its set, its kind, then its columns.
unfoldable pub dependency_code : Dependency → ℕ
dependency_code d = d.set + 256 * kind_code d.rule + 65536 * bytes_code (rule_columns d.rule)

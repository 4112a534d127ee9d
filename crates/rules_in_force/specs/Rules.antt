-- The rules in force of a query's bytes under a choice, and their arrows.
use Rattle.std.specs.Prelude.{ℕ, ◌+◌, ◌/◌, ◌%◌, ◌^◌, Bool, false, eqb}
use mathlib.Core.List.{List, [], map, flatten}
use Rattle.theory.specs.Tests.{pick, bits_of, in_mask}
use Rattle.theory.specs.Limits.{equal_kind}
use Rattle.theory.specs.Orders.{Rule}
use Rattle.theory.specs.Choices.{rules_under}
use Rattle.theory.specs.Query.{Bytes, set_count, order_count, kind_of, set_of, dependency_at, read_query}
use Rattle.arrows.specs.declared.Arrow.{Arrow}
use Rattle.arrows.specs.Arrows.{ColumnArrow, arrows_of, Written}

-- The rules in force of a query's bytes under the choice with a number.
abbrev pub rules_at : Bytes → ℕ → List Rule
rules_at b x = rules_under (read_query b) (bits_of (set_count b) x)

-- The arrows of dependency i, where bit s of x says whether set s is in force.
abbrev pub arrows_at : Bool → Bytes → ℕ → ℕ → List ColumnArrow
arrows_at only b x i = pick (eqb (x / 2 ^ (dependency_at b (order_count b + i)).set % 2) 1) (arrows_of only (dependency_at b (order_count b + i)).rule) []

-- The dependency with that head is listed: its set is in force and, where only equals are listed, it is one.
unfoldable pub is_listed : Bool → ℕ → ℕ → Bool
is_listed only x head = pick (eqb (kind_of head) equal_kind) (in_mask x (set_of head)) (pick only false (in_mask x (set_of head)))

-- The arrows of all rules are written.
abbrev pub ArrowsListed : Bool → List Rule → List Arrow → Type 0
ArrowsListed only rs listed = Written (flatten (map (arrows_of only) rs)) listed

-- `order_search::has` meets its contract: e occurs where it has a place.
use Prim.Native.Nat.{ℕ, ◌<◌}
use native.Mathlib.Omega.{arith}
use mathlib.Core.Path.{◌≡◌, sym, ◌∙◌}
use mathlib.Core.List.{List}
use lib.Dec.{eqb}
use lib.ListN.{length}
use borrow.Author.Tests.{lt-ltb, le-ltb}
use Rattle.std.specs.Prelude.{Option, Some, None, MatchOption, is_some}
use Rattle.orders.specs.Orders.{order_of}
use Rattle.theory.specs.Tests.{position, member}
use Rattle.theory.proofs.Reflect.{decides_number}
use Rattle.theory.proofs.PositionLaws.{position_tells}
use Rattle.order_search.proofs.has.Goals as goal

found : (e : ℕ) (l : List ℕ) (r : Option ℕ) → MatchOption r (position eqb e l ≡ length l) (λ i. (i ≡ position eqb e l) × (i < length l)) → is_some r ≡ member eqb e l
found e l None h = sym (le-ltb (position eqb e l) (length l) (omega arith)) ∙ position_tells decides_number e l
found e l (Some i) h = sym (lt-ltb (position eqb e l) (length l) (omega arith)) ∙ position_tells decides_number e l

pub returns : goal.returns
returns c = c.is_some.ensures ∙ found c.args.e (order_of c.args.o) c.position.result c.position.ensures

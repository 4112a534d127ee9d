-- `order_search::position` meets its contract: the search ends at the first entry that is e, or past the last.
use Prim.Native.Nat.{ℕ, ◌<◌}
use native.Mathlib.Omega.{arith}
use mathlib.Core.Path.{◌≡◌, sym}
use mathlib.Core.List.{List}
use mathlib.Core.Logic.{◌≢◌}
use lib.Dec.{eqb}
use lib.ListN.{length}
use borrow.Author.Rules.{rules}
use borrow.Author.Tests.{tests}
use Rattle.std.specs.Prelude.{Option, Some, None, MatchOption}
use Rattle.std.specs.List.{AllWithin, HoldsAt}
use Rattle.std.proofs.lemmas.Iterator.{IsFirst-from_position, YieldsList-from_slice}
use Rattle.orders.specs.Orders.{order_of}
use Rattle.theory.specs.Tests.{position}
use Rattle.theory.proofs.Reflect.{decides_number}
use Rattle.theory.proofs.PositionLaws.{position_is}
use Rattle.order_search.proofs.position.Goals as goal

placed : (e : ℕ) (l : List ℕ) (r : Option ℕ)
    → MatchOption r (AllWithin (λ x. x ≢ e) l 0 (length l)) (λ i. (i < length l) × HoldsAt (λ x. x ≡ e) l i × AllWithin (λ x. x ≢ e) l 0 i)
    → MatchOption r (position eqb e l ≡ length l) (λ i. (i ≡ position eqb e l) × (i < length l))
placed e l None w =
    position_is decides_number e l (length l) 0 (omega arith) (λ k h q. w k 0 (omega arith) h (sym q)) (λ h. absurd (omega arith))
placed e l (Some i) w =
    (sym (position_is decides_number e l i 0 (omega arith) (λ k h q. w.2 k 0 (omega arith) h (sym q)) (λ h. sym (w.1 0))), w.0)

pub returns : goal.returns
returns c = let e = c.args.e in let l = order_of c.args.o in
    placed e l c.position.result
    (IsFirst-from_position _ _ _ (λ x. x ≡ e) (λ x. x ≢ e) c.position.ensures.ran (YieldsList-from_slice l cc) (λ x q k. search (rules, tests)) (λ x q k. search (rules, tests)))

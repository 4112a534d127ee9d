-- Which numbers are in the query, by its sizes, and when two rows can be asked for.
use Prim.Native.Nat.{ℕ, ◌*◌, ◌^◌, ◌<◌, ◌≤◌}
use native.Mathlib.Omega.{arith}
use mathlib.Core.Path.{◌≡◌, sym, subst}
use mathlib.Core.Bool.{Bool}
use lib.Dec.{ltb}
use lib.ListN.{length}
use Rattle.theory.specs.Tests.{Says, holds, fails}
use Rattle.theory.specs.Query.{Bytes, column_count, produced_count, set_count, order_count, read_query, query_refusal}
use Rattle.theory.specs.Refusals.{passed}
use Rattle.theory.specs.Counterexamples.{Named, Askable}
use Rattle.theory.proofs.Reflect.{says_ltb}
use Rattle.theory.proofs.BitLaws.{bit_low, low_bits}
use Rattle.theory.proofs.QueryLaws.{column_count_lem, produced_count_lem, order_count_lem, set_count_lem}

module _ (b : Bytes) (produced sets order : ℕ) where
  -- no produced order has the number
  pub not_entered : produced_count b ≤ produced → ¬ Named (read_query b) produced sets order
  not_entered h n = let z : ⊥ = omega (arith, n.entered, produced_count_lem b) in absurd z

  -- no interesting order has the number
  pub not_looked_for : order_count b ≤ order → ¬ Named (read_query b) produced sets order
  not_looked_for h n = let z : ⊥ = omega (arith, n.looked_for_below, order_count_lem b) in absurd z

  -- where they have, the bits of the choice decide
  pub chosen_says : produced < produced_count b → order < order_count b → Says (Named (read_query b) produced sets order) (ltb sets (2 ^ set_count b))
  chosen_says p o = go (says_ltb sets (2 ^ set_count b))
    where
      go : {r : Bool} → Says (sets < 2 ^ set_count b) r → Says (Named (read_query b) produced sets order) r
      go (holds h) =
          holds
          record {
            entered = omega (arith, produced_count_lem b);
            looked_for_below = omega (arith, order_count_lem b);
            chosen = λ s t. subst (λ n. s < n) (sym (set_count_lem b)) (bit_low (set_count b) sets s h t);
          }
      go (fails f) = fails (λ n. f (low_bits (set_count b) sets (λ s t. subst (λ k. s < k) (set_count_lem b) (n.chosen s t))))

  -- where two rows of n values fit as well, they can be asked for
  pub askable : (rows : Bytes) {n : ℕ} → 2 * n ≤ length rows → n ≡ column_count b → query_refusal b ≡ passed → Named (read_query b) produced sets order →
      Askable b produced sets order rows
  askable rows h e checked named = record { checked = checked; named = named; room = omega (arith, column_count_lem b) }

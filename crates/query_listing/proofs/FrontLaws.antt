-- No query has more than 165 bytes: of a longer one, its first 256 bytes have the same refusal, and so the same outcome and the same listing.
use Prim.Native.Nat.{ℕ, ◌<◌}
use native.Mathlib.Omega.{arith}
use mathlib.Core.Path.{◌≡◌, sym, ◌∙◌, ap}
use mathlib.Core.Bool.{Bool}
use mathlib.Core.Logic.{◌≢◌}
use lib.ListN.{length, take}
use lib.Seq.{take_all}
use borrow.Author.Tests.{ne_eqb}
use Rattle.theory.specs.Limits.{scratch_length, longest_table, query_front}
use Rattle.theory.specs.Tests.{Says, holds, fails}
use Rattle.theory.specs.Refusals.{passed}
use Rattle.theory.specs.Query.{Bytes, query_refusal}
use Rattle.theory.specs.Build.{refused, outcome}
use Rattle.theory.specs.Listing.{listing, listed}
use Rattle.theory.proofs.Reflect.{says_ltb}
use Rattle.query_check.proofs.FrontLaws.{query_front_lem, long_unpassed}

refused_alike : (a b : Bytes) (scratch output : ℕ) → query_refusal a ≡ query_refusal b → query_refusal b ≢ passed → outcome a scratch output ≡ outcome b scratch output
unfolding outcome
refused_alike a b scratch output e h = rw (ne_eqb (query_refusal a) passed (λ k. h (sym e ∙ k)), outcome, ne_eqb (query_refusal b) passed h, outcome) (ap refused e)

-- Of every query, also the shorter ones, the first 256 bytes have its outcome ..
pub outcome_front : (b : Bytes) (scratch output : ℕ) → outcome (take query_front b) scratch output ≡ outcome b scratch output
outcome_front b scratch output = go (says_ltb query_front (length b))
  where
    go : {t : Bool} → Says (query_front < length b) t → outcome (take query_front b) scratch output ≡ outcome b scratch output
    go (fails h) = ap (λ d. outcome d scratch output) (take_all query_front b (omega arith))
    go (holds h) = refused_alike (take query_front b) b scratch output (query_front_lem b (omega arith)) (long_unpassed b (omega arith))

-- .. and its listing.
pub listing_front : (b : Bytes) → listing (take query_front b) ≡ listing b
unfolding listing
listing_front b = ap listed (outcome_front b scratch_length longest_table)

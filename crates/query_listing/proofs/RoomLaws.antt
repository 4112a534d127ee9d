-- With room for the work and for every listing, the text begins with the listing.
use Prim.Native.Nat.{ℕ, ◌≤◌}
use native.Mathlib.Omega.{arith}
use mathlib.Core.Path.{◌≡◌, refl, sym, ◌∙◌, ap, ap₂}
use mathlib.Core.List.{◌++◌}
use Rattle.std.specs.Prelude.{Result, Ok, Err, IsOk}
use lib.Dec.{eqb}
use lib.ListN.{length, take, drop, length-append}
use lib.Seq.{take_at}
use borrow.Author.Tests.{le-ltb}
use mathlib.Core.Bool.{Bool, true, false, ◌&&◌}
use Rattle.theory.specs.Limits.{scratch_length}
use Rattle.theory.specs.Refusals.{passed}
use Rattle.theory.specs.Query.{Bytes, query_refusal}
use Rattle.theory.specs.Table.{Answer}
use Rattle.theory.specs.Listing.{listing}
use Rattle.numbers.specs.declared.refusals.Refusal.{Refusal}
use Rattle.numbers.specs.Refusals.{answer_in}
use Rattle.numbers.proofs.RefusalLaws.{refused}
use Rattle.listing.specs.Lines.{longest_listing}
use Rattle.query_listing.specs.Listed.{list_refusal, listed_answer, text_after, Listing}
use Rattle.query_listing.proofs.LengthLaws.{listing_short}

-- nothing and a failed test
and_false : (b : Bool) → (b && false) ≡ false
and_false true = refl
and_false false = refl

module _ (query text : Bytes) (n : ℕ) (s : scratch_length ≤ n) (t : longest_listing ≤ length text) where
  -- no refusal comes, with n bytes of scratch ..
  room : list_refusal query n (length text) ≡ 0
  unfolding list_refusal
  room = rw (le-ltb n scratch_length s, list_refusal, and_false (eqb (query_refusal query) passed), le-ltb (length text) (length (listing query)) (omega (arith, listing_short query)))

  -- .. so the answer is a length ..
  pub room_granted : (r : Result ℕ Refusal) → answer_in r ≡ listed_answer (listing query) (list_refusal query n (length text)) → IsOk r
  room_granted (Ok k) a = refl
  room_granted (Err e) a = absurd (refused e (ap (λ (x : Answer). x.refusal) (rw room at a)))

  -- .. of the listing with which the text begins
  pub room_listed : {after : Bytes} {r : Result ℕ Refusal} {k : ℕ} → answer_in r ≡ listed_answer (listing query) (list_refusal query n (length text)) →
      after ≡ text_after (listing query) (list_refusal query n (length text)) text → r ≡ Ok k → Listing (listing query) after k
  unfolding text_after
  room_listed {after} {r} {k} a e h =
      let counted : k ≡ length (listing query) = ap (λ (x : Answer). x.value) (sym (ap answer_in h) ∙ (rw room at a)) in
      let y : after ≡ listing query ++ drop (length (listing query)) text = rw room at e in
      record {
        first = ap₂ take counted y ∙ take_at (listing query) (drop (length (listing query)) text) (length (listing query)) refl;
        counted = counted;
        fits = rw (y, length-append) (omega (arith, counted));
      }

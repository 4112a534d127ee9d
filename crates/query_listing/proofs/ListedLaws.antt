-- What is answered, and what stands in the text, where it takes the listing and where it does not.
use Prim.Native.Nat.{ℕ, ◌≤◌, ◌<◌}
use native.Mathlib.Nat.{zero-add}
use mathlib.Core.Path.{◌≡◌, ◌∙◌}
use mathlib.Core.Logic.{◌≢◌}
use Rattle.std.specs.Prelude.{Result, Ok, Err}
use lib.ListN.{length}
use lib.Seq.{paste, take-length}
use borrow.Author.Tests.{lt-ltb, le-ltb, le-leb, lt-leb, eq-eqb, ne_eqb}
use Rattle.theory.specs.Limits.{scratch_length}
use Rattle.theory.specs.Refusals.{passed}
use Rattle.theory.specs.Query.{Bytes, query_refusal}
use Rattle.theory.specs.Build.{scratch_after, zeroed}
use Rattle.theory.specs.Listing.{listing}
use Rattle.numbers.specs.declared.refusals.Refusal.{Refusal}
use Rattle.numbers.specs.declared.refusals.Refusal.TheVariants.{Space}
use Rattle.numbers.specs.Refusals.{answer_in}
use Rattle.query_listing.specs.Listed.{list_refusal, listed_answer, text_after, Handed}

module _ (l text : Bytes) where
  pub text_short : length text < length l → Handed l text text (Err Space)
  unfolding text_after
  text_short h = let f = lt-ltb (length text) (length l) h in record { answer = rw f; text = rw f }

  pub text_whole : length l ≤ length text → {after : Bytes} → after ≡ paste text 0 l (length l) → Handed l text after (Ok (length l))
  unfolding text_after
  text_whole h w =
      let f = le-ltb (length text) (length l) h in record { answer = rw f; text = rw f (w ∙ rw (take-length l, zero-add)) }

-- the same of the whole call: checks 1 to 6, then 9 for scratch, then the listing in the scratch
module _ (query scratch text : Bytes) where
  abbrev pub ListDone : (scratch' text' : Bytes) → Result ℕ Refusal → Type 0
  ListDone scratch' text' r =
      (answer_in r ≡ listed_answer (listing query) (list_refusal query (length scratch) (length text)))
      × ((text' ≡ text_after (listing query) (list_refusal query (length scratch) (length text)) text) × (scratch' ≡ scratch_after query scratch))

  pub query_refused : {text' : Bytes} {r : Result ℕ Refusal} → query_refusal query ≢ passed → Handed (listing query) text text' r → ListDone scratch text' r
  unfolding list_refusal scratch_after
  query_refused h d = let e = ne_eqb (query_refusal query) passed h in (rw (e, list_refusal) d.answer, (rw (e, list_refusal) d.text, rw (e, scratch_after)))

  module _ (c : query_refusal query ≡ passed) where
    pub scratch_short : length scratch < scratch_length → ListDone scratch text (Err Space)
    unfolding list_refusal text_after scratch_after
    scratch_short h =
        let e = eq-eqb (query_refusal query) passed c in
        let f = lt-ltb (length scratch) scratch_length h in
        (rw (e, f, list_refusal), (rw (e, f, list_refusal), rw (e, lt-leb scratch_length (length scratch) h, scratch_after)))

    pub scratch_whole : {scratch' text' : Bytes} {r : Result ℕ Refusal} → scratch_length ≤ length scratch → Handed (listing query) text text' r → scratch' ≡ zeroed scratch_length scratch → ListDone scratch' text' r
    unfolding list_refusal scratch_after
    scratch_whole h d z =
        let e = eq-eqb (query_refusal query) passed c in
        let f = le-ltb (length scratch) scratch_length h in
        (rw (e, f, list_refusal) d.answer, (rw (e, f, list_refusal) d.text, z ∙ rw (e, le-leb scratch_length (length scratch) h, scratch_after)))

-- What listing a query answers and leaves in the lent buffers.
use Rattle.std.specs.Prelude.{ℕ, Result, ◌≤◌, ◌≡◌, ◌&&◌, ◌++◌, eqb, ltb, length, take, drop}
use Rattle.theory.specs.Limits.{scratch_length}
use Rattle.theory.specs.Tests.{pick}
use Rattle.theory.specs.Refusals.{passed, space_refused}
use Rattle.theory.specs.Query.{Bytes, query_refusal}
use Rattle.theory.specs.Listing.{listing}
use Rattle.theory.specs.Table.{Answer}
use Rattle.numbers.specs.declared.refusals.Refusal.{Refusal}
use Rattle.numbers.specs.Refusals.{answer_in}

-- A text that is lent for a listing takes it whole, or the refusal is 9.
abbrev pub text_refusal : Bytes → ℕ → ℕ
text_refusal l textLength = pick (ltb textLength (length l)) space_refused passed

-- A query that checks 1 to 6 refuse has a listing of its own, the line of its refusal, whatever the scratch. For every other: 9 for scratch. Then 9 for the text.
unfoldable pub list_refusal : Bytes → ℕ → ℕ → ℕ
list_refusal query scratch textLength =
    pick (eqb (query_refusal query) passed && ltb scratch scratch_length) space_refused (text_refusal (listing query) textLength)

-- The answer for a listing: the refusal, or 0; and the listing's length, which is 0 on refusal.
abbrev pub listed_answer : Bytes → ℕ → Answer
listed_answer l refusal = record { refusal = refusal; value = pick (eqb refusal passed) (length l) 0 }

-- The text keeps its bytes on refusal; otherwise its first bytes are the listing and the rest keep theirs.
unfoldable pub text_after : Bytes → ℕ → Bytes → Bytes
text_after l refusal text = pick (eqb refusal passed) (l ++ drop (length l) text) text

-- A listing is the first bytes of a memory, and they are counted.
pub record Listing (l memory : Bytes) (count : ℕ) : Type 0 where
  pub first : take count memory ≡ l
  pub counted : count ≡ length l
  pub fits : count ≤ length memory

-- A listing handed over into the text: the answer, and the text afterwards.
pub record Handed (l before after : Bytes) (r : Result ℕ Refusal) : Type 0 where
  pub answer : answer_in r ≡ listed_answer l (text_refusal l (length before))
  pub text : after ≡ text_after l (text_refusal l (length before)) before

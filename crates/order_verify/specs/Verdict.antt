-- The line of a trial's outcome, and the outcome for every query and every table that begin with the bytes that were read.
use Rattle.std.specs.Prelude.{ℕ, ◌≡◌, [], ◌∷◌, eqb, take}
use Rattle.theory.specs.Tests.{pick}
use Rattle.theory.specs.Limits.{scratch_length, query_front, table_front}
use Rattle.theory.specs.Refusals.{passed}
use Rattle.theory.specs.Query.{Bytes}
use Rattle.theory.specs.Listing.{refused_line}
use Rattle.theory.specs.Verification.{verify_refusal}
use Rattle.text.specs.Text.{Printed}

-- "accepted" and the end of the line.
abbrev pub accepted_line : Bytes
accepted_line = 97 ∷ 99 ∷ 99 ∷ 101 ∷ 112 ∷ 116 ∷ 101 ∷ 100 ∷ 10 ∷ []

-- A table that is accepted, or the refusal.
abbrev pub verdict_line : ℕ → Bytes
verdict_line n = pick (eqb n passed) accepted_line (refused_line n)

-- The text begins with the line of the outcome for these bytes, and with that for every query and every table whose first bytes they are.
pub record VerdictPrinted (query t before after : Bytes) (count : ℕ) : Type 0 where
  pub own : Printed before (verdict_line (verify_refusal query t scratch_length)) after count
  pub longer : (wholeQuery wholeTable : Bytes) → take query_front wholeQuery ≡ query → take table_front wholeTable ≡ t
      → Printed before (verdict_line (verify_refusal wholeQuery wholeTable scratch_length)) after count

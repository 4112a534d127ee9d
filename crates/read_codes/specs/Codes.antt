-- A row as one number.
use Rattle.std.specs.Prelude.{ℕ, ◌+◌, ◌*◌, eqb}
use Rattle.theory.specs.Tests.{pick}
use Rattle.theory.specs.Refusals.{passed}
use Rattle.theory.specs.Query.{Bytes}
use Rattle.theory.specs.Table.{sets_in, successors_base, read_refusal}
use Rattle.answer_codes.specs.Codes.{refused_code}

-- A row's answer: its offset in the table, or the refusal.
unfoldable pub row_code : Bytes → ℕ → ℕ
row_code t state = pick (eqb (read_refusal t state) passed) (successors_base t + state * sets_in t) (refused_code (read_refusal t state))

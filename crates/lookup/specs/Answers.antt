-- Document 01's number and value for a move's and a word's answer, a row's bytes, and the numbers that the refusals of a move and a word may have.
use Rattle.std.specs.Prelude.{ℕ, Result, Ok, Err, ◌≡◌, ◌⊎◌, []}
use Rattle.std.specs.Borrow.{Bor}
use Rattle.theory.specs.Query.{Bytes}
use Rattle.theory.specs.Refusals.{length_refused, size_refused, handle_refused, row_refused}
use Rattle.theory.specs.Table.{Answer, grant, refuse}
use Rattle.numbers.specs.declared.refusals.Refusal.{Refusal}
use Rattle.numbers.specs.Refusals.{number_of, answer_in}
use Rattle.formed_lookup.specs.Answers.{ReadRefusal}
use Rattle.lookup.specs.declared.Mark.{Mark}

-- An entry or a take: the state that was moved to, or the refusal.
abbrev pub moved_answer : Result Mark Refusal → Answer
moved_answer (Ok mark) = grant mark.state.0
moved_answer (Err r) = refuse (number_of r)

-- A word: the word, or the refusal.
abbrev pub word_answer : Result ℕ Refusal → Answer
word_answer = answer_in

-- A row: its bytes, or none on refusal.
abbrev pub row_answer : Result (Bor Bytes) Refusal → Bytes
row_answer (Ok part) = part.now
row_answer (Err r) = []

-- An entry or a take is refused with 1, 2, 10 or 11. None of these is 0, so that no refusal reads as a grant.
abbrev pub MoveRefusal : ℕ → Type 0
MoveRefusal n = (n ≡ length_refused) ⊎ (n ≡ size_refused) ⊎ (n ≡ handle_refused) ⊎ (n ≡ row_refused)

-- A refusal's number is one of those, and a word's one of an ask's.
abbrev pub ListedMove : Result Mark Refusal → Type 0
ListedMove (Ok mark) = Unit
ListedMove (Err r) = MoveRefusal (number_of r)

abbrev pub ListedWord : Result ℕ Refusal → Type 0
ListedWord (Ok w) = Unit
ListedWord (Err r) = ReadRefusal (number_of r)

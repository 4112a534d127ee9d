-- Document 01's number and value for a move's and an ask's answer, and the numbers that an ask's refusal may have.
use Rattle.std.specs.Prelude.{ℕ, Bool, Result, Ok, Err, ◌≡◌, ◌⊎◌}
use Rattle.theory.specs.Refusals.{length_refused, size_refused, handle_refused}
use Rattle.theory.specs.Table.{Answer, grant, refuse, bit}
use Rattle.numbers.specs.declared.refusals.Refusal.{Refusal}
use Rattle.numbers.specs.Refusals.{number_of}
use Rattle.handles.specs.declared.StateNumber.{StateNumber}

-- An entry or a take: the state that was moved to, or the refusal.
abbrev pub moved_answer : Result StateNumber Refusal → Answer
moved_answer (Ok state) = grant state.0
moved_answer (Err r) = refuse (number_of r)

-- An ask: held is 1 and not held is 0, or the refusal.
abbrev pub asked_answer : Result Bool Refusal → Answer
asked_answer (Ok held) = grant (bit held)
asked_answer (Err r) = refuse (number_of r)

-- An ask or a word is refused with 1, 2 or 10. None of these is 0, so that no refusal reads as a grant.
abbrev pub ReadRefusal : ℕ → Type 0
ReadRefusal n = (n ≡ length_refused) ⊎ (n ≡ size_refused) ⊎ (n ≡ handle_refused)

-- A refusal's number is one of those.
abbrev pub ListedAsk : Result Bool Refusal → Type 0
ListedAsk (Ok held) = Unit
ListedAsk (Err r) = ReadRefusal (number_of r)

-- Each refusal's number, and the number and the value that a function's answer stands for.
use Rattle.std.specs.Prelude.{ℕ, Result, Ok, Err}
use Rattle.theory.specs.Refusals as theory
use Rattle.theory.specs.Table.{Answer, grant, refuse}
use Rattle.numbers.specs.declared.refusals.Refusal.{Refusal}
use Rattle.numbers.specs.declared.refusals.Refusal.TheVariants.{Length, Size, Item, Column, Repeat, Twin, States, Space, Handle, Row, Mismatch, Answer as AnswerWrong, Count}

-- A refusal's number on the list.
abbrev pub number_of : Refusal → ℕ
number_of Length = theory.length_refused
number_of Size = theory.size_refused
number_of Item = theory.item_refused
number_of Column = theory.column_refused
number_of Repeat = theory.repeat_refused
number_of Twin = theory.twin_refused
number_of States = theory.states_refused
number_of Space = theory.space_refused
number_of Handle = theory.handle_refused
number_of Row = theory.row_refused
number_of Mismatch = theory.mismatch_refused
number_of AnswerWrong = theory.answer_refused
number_of Count = theory.count_refused

-- What a check says: the refusal's number, or 0 where it passes.
abbrev pub refusal_in : {T : Type 0} → Result T Refusal → ℕ
refusal_in (Ok _) = theory.passed
refusal_in (Err r) = number_of r

-- What an answer says: a value, or the refusal.
abbrev pub answer_in : Result ℕ Refusal → Answer
answer_in (Ok n) = grant n
answer_in (Err r) = refuse (number_of r)

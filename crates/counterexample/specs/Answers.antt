-- Document 01's number and value for each case of the answer.
use Rattle.std.specs.Prelude.{◌≢◌, Bool, true, false, Result, Ok, Err}
use Rattle.theory.specs.Refusals.{passed}
use Rattle.theory.specs.Table.{Answer, grant, refuse}
use Rattle.numbers.specs.declared.refusals.Refusal.{Refusal}
use Rattle.numbers.specs.Refusals.{number_of}

-- Two rows are 1 and none is 0, or the refusal.
abbrev pub found_answer : Result Bool Refusal → Answer
found_answer (Ok true) = grant 1
found_answer (Ok false) = grant 0
found_answer (Err r) = refuse (number_of r)

-- A refusal's number is not 0, so that no refusal reads as "none".
abbrev pub ListedFound : Result Bool Refusal → Type 0
ListedFound (Ok _) = Unit
ListedFound (Err r) = number_of r ≢ passed

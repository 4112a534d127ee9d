-- What a continuing call answers, from what it comes to: the refusal, or 0; and the table's length, which is 0 on refusal and where a pair was settled.
use Rattle.std.specs.Prelude.{ℕ, Option, None, Some, Result, Ok, Err}
use Rattle.theory.specs.Table.{Answer, grant, refuse}
use Rattle.theory.specs.Steps.{Continued, pair_settled, as_build}
use Rattle.numbers.specs.declared.refusals.Refusal.{Refusal}
use Rattle.numbers.specs.Refusals.{number_of}
use Rattle.builder.specs.Built.{built_answer}

abbrev pub continued_answer : Continued → Answer
continued_answer pair_settled = grant 0
continued_answer (as_build o) = built_answer o

-- The same of a call's result, which has no length where a pair was settled.
abbrev pub step_answer : Result (Option ℕ) Refusal → Answer
step_answer (Ok None) = grant 0
step_answer (Ok (Some length)) = grant length
step_answer (Err refusal) = refuse (number_of refusal)

-- What a build answers, from its outcome: the table's length, or the refusal.
use Rattle.std.specs.Prelude.{ℕ, ◌≡◌, Result, length}
use Rattle.theory.specs.Query.{Bytes}
use Rattle.theory.specs.Table.{Table, Sized, Answer, grant, refuse}
use Rattle.theory.specs.Scratch.{Stored}
use Rattle.theory.specs.Build.{Outcome, refused, built, written}
use Rattle.numbers.specs.declared.refusals.Refusal.{Refusal}
use Rattle.numbers.specs.Refusals.{answer_in}

abbrev pub built_answer : Outcome → Answer
built_answer (refused n) = refuse n
built_answer (built t) = grant (length t)

-- The answer is the outcome's, and so is every byte of the output.
pub record Done (o : Outcome) (before after : Bytes) (r : Result ℕ Refusal) : Type 0 where
  pub answer : answer_in r ≡ built_answer o
  pub output : after ≡ written o before

-- The scratch has a table whose sizes are within their limits: q states, p produced orders, e tested ones and s sets.
pub record Holding (t : Table) (work : Bytes) (q p e s : ℕ) : Type 0 where
  pub sized : Sized t
  pub stored : Stored t work
  pub states : t.state_count ≡ q
  pub produced : t.produced_count ≡ p
  pub tested : t.tested_count ≡ e
  pub sets : t.set_count ≡ s

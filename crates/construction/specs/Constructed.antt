-- What constructing answers, and what it leaves in the scratch.
use Rattle.std.specs.Prelude.{ℕ, ◌≡◌, Result}
use Rattle.theory.specs.Refusals.{states_refused}
use Rattle.theory.specs.Query.{Bytes}
use Rattle.theory.specs.Table.{Table, Answer, grant, refuse}
use Rattle.theory.specs.Scratch.{Stored}
use Rattle.theory.specs.Build as theory
use Rattle.numbers.specs.declared.refusals.Refusal.{Refusal}
use Rattle.numbers.specs.Refusals.{answer_in}

-- The count of rows, or the refusal.
abbrev pub constructed_answer : theory.Constructed → Answer
constructed_answer theory.too_many = refuse states_refused
constructed_answer (theory.table t) = grant t.state_count

-- The answer is that of what was constructed, and where that is a table, the scratch has its starts, its successors and its held words.
pub record Leaves (o : theory.Constructed) (work : Bytes) (r : Result ℕ Refusal) : Type 0 where
  pub answer : answer_in r ≡ constructed_answer o
  pub stored : (t : Table) → o ≡ theory.table t → Stored t work

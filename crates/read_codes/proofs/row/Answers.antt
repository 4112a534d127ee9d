-- `read_codes::row` meets its contract: the offset, or the refusal.
use Prim.Native.Nat.{ℕ, ◌+◌, ◌*◌}
use native.Mathlib.Omega.{arith}
use mathlib.Core.Path.{◌≡◌, ◌∙◌}
use borrow.Author.Tests.{ne_eqb}
use Rattle.std.proofs.Common.{Result, Ok, Err}
use Rattle.std.specs.Result.{IfOk}
use Rattle.theory.specs.Query.{Bytes}
use Rattle.theory.specs.Refusals.{passed}
use Rattle.theory.specs.Table.{read_refusal, sets_in, successors_base}
use Rattle.numbers.specs.declared.refusals.Refusal.{Refusal}
use Rattle.numbers.specs.Refusals.{number_of, refusal_in, answer_in}
use Rattle.numbers.proofs.RefusalLaws.{refused}
use Rattle.answer_codes.specs.Codes.{answer_code}
use Rattle.read_codes.specs.Codes.{row_code}
use Rattle.read_codes.proofs.row.Goals as goal

row_answered : (t : Bytes) (state : ℕ) (r : Result ℕ Refusal) → refusal_in r ≡ read_refusal t state → IfOk r (λ n. n ≡ successors_base t + state * sets_in t) → answer_code (answer_in r) ≡ row_code t state
unfolding row_code
row_answered t state (Ok n) e h = rw (← e) (omega (arith, h))
row_answered t state (Err r) e h = rw (← e, ne_eqb (number_of r) passed (refused r))

pub returns : goal.returns
returns c =
    let row = c.row_offset.ensures in
    c.answered.ensures ∙ row_answered c.args.table.now c.args.state.0 c.row_offset.result row.refusal row.offset

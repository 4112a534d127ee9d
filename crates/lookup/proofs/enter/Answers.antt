-- `lookup::enter` meets its contract: a refused form refuses, and an entry is refused with one of its numbers.
use Rattle.std.proofs.Common.{Err}
use Rattle.std.proofs.lemmas.Result.{err_from_is_err_and}
use Rattle.theory.specs.Table.{enter}
use Rattle.numbers.proofs.RefusalLaws.{refused}
use Rattle.lookup.proofs.LookupLaws.{form_refuses}
use Rattle.lookup.proofs.MoveLaws.{plain_enter, plain_listed, move_listed}
use Rattle.lookup.proofs.enter.Goals as goal

pub returns-in_err-formed : goal.returns-in_err-formed
unfolding enter
returns-in_err-formed c =
    let p = err_from_is_err_and c.from_residual.result c.from_residual.ensures.1 in
    let answer = form_refuses c.args.table.now _ c.in_err-formed.ensures.refusal (refused c.in_err-formed.field-0.0) in
    record {
      result_value = rw (p.1, p.2) answer;
      listed_move = rw (p.1, p.2) (move_listed (Err c.in_err-formed.field-0.0) (plain_listed (plain_enter c.args.table.now c.args.order.0)) answer);
    }

pub returns-in_err-state-clause-listed_move : goal.returns-in_err-state-clause-listed_move
returns-in_err-state-clause-listed_move c =
    let residual = c.from_residual-in_err-state in
    let p = err_from_is_err_and residual.result residual.ensures.1 in
    let answer = rw c.in_ok-formed.ensures.bytes at c.in_err-state.ensures in
    rw (p.1, p.2) (move_listed (Err c.in_err-state.field-0.0) (plain_listed (plain_enter c.args.table.now c.args.order.0)) answer)

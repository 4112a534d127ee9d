-- `lookup::Mark::ask` meets its contract: a refused form refuses.
use Rattle.std.proofs.lemmas.Result.{err_from_is_err_and}
use Rattle.theory.specs.Table.{ask}
use Rattle.numbers.proofs.RefusalLaws.{refused}
use Rattle.lookup.proofs.LookupLaws.{form_refuses, form_read}
use Rattle.lookup.proofs.Mark.ask.Goals as goal

pub returns-in_err-formed : goal.returns-in_err-formed
unfolding ask
returns-in_err-formed c =
    let p = err_from_is_err_and c.from_residual.result c.from_residual.ensures.1 in
    let e = c.in_err-formed.ensures.refusal in
    let f = refused c.in_err-formed.field-0.0 in
    record {
      result_value = rw (p.1, p.2) (form_refuses c.args.table.now _ e f);
      listed_ask = rw (p.1, p.2) (form_read c.args.table.now e f);
    }

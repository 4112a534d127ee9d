-- `lookup::row_of` meets its contract: a refused state has no row, and where nothing is refused the row is there.
use mathlib.Core.Path.{◌∙◌, ap}
use Rattle.std.proofs.lemmas.Result.{err_from_is_err_and}
use Rattle.theory.specs.Table.{row_in, row}
use Rattle.numbers.proofs.RefusalLaws.{refused}
use Rattle.lookup.proofs.LookupLaws.{row_refuses}
use Rattle.lookup.proofs.row_of.Goals as goal

pub returns-in_err-formed-clause-row : goal.returns-in_err-formed-clause-row
unfolding row
returns-in_err-formed-clause-row c =
    let p = err_from_is_err_and c.from_residual.result c.from_residual.ensures.1 in
    rw p.1 (row_refuses c.args.table.now c.args.state.0 _ c.in_err-formed.ensures.refusal (refused c.in_err-formed.field-0.0))

pub returns-clause-row : goal.returns-clause-row
unfolding row
returns-clause-row c =
    rw (← c.in_ok-formed.ensures.refusal) (c.successors.ensures.0 ∙ ap (λ t. row_in t c.args.state.0) c.in_ok-formed.ensures.bytes)

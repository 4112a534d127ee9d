-- `order_tables::order_table_continue` meets its contract: the answer as one number.
use mathlib.Core.Path.{◌∙◌}
use Rattle.order_tables.proofs.AnswerCodes.{continue_short, continue_number}
use Rattle.order_tables.proofs.order_table_continue.Goals as goal

pub answered-requires : goal.answered-requires
answered-requires c =
    let a = c.args in
    continue_short a.query.now a.scratch.now a.output.now (c.continued_value.ensures ∙ c.go_on.ensures.value)

pub returns : goal.returns
returns c =
    let a = c.args in
    let e = c.go_on.ensures in
    record { value = continue_number a.query.now a.scratch.now a.output.now (c.continued_value.ensures ∙ e.value) c.answered.ensures; output_after = e.output_after; scratch_after = e.scratch_after }

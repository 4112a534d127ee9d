-- Where two rows were found, the text has them, and the query has columns.
use Rattle.std.proofs.Common.{rules, Ok, ◌∙◌, ap}
use Rattle.order_counterexample.proofs.EvidenceLaws.{rows_sizes, told_rows}
use Rattle.order_counterexample.proofs.evidence.Goals as goal

pub two_rows-requires : goal.two_rows-requires
two_rows-requires c =
    let sizes = rows_sizes _ c.find.result c.find.ensures.shows (c.in-Ok-true.is ∙ ap Ok c.in-Ok-true.field-0-test) in
    let some = sizes.some_column in
    search rules

pub returns-in-Ok-true : goal.returns-in-Ok-true
returns-in-Ok-true c =
    told_rows _ _ c.find.result (search rules) c.find.ensures.shows _ c.columns.ensures (c.in-Ok-true.is ∙ ap Ok c.in-Ok-true.field-0-test) c.two_rows.ensures

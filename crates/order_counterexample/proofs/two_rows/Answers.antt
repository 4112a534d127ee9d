-- Its two lines, one behind the other. Each row has n values.
use Rattle.std.proofs.Common.{rules}
use Rattle.order_counterexample.proofs.TextLaws.{rows_wrote}
use Rattle.order_counterexample.proofs.two_rows.Goals as goal

pub returns : goal.returns
returns c = rows_wrote c.args.n c.args.rows.now (search rules) c.row_line-second.ensures c.row_line.ensures

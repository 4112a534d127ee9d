-- `table::checks::check_starts` meets its contract: the starts are a run of state numbers.
use mathlib.Core.Path.{◌∙◌}
use Rattle.table.proofs.FormLaws.{starts_run}
use Rattle.table.proofs.checks.check_starts.Goals as goal

pub returns : goal.returns
returns c =
    rw c.bytes.ensures.bytes at c.check_run.ensures ∙ starts_run c.args.table.now c.starts.result.now c.starts.ensures.length c.starts.ensures.starts

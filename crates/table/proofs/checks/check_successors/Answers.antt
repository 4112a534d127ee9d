-- `table::checks::check_successors` meets its contract: the successors are a run of state numbers.
use mathlib.Core.Path.{◌∙◌}
use Rattle.table.proofs.FormLaws.{successors_run}
use Rattle.table.proofs.checks.check_successors.Goals as goal

pub returns : goal.returns
returns c =
    let part = rw (c.states.ensures.0, c.sets.ensures.0, c.successors_base.ensures.0, c.bytes-bytes.ensures.bytes) at c.part-successors.ensures in
    rw c.bytes-bytes.ensures.bytes at c.check_run.ensures ∙ successors_run c.args.table.now c.part-successors.result.now part.1 part.0

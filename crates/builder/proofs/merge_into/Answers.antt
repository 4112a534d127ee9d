-- `builder::merge_into` meets its contract: merging is refused, or its table is delivered.
use mathlib.Core.Path.{◌≡◌}
use Rattle.theory.specs.Query.{read_query}
use Rattle.theory.specs.Build.{table, limited}
use Rattle.theory.specs.Steps.{merged_table}
use Rattle.numbers.proofs.RefusalLaws.{passed_on_answer}
use Rattle.builder.specs.Built.{Holding}
use Rattle.builder.proofs.DeliverLaws.{merging_refused, holding, done_constructed}
use Rattle.builder.proofs.merge_into.Goals.{After-sizes}
use Rattle.builder.proofs.merge_into.Goals as goal

-- where the sizes are read, the scratch has the table that was merged
held : (c : After-sizes) → let t = merged_table (read_query c.args.query.now) c.args.work.now in
    (limited t ≡ table t) × Holding t c.merge.new.work c.in_ok-q.q c.sizes.result.produced c.sizes.result.tested c.sizes.result.sets
held c =
    let sizes = c.sizes.ensures in
    holding c.args.query.now c.args.work.now c.in_ok-q.q c.sizes.result sizes.some_produced c.in_ok-q.ensures.0 sizes.produced sizes.tested sizes.sets

pub returns-in_err-q : goal.returns-in_err-q
returns-in_err-q c =
    let r = c.from_residual in
    (merging_refused c.in_err-q.field-0.0 r.result c.in_err-q.ensures.0 (passed_on_answer r.result _ r.ensures.1), c.merge.ensures.1)

pub deliver-requires : goal.deliver-requires
deliver-requires c = (merged_table (read_query c.args.query.now) c.args.work.now, (held (goal.at.deliver-requires c).After-sizes).1)

pub returns : goal.returns
returns c =
    let h = held (goal.at.returns c).After-sizes in
    (done_constructed h.0 (c.deliver.ensures (merged_table (read_query c.args.query.now) c.args.work.now) h.1), c.merge.ensures.1)

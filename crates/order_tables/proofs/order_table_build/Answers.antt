-- `order_tables::order_table_build` meets its contract: the answer as one number.
use lib.ListN.{length}
use Rattle.order_tables.proofs.AnswerCodes.{build_short, build_number}
use Rattle.order_tables.proofs.order_table_build.Goals as goal

pub answered-requires : goal.answered-requires
answered-requires c = let a = c.args in build_short a.query.now (length a.scratch.now) (length a.output.now) c.build.ensures.value

pub returns : goal.returns
returns c =
    let a = c.args in
    let e = c.build.ensures in
    record { value = build_number a.query.now (length a.scratch.now) (length a.output.now) e.value c.answered.ensures; output_after = e.output_after; scratch_after = e.scratch_after }

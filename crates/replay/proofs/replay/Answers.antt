-- `replay::replay` meets its contract: the table is the output's first bytes, and demand 3 holds on the definitions.
use mathlib.Core.Path.{refl, sym, ◌∙◌}
use lib.ListN.{length}
use lib.Seq.{length-take-le}
use Rattle.numbers.proofs.RefusalLaws.{refused, passed_on_answer}
use Rattle.replay.proofs.OutcomeLaws.{lookups_kept, table_room, lookups_replayed, modelled}
use Rattle.replay.proofs.replay.Goals as goal

pub returns-in_err-length : goal.returns-in_err-length
returns-in_err-length c =
    let b = c.in_err-length.ensures in
    let a = c.args in
    let k = lookups_kept a.query.now (length a.scratch.now) a.output.now b.value a.lookups.now (refused c.in_err-length.field-0.0) in
    record {
      value = passed_on_answer c.from_residual.result _ c.from_residual.ensures.1 ∙ b.value;
      output_after = b.output_after;
      scratch_after = b.scratch_after;
      lookups_after = k;
      modelled = modelled a.query.now (length a.scratch.now) (length a.output.now) a.lookups.now k;
    }

pub slice_bounds-run-end : goal.slice_bounds-run-end
slice_bounds-run-end c =
    let b = c.in_ok-length.ensures in
    let a = c.args in
    table_room a.query.now (length a.scratch.now) a.output.now b.value b.output_after refl

pub slice_bounds-run-end-2 : goal.slice_bounds-run-end-2
slice_bounds-run-end-2 c =
    let b = c.in_ok-length.ensures in
    let a = c.args in
    sym (length-take-le _ _ (table_room a.query.now (length a.scratch.now) a.output.now b.value b.output_after refl))

pub returns : goal.returns
returns c =
    let b = c.in_ok-length.ensures in
    let a = c.args in
    let k = c.run.ensures ∙ lookups_replayed a.query.now (length a.scratch.now) a.output.now b.value b.output_after refl a.lookups.now in
    record {
      value = b.value;
      output_after = b.output_after;
      scratch_after = b.scratch_after;
      lookups_after = k;
      modelled = modelled a.query.now (length a.scratch.now) (length a.output.now) a.lookups.now k;
    }

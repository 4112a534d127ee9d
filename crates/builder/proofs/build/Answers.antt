-- `builder::build` meets its contract: checks 1 to 6, the scratch's length, then the construction on the scratch's first 16,384 bytes.
use native.Mathlib.Omega.{arith}
use mathlib.Core.Path.{refl, sym, ◌∙◌, ap, subst}
use mathlib.Core.Logic.{◌≢◌}
use mathlib.Core.List.{◌++◌}
use Rattle.std.specs.Prelude.{Err}
use lib.ListN.{length, drop}
use Rattle.theory.specs.Limits.{scratch_length}
use Rattle.theory.specs.Refusals.{passed}
use Rattle.theory.specs.Query.{read_query}
use Rattle.theory.specs.Table.{refuse}
use Rattle.theory.specs.Build.{delivered, construct}
use Rattle.theory.proofs.ClearLaws.{zeroed_part}
use Rattle.numbers.specs.declared.refusals.Refusal.TheVariants.{Space}
use Rattle.numbers.proofs.RefusalLaws.{refused, passed_on_answer}
use Rattle.builder.specs.Built.{Done}
use Rattle.builder.proofs.WholeLaws.{whole_refused, whole_short, whole_built}
use Rattle.builder.proofs.build.Goals as goal

pub returns-in_err-checked : goal.returns-in_err-checked
returns-in_err-checked c =
    let a = c.args in
    let e = c.in_err-checked.ensures.refusal in
    let r = c.from_residual in
    let d =
    whole_refused a.query.now a.scratch.now a.output.now r.result (subst (λ k. k ≢ passed) e (refused c.in_err-checked.field-0.0))
    (passed_on_answer r.result _ r.ensures.1 ∙ ap refuse e) in
    record { value = d.0; output_after = d.1.0; scratch_after = d.1.1 }

pub returns-then-scratch-lt-SCRATCH_LENGTH : goal.returns-then-scratch-lt-SCRATCH_LENGTH
returns-then-scratch-lt-SCRATCH_LENGTH c =
    let a = c.args in
    let d = whole_short a.query.now a.scratch.now a.output.now (sym c.in_ok-checked.ensures.refusal) (Err Space) (omega arith) refl in
    record { value = d.0; output_after = d.1.0; scratch_after = d.1.1 }

pub returns : goal.returns
returns c =
    let a = c.args in
    let b = c.construct in
    let e = b.ensures in
    let own = subst (λ q. Done (delivered (construct (read_query q)) (length a.output.now)) a.output.now b.new.output b.result) c.in_ok-checked.ensures.bytes e.0 in
    let d =
    whole_built a.query.now a.scratch.now a.output.now (sym c.in_ok-checked.ensures.refusal) (omega arith) own
    (ap (λ p. p ++ drop scratch_length a.scratch.now) e.1 ∙ zeroed_part scratch_length a.scratch.now (omega arith)) in
    record { value = d.0; output_after = d.1.0; scratch_after = d.1.1 }

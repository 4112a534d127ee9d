-- `steps::go_on` meets its contract: the checks, then a pair is settled, or the build is ended on the scratch's zeroed part.
use Prim.Native.Nat.{◌-◌}
use native.Mathlib.Omega.{arith}
use mathlib.Core.Path.{sym, ◌∙◌, ap, subst}
use mathlib.Core.List.{◌++◌}
use lib.ListN.{length, take, drop}
use lib.Seq.{length-take-le}
use Rattle.std.proofs.Common.{Ok, Err}
use Rattle.std.proofs.lemmas.Result.{err_from_is_err_and}
use Rattle.theory.specs.Limits.{scratch_length}
use Rattle.theory.specs.Query.{read_query}
use Rattle.theory.specs.Steps.{pair_count, count_in, settled_pair, merged_table}
use Rattle.theory.specs.Build.{limited, delivered}
use Rattle.theory.proofs.ClearLaws.{zeroed_part}
use Rattle.builder.specs.Built.{Done}
use Rattle.steps.proofs.CallLaws.{called, call_refused, call_settled, call_refused_last, call_last}
use Rattle.steps.proofs.go_on.Goals as goal

pub returns-in_err-checked : goal.returns-in_err-checked
returns-in_err-checked c =
    let a = c.args in
    let p = err_from_is_err_and c.from_residual.result c.from_residual.ensures.1 in
    let d = call_refused a.query.now a.scratch.now a.output.now c.in_err-checked.field-0.0 c.in_err-checked.ensures.refusal in
    record { value = rw (p.1, p.2) d.value; settled = rw (p.1, p.2) d.settled; output_after = d.output_after; scratch_after = d.scratch_after }

pub count-count-requires : goal.count-count-requires
count-count-requires c = (called c.args.query.now c.args.scratch.now (sym c.in_ok-checked.ensures.refusal)).lent.long

pub settle_next-requires : goal.settle_next-requires
settle_next-requires c =
    let k = called c.args.query.now c.args.scratch.now (sym c.in_ok-checked.ensures.refusal) in
    let count = c.count-count.ensures in
    let pairs = c.pairs.ensures in
    (omega (arith, count.0, k.some), omega (arith, pairs.0), omega (arith, pairs.1), k.lent.long)

pub returns-then-count-pairs : goal.returns-then-count-pairs
returns-then-count-pairs c =
    let a = c.args in
    let count = c.count-count.ensures.0 in
    let same = c.in_ok-checked.ensures.bytes in
    let pairs = c.pairs.ensures.0 ∙ ap (λ b. pair_count (read_query b)) same in
    let d = call_settled a.query.now a.scratch.now a.output.now c.in_ok-checked.ensures.refusal (omega (arith, count, pairs))
    (c.settle_next.ensures ∙ ap (λ n. settled_pair (read_query c.in_ok-checked.checked) (n - 1) a.scratch.now) count ∙ ap (λ b. settled_pair (read_query b) (count_in a.scratch.now - 1) a.scratch.now) same) in
    record { value = d.value; settled = d.settled; output_after = d.output_after; scratch_after = d.scratch_after }

pub slice_bounds-merge-end : goal.slice_bounds-merge-end
slice_bounds-merge-end c = (called c.args.query.now c.args.scratch.now (sym c.in_ok-checked.ensures.refusal)).lent.long

pub slice_bounds-merge-end-2 : goal.slice_bounds-merge-end-2
slice_bounds-merge-end-2 c =
    sym (length-take-le scratch_length c.args.scratch.now (called c.args.query.now c.args.scratch.now (sym c.in_ok-checked.ensures.refusal)).lent.long)

pub merge-requires : goal.merge-requires
merge-requires c =
    let k = (called c.args.query.now c.args.scratch.now (sym c.in_ok-checked.ensures.refusal)).lent in
    omega (arith, k.long, length-take-le scratch_length c.args.scratch.now k.long)

pub returns-in_err-length : goal.returns-in_err-length
returns-in_err-length c =
    let a = c.args in
    let refusal = c.in_err-length.field-0.0 in
    let e = c.in_err-length.ensures in
    let k = (called a.query.now a.scratch.now (sym c.in_ok-checked.ensures.refusal)).lent in
    let p = err_from_is_err_and c.from_residual-in_err-length.result c.from_residual-in_err-length.ensures.1 in
    let d = call_refused_last a.query.now a.scratch.now a.output.now c.in_ok-checked.ensures.refusal (omega (arith, c.count-count.ensures.0, c.pairs.ensures.0 ∙ ap (λ b. pair_count (read_query b)) c.in_ok-checked.ensures.bytes))
    (ap (λ p. p ++ drop scratch_length a.scratch.now) e.1 ∙ zeroed_part scratch_length a.scratch.now k.long) refusal
    (subst (λ b. Done (delivered (limited (merged_table (read_query b) (take scratch_length a.scratch.now))) (length a.output.now)) a.output.now c.merge.new.output (Err refusal)) c.in_ok-checked.ensures.bytes e.0) in
    record { value = rw (p.1, p.2) d.value; settled = rw (p.1, p.2) d.settled; output_after = d.output_after; scratch_after = d.scratch_after }

pub returns : goal.returns
returns c =
    let a = c.args in
    let e = c.in_ok-length.ensures in
    let k = (called a.query.now a.scratch.now (sym c.in_ok-checked.ensures.refusal)).lent in
    let d = call_last a.query.now a.scratch.now a.output.now c.in_ok-checked.ensures.refusal (omega (arith, c.count-count.ensures.0, c.pairs.ensures.0 ∙ ap (λ b. pair_count (read_query b)) c.in_ok-checked.ensures.bytes))
    (ap (λ p. p ++ drop scratch_length a.scratch.now) e.1 ∙ zeroed_part scratch_length a.scratch.now k.long) c.in_ok-length.length
    (subst (λ b. Done (delivered (limited (merged_table (read_query b) (take scratch_length a.scratch.now))) (length a.output.now)) a.output.now c.merge.new.output (Ok c.in_ok-length.length)) c.in_ok-checked.ensures.bytes e.0) in
    record { value = d.value; settled = d.settled; output_after = d.output_after; scratch_after = d.scratch_after }

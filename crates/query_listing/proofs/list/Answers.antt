-- `query_listing::list` meets its contract: checks 1 to 6, the scratch's length, then the listing by way of the scratch's first 16,384 bytes.
use native.Mathlib.Omega.{arith}
use mathlib.Core.Path.{sym, ◌∙◌, ap, subst}
use mathlib.Core.Logic.{◌≢◌}
use mathlib.Core.List.{◌++◌}
use lib.ListN.{drop}
use Rattle.theory.specs.Limits.{scratch_length}
use Rattle.theory.specs.Refusals.{passed}
use Rattle.theory.specs.Listing.{refused_line}
use Rattle.theory.proofs.ClearLaws.{zeroed_part}
use Rattle.numbers.proofs.RefusalLaws.{refused}
use Rattle.query_listing.specs.Listed.{Handed}
use Rattle.query_listing.proofs.TableLaws.{unpassed_listing}
use Rattle.query_listing.proofs.ListedLaws.{query_refused, scratch_short, scratch_whole}
use Rattle.query_listing.proofs.list.Goals as goal

pub returns-in-Err : goal.returns-in-Err
returns-in-Err c =
    let a = c.args in
    let e = c.in-Err.ensures.refusal in
    let unpassed = subst (λ n. n ≢ passed) e (refused c.in-Err.refusal) in
    let d =
    query_refused a.query.now a.scratch.now a.text.now unpassed
    (subst (λ l. Handed l a.text.now c.list_refusal.new.text c.list_refusal.result) (ap refused_line e ∙ unpassed_listing a.query.now unpassed) c.list_refusal.ensures) in
    record { value = d.0; text_after = d.1.0; scratch_after = d.1.1 }

pub returns-then-scratch-lt-SCRATCH_LENGTH : goal.returns-then-scratch-lt-SCRATCH_LENGTH
returns-then-scratch-lt-SCRATCH_LENGTH c =
    let a = c.args in
    let d = scratch_short a.query.now a.scratch.now a.text.now (sym c.in_default.ensures.refusal) (omega arith) in
    record { value = d.0; text_after = d.1.0; scratch_after = d.1.1 }

pub returns : goal.returns
returns c =
    let a = c.args in
    let e = c.list_cleared.ensures in
    let d =
    scratch_whole a.query.now a.scratch.now a.text.now (sym c.in_default.ensures.refusal) (omega arith) e.0
    (ap (λ p. p ++ drop scratch_length a.scratch.now) e.1 ∙ zeroed_part scratch_length a.scratch.now (omega arith)) in
    record { value = d.0; text_after = d.1.0; scratch_after = d.1.1 }

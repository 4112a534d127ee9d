-- `counterexample::find` meets its contract: the checks in their order, then what is shown.
use native.Mathlib.Omega.{arith}
use mathlib.Core.Path.{sym, ◌∙◌, ap, subst}
use Rattle.theory.specs.Query.{read_query}
use Rattle.theory.specs.Table.{refuse}
use Rattle.theory.specs.Counterexamples.{Named, Askable, Shows, query_refused, not_named, rows_short}
use Rattle.theory.proofs.Reflect.{says_true, says_false}
use Rattle.theory.proofs.QueryLaws.{column_count_lem}
use Rattle.numbers.proofs.RefusalLaws.{refused}
use Rattle.counterexample.proofs.NamedLaws.{askable}
use Rattle.counterexample.proofs.ShowLaws.{passed_on_found}
use Rattle.counterexample.proofs.find.Goals as goal

pub returns-in_err-checked-clause-shows : goal.returns-in_err-checked-clause-shows
returns-in_err-checked-clause-shows c = let a = c.args in let q = a.query.now in let rows = a.rows.now in
    let refusal = c.in_err-checked.field-0.0 in
    subst (λ answer. Shows q a.produced.0 a.sets.0 a.order.0 rows answer rows)
    (sym (passed_on_found c.from_residual.result refusal c.from_residual.ensures.1 ∙ ap refuse c.in_err-checked.ensures.refusal))
    (query_refused (λ e. refused refusal (c.in_err-checked.ensures.refusal ∙ e)))

pub returns-then-not-named-clause-shows : goal.returns-then-not-named-clause-shows
returns-then-not-named-clause-shows c = let a = c.args in let ok = c.in_ok-checked in
    not_named (sym ok.ensures.refusal) (subst (λ b. ¬ Named (read_query b) a.produced.0 a.sets.0 a.order.0) ok.ensures.bytes (says_false c.named.ensures c.if-not-named.true))

pub returns-then-rows-columns-clause-shows : goal.returns-then-rows-columns-clause-shows
returns-then-rows-columns-clause-shows c = let a = c.args in let ok = c.in_ok-checked in
    rows_short (sym ok.ensures.refusal) (subst (λ b. Named (read_query b) a.produced.0 a.sets.0 a.order.0) ok.ensures.bytes (says_true c.named.ensures c.if-not-named.false))
    (omega (arith, column_count_lem a.query.now))

pub show-requires : goal.show-requires
show-requires c = let a = c.args in let ok = c.in_ok-checked in
    subst (λ b. Askable b a.produced.0 a.sets.0 a.order.0 a.rows.now) (sym ok.ensures.bytes)
    (askable a.query.now a.produced.0 a.sets.0 a.order.0 a.rows.now c.if-rows-columns.false c.columns.ensures (sym ok.ensures.refusal)
    (subst (λ b. Named (read_query b) a.produced.0 a.sets.0 a.order.0) ok.ensures.bytes (says_true c.named.ensures c.if-not-named.false)))

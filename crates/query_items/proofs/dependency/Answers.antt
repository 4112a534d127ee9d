-- `query_items::dependency` meets its contract: the query's refusal, 10, or the value.
use native.Mathlib.Omega.{arith}
use mathlib.Core.Path.{sym, ◌∙◌, ap}
use Rattle.theory.specs.Table.{grant}
use Rattle.numbers.proofs.RefusalLaws.{refused, passed_on_answer}
use Rattle.query_items.proofs.ItemLaws.{query_refuses, item_missing, item_there, dependency_value_fits}
use Rattle.query_items.proofs.dependency.Goals as goal

pub returns-in_err-check-clause-answer : goal.returns-in_err-check-clause-answer
returns-in_err-check-clause-answer c =
    passed_on_answer c.from_residual.result _ c.from_residual.ensures.1 ∙ query_refuses _ _ _ _ c.in_err-check.ensures.refusal (refused _)

pub returns-then-dependencies-i-clause-answer : goal.returns-then-dependencies-i-clause-answer
returns-then-dependencies-i-clause-answer c = item_missing _ _ _ _ c.in_ok-check.ensures.refusal (omega arith)

pub returns-clause-answer : goal.returns-clause-answer
returns-clause-answer c = ap grant c.dependency_value.ensures ∙ item_there _ _ _ _ c.in_ok-check.ensures.refusal (omega arith)

pub returns-clause-small : goal.returns-clause-small
returns-clause-small c = omega (arith, dependency_value_fits c.args.query.now c.args.i (sym c.in_ok-check.ensures.refusal) (omega arith))

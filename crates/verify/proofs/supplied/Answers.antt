-- `verify::supplied` meets its contract: the form, then the sizes, then the answers.
use mathlib.Core.Path.{sym, ◌∙◌, subst}
use Rattle.theory.specs.Tests.{pick}
use Rattle.theory.specs.Refusals.{passed, answer_refused}
use Rattle.numbers.proofs.RefusalLaws.{passed_on}
use Rattle.verify.proofs.OwnLaws.{OutcomeIs, form_fails, sizes_fail, comparable, answers_decide}
use borrow.Author.Rules.{rules}
use Rattle.verify.proofs.supplied.Goals.{After-same_answers}
use Rattle.verify.proofs.supplied.Goals as goal

pub returns-in_err-check : goal.returns-in_err-check
returns-in_err-check c =
    (passed_on c.from_residual.result _ c.from_residual.ensures.1 ∙ form_fails c.requires.0 c.args.table.now _ c.in_err-check.ensures.refusal, search rules)

pub returns-in_err-check_sizes : goal.returns-in_err-check_sizes
returns-in_err-check_sizes c = (
  passed_on c.from_residual-in_err-check_sizes.result _ c.from_residual-in_err-check_sizes.ensures.1
      ∙ sizes_fail c.requires.0 c.args.table.now (sym c.in_ok-check.ensures.refusal) _ c.in_err-check_sizes.ensures,
  search rules,
)

pub new-requires : goal.new-requires
new-requires c = comparable c.requires.0 c.args.table.now (sym c.in_ok-check.ensures.refusal) (sym c.in_ok-check_sizes.ensures)

-- what the answers decide
answered : (c : After-same_answers) → OutcomeIs c.requires.0 c.args.table.now (pick c.same_answers.result passed answer_refused)
answered c =
    answers_decide c.requires.0 c.args.table.now (sym c.in_ok-check.ensures.refusal) (sym c.in_ok-check_sizes.ensures)
    (rw (c.new.ensures.ours, c.new.ensures.theirs) at c.same_answers.ensures.0)

pub returns-then-same_answers : goal.returns-then-same_answers
returns-then-same_answers c = (subst (λ y. OutcomeIs c.requires.0 c.args.table.now (pick y passed answer_refused)) c.if-same_answers.true (answered (goal.at.returns-then-same_answers c).After-same_answers), c.same_answers.ensures.1)

pub returns-else-same_answers : goal.returns-else-same_answers
returns-else-same_answers c = (subst (λ y. OutcomeIs c.requires.0 c.args.table.now (pick y passed answer_refused)) c.if-same_answers.false (answered (goal.at.returns-else-same_answers c).After-same_answers), c.same_answers.ensures.1)

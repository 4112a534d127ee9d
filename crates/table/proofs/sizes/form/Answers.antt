-- `table::sizes::form` meets its contract: past the first check the sizes and the number of bytes decide.
use mathlib.Core.Path.{sym, ◌∙◌}
use Rattle.theory.specs.Table.{form_refusal}
use Rattle.theory.proofs.Picks.{picks}
use Rattle.numbers.proofs.RefusalLaws.{passed_on}
use Rattle.table.proofs.FormLaws.{form_sizes, formed}
use Rattle.table.proofs.sizes.form.Goals as goal

pub returns-then-table-lt-TABLE_SIZES-clause-refusal : goal.returns-then-table-lt-TABLE_SIZES-clause-refusal
unfolding form_refusal
returns-then-table-lt-TABLE_SIZES-clause-refusal c = search picks

pub returns-in_err-check_sizes-clause-refusal : goal.returns-in_err-check_sizes-clause-refusal
returns-in_err-check_sizes-clause-refusal c =
    passed_on c.from_residual.result c.in_err-check_sizes.field-0.0 c.from_residual.ensures.1
    ∙ (c.in_err-check_sizes.ensures ∙ form_sizes c.args.table.now c.if-table-lt-TABLE_SIZES.false)

pub new-requires : goal.new-requires
new-requires c =
    formed _ (sym (c.in_ok-check_sizes.ensures ∙ form_sizes c.args.table.now c.if-table-lt-TABLE_SIZES.false))

pub returns-clause-refusal : goal.returns-clause-refusal
returns-clause-refusal c = c.in_ok-check_sizes.ensures ∙ form_sizes c.args.table.now c.if-table-lt-TABLE_SIZES.false

-- `item_check::check_items` meets its contract. The loop's invariant: the first i items pass.
use native.Mathlib.Omega.{arith}
use mathlib.Core.Path.{◌∙◌}
use Rattle.numbers.proofs.RefusalLaws.{refused, passed_on}
use Rattle.theory.specs.Query.{item_count, item_refusal}
use Rattle.theory.proofs.RefusalLaws.{first_found}
use Rattle.item_check.proofs.check_items.Goals as goal

pub returns-in_err-check_item : goal.returns-in_err-check_item
returns-in_err-check_item c = let check = item_refusal c.args.query.now in
    passed_on c.from_residual.result _ c.from_residual.ensures.1
    ∙ first_found check c.loop-i.i (item_count c.args.query.now) (omega arith) c.loop-i.invariant c.in_err-check_item.ensures (refused _)

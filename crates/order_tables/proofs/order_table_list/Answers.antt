-- `order_tables::order_table_list` meets its contract: the answer as one number.
use Prim.Native.Nat.{◌<◌}
use mathlib.Core.Path.{sym, ◌∙◌, ap, subst}
use lib.ListN.{length}
use Rattle.answer_codes.specs.Codes.{answer_code}
use Rattle.query_listing.specs.Listed.{list_refusal}
use Rattle.order_tables.proofs.AnswerCodes.{list_short}
use Rattle.order_tables.proofs.order_table_list.Goals as goal

pub answered-requires : goal.answered-requires
answered-requires c =
    let a = c.args in
    subst (λ l. l.value < 65536) (sym c.list.ensures.value) (list_short a.query.now (list_refusal a.query.now (length a.scratch.now) (length a.text.now)))

pub returns : goal.returns
returns c = let e = c.list.ensures in record { value = c.answered.ensures ∙ ap answer_code e.value; text_after = e.text_after; scratch_after = e.scratch_after }

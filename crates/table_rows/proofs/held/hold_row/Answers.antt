-- `table_rows::held::hold_row` meets its contract: the two bytes are those of the row's held list.
use Prim.Native.Nat.{◌+◌, ◌/◌, ◌%◌}
use mathlib.Core.Path.{sym, ◌∙◌, ap, ap₂}
use mathlib.Core.List.{[], ◌∷◌}
use lib.ListN.{take}
use Rattle.theory.specs.Query.{byte_at}
use Rattle.theory.specs.Scratch.{held_part}
use Rattle.theory.specs.Placed.{placed}
use Rattle.row_pairs.specs.RowPairs.{cut_word, row_place}
use Rattle.open_sets.proofs.StateLaws.{state_held}
use Rattle.table_rows.proofs.held.hold_row.Goals as goal

pub returns : goal.returns
returns c =
    let a = c.args in
    let bits = a.sizes.produced + a.sizes.tested in
    let sets = a.sizes.sets in
    let w = a.work.now in
    let words = take held_part w in
    let at = row_place a.i in
    let r = c.row_pair-pair.ensures in
    let e = c.cut_word-word.ensures.0 ∙ ap₂ (cut_word bits sets words) r.order r.choice in
    c.put.ensures ∙ ap (λ n. placed at (n % 256 ∷ n / 256 ∷ []) w) e
    ∙ ap (λ b. placed at b w) (sym (state_held bits sets words (byte_at w at) (byte_at w (at + 1))))

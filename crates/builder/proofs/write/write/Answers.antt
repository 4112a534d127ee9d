-- `builder::write::write` meets its contract: three writes, each directly behind the one before.
use Prim.Native.Nat.{◌+◌, ◌*◌}
use native.Mathlib.Omega.{arith}
use mathlib.Core.Path.{◌∙◌, ap}
use mathlib.Core.List.{◌∷◌}
use Rattle.theory.specs.Limits.{table_sizes}
use Rattle.theory.specs.Placed.{placed}
use Rattle.theory.proofs.PlacedLaws.{placed_row, placed_three}
use Rattle.builder.specs.Written.{stored_table}
use Rattle.builder.proofs.write.write.Goals as goal

pub returns : goal.returns
unfolding stored_table
returns c = let third = c.copy-2 in let words = c.part-words in
    let second = c.copy in let next = c.part in
    let first = c.write_front in let starts = c.part-starts in
    let a = c.args in
    let z = a.sizes in
    let i = table_sizes + z.produced in
    let j = i + a.q * z.sets in
    let d = a.output.now in
    let head = a.q ∷ z.produced ∷ z.tested ∷ z.sets ∷ starts.result.now in
    third.ensures
    ∙ placed_row second.new.out j words.result.now
    ∙ ap (placed j words.result.now) (second.ensures ∙ placed_row first.new.output i next.result.now ∙ ap (placed i next.result.now) first.ensures)
    ∙ placed_three i j head next.result.now words.result.now d (omega (arith, starts.ensures.1)) (omega (arith, next.ensures.1)) (omega arith)
    ∙ rw (starts.ensures.0, next.ensures.0, words.ensures.0)

-- `builder::write::write_front` meets its contract: the starts are written directly behind the sizes.
use native.Mathlib.Omega.{arith}
use mathlib.Core.Path.{refl, ◌∙◌, ap}
use mathlib.Core.List.{[], ◌∷◌}
use Rattle.theory.specs.Placed.{placed}
use Rattle.theory.proofs.PlacedLaws.{placed_row, placed_more}
use Rattle.builder.proofs.write.write_front.Goals as goal

pub returns : goal.returns
returns c = let a = c.args in
    let d = a.output.now in
    let sizes = a.q ∷ a.sizes.produced ∷ a.sizes.tested ∷ a.sizes.sets ∷ [] in
    let first = c.write_sizes in
    c.copy.ensures
    ∙ placed_row first.new.out 4 a.starts.now
    ∙ ap (placed 4 a.starts.now) (first.ensures ∙ placed_row d 0 sizes)
    ∙ placed_more 0 4 sizes a.starts.now d refl (omega arith)

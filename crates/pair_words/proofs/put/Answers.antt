-- `pair_words::put` meets its contract: what is copied is placed, and a word's bytes are the low one and the high one.
use Prim.Native.Nat.{◌/◌, ◌%◌}
use native.Mathlib.Omega.{arith}
use mathlib.Core.Path.{◌≡◌, ◌∙◌, ap}
use mathlib.Core.List.{[], ◌∷◌}
use Rattle.theory.specs.Placed.{placed}
use Rattle.theory.proofs.PlacedLaws.{placed_row}
use Rattle.pair_words.proofs.put.Goals as goal

pub returns : goal.returns
returns c =
    let a = c.args in
    let high : a.word / 256 % 256 ≡ a.word / 256 = omega (arith, c.ranges.word.fits) in
    c.copy.ensures ∙ placed_row a.work.now a.at c.to_le_bytes.result ∙ ap (λ x. placed a.at x a.work.now) (c.to_le_bytes.ensures ∙ ap (λ h. a.word % 256 ∷ h ∷ []) high)

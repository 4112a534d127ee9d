-- `Arrow::between` meets its contract: the two masks are the columns'.
use mathlib.Core.Path.{refl, sym, subst}
use mathlib.Core.List.Memᴰ
use mathlib.Core.List.{[], ◌∷◌}
use Rattle.column_masks.specs.Masks.{MaskOf}
use Rattle.column_masks.proofs.MaskLaws.{mask_one}
use Rattle.arrows.proofs.Arrow.between.Goals as goal

pub mask-requires : goal.mask-requires
mask-requires c = λ d k. c.requires d (Memᴰ.tail k)

pub bit-requires : goal.bit-requires
bit-requires c = c.requires c.args.to (Memᴰ.head refl)

pub returns : goal.returns
returns c = (c.mask.ensures, subst (MaskOf (c.args.to ∷ [])) (sym c.bit.ensures) (mask_one c.args.to))

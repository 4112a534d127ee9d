use lib.ListN.{take}
use Rattle.column_masks.specs.Masks.{MaskOf}
use Rattle.column_masks.proofs.mask.Given as goal

abbrev pub invariant-loop-column : goal.invariant-loop-column
invariant-loop-column l = MaskOf (take l.column-index l.column-items) l.all

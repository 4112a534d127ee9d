-- `column_masks::mask` meets its contract. The loop's invariant: the mask has the columns that were read.
use Prim.Native.Nat.{◌+◌}
use native.Mathlib.Omega.{arith}
use mathlib.Core.Path.{sym, ap, subst}
use lib.Bits.{bit_or}
use lib.ListN.{take}
use Rattle.column_masks.specs.Masks.{MaskOf}
use Rattle.column_masks.proofs.MaskLaws.{mask_none, mask_next, narrow_at}
use Rattle.column_masks.proofs.mask.Goals as goal

pub loop-column-init : goal.loop-column-init
loop-column-init c = mask_none

pub bit-all-requires : goal.bit-all-requires
bit-all-requires c = let e = c.entries-column-items in
    narrow_at e.result.now c.loop-column.column-index (rw e.ensures c.requires) (omega arith)

pub loop-column-preserved : goal.loop-column-preserved
loop-column-preserved c = let l = c.entries-column-items.result.now in let at = c.loop-column in
    subst (MaskOf (take (at.column-index + 1) l)) (ap (bit_or at.all) (sym c.bit-all.ensures)) (mask_next l at.column-index at.all (omega arith) at.invariant)

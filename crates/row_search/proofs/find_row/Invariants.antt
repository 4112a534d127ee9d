use Prim.Native.Nat.{ℕ, ◌+◌, ◌-◌, ◌^◌, ◌<◌}
use mathlib.Core.Path.{◌≡◌}
use lib.Bits.{bit_or}
use lib.ListN.{take}
use Rattle.theory.specs.Scratch.{held_part}
use Rattle.row_pairs.specs.RowPairs.{cut_word}
use Rattle.row_search.proofs.FindLaws.{Searched}
use Rattle.row_search.proofs.find_row.Given as goal

abbrev pub invariant-loop-x : goal.invariant-loop-x
invariant-loop-x l = (bit_or l.x l.pair.choice ≡ l.x) × ((y : ℕ) → y < l.x → y < 2 ^ l.sizes.sets → bit_or y l.pair.choice ≡ y → cut_word (l.sizes.produced + l.sizes.tested) l.sizes.sets (take held_part l.work) l.pair.order y ≡ cut_word (l.sizes.produced + l.sizes.tested) l.sizes.sets (take held_part l.work) l.row.order y)

abbrev pub decreases-loop-x : goal.decreases-loop-x
decreases-loop-x l = l.choices - l.x

abbrev pub invariant-row : goal.invariant-row
invariant-row l = Searched (l.sizes.produced + l.sizes.tested) l.sizes.sets l.work l.count l.pair.order l.pair.choice l.i

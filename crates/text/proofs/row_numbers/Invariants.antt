use Prim.Native.Nat.{◌*◌}
use mathlib.Core.List.{map, flatten}
use lib.ListN.{take}
use Rattle.theory.specs.Listing.{spaced}
use Rattle.text.specs.Text.{Wrote}
use Rattle.text.proofs.row_numbers.Given as goal

abbrev pub invariant-loop-n : goal.invariant-loop-n
invariant-loop-n l = Wrote l.initial.text l.at (flatten (map spaced (take l.n-index l.row))) (l.n-index * 4) l.text l.end

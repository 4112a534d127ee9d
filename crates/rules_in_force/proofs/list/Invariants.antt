use Prim.Native.Nat.{◌*◌, ◌≤◌}
use mathlib.Core.List.{map, flatten}
use lib.ListN.{length}
use Rattle.theory.specs.Tests.{up_from}
use Rattle.arrows.specs.Arrows.{Written}
use Rattle.rules_in_force.specs.Rules.{arrows_at}
use Rattle.rules_in_force.proofs.list.Given as goal

abbrev pub invariant-loop-i : goal.invariant-loop-i
invariant-loop-i l = (length l.arrows.items ≤ 2 * l.i) × Written (flatten (map (arrows_at l.only l.query l.x) (up_from 0 l.i))) l.arrows.items

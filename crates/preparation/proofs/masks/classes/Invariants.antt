use mathlib.Core.Path.{◌≡◌}
use lib.ListN.{length}
use Rattle.preparation.proofs.ClassLaws.{Classed}
use Rattle.preparation.proofs.masks.classes.Given as goal

abbrev pub invariant-loop-c : goal.invariant-loop-c
invariant-loop-c l = (length l.classes ≡ 16) × Classed l.equals.items l.classes l.c

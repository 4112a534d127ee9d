use mathlib.Core.Path.{◌≡◌}
use Rattle.theory.specs.Refusals.{passed, first_of}
use Rattle.theory.specs.Query.{item_refusal}
use Rattle.item_check.proofs.check_items.Given as goal

abbrev pub invariant-loop-i : goal.invariant-loop-i
invariant-loop-i l = first_of (item_refusal l.query) l.i ≡ passed

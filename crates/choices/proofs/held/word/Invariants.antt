use mathlib.Core.Path.{◌≡◌}
use mathlib.Core.List.{List}
use lib.ListN.{drop}
use Rattle.theory.specs.Orders.{Rule}
use Rattle.theory.specs.Table.{number}
use Rattle.closure.specs.RuleMasks.{Prepared}
use Rattle.choices.specs.Words.{held_bits}
use Rattle.choices.proofs.held.word.Given as goal

abbrev pub invariant-loop-i : goal.invariant-loop-i
invariant-loop-i l = (rs : List Rule) → Prepared rs l.rules.arrows.items l.rules.start l.rules.classes → l.word ≡ number (drop l.i (held_bits l.query rs l.fn.p))

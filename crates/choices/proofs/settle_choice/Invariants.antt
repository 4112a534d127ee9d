use Prim.Native.Nat.{◌-◌}
use mathlib.Core.Path.{◌≡◌}
use Rattle.choices.specs.Words.{settled_orders}
use Rattle.choices.proofs.settle_choice.Given as goal

abbrev pub invariant-loop-p : goal.invariant-loop-p
invariant-loop-p l = l.work ≡ settled_orders l.query l.x l.fn.from (l.p - l.fn.from) l.initial.work

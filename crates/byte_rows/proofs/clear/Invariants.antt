use mathlib.Core.Path.{◌≡◌}
use Rattle.theory.specs.Build.{zeroed}
use Rattle.byte_rows.proofs.clear.Given as goal

abbrev pub invariant-loop-byte : goal.invariant-loop-byte
invariant-loop-byte l = l.part ≡ zeroed l.byte-index l.initial.part

use Prim.Native.Nat.{ℕ, ◌<◌, min}
use mathlib.Core.Path.{◌≡◌}
use lib.ListN.{take}
use Rattle.theory.specs.Query.{byte_at}
use Rattle.decimal.specs.Words.{large_number, Digit, value_of}
use Rattle.decimal.proofs.read.Given as goal

abbrev pub invariant-loop-byte : goal.invariant-loop-byte
invariant-loop-byte l = record {
  digits : (k : ℕ) → k < l.byte-index → Digit (byte_at l.word k);
  value : l.n ≡ min (value_of (take l.byte-index l.word)) large_number;
}

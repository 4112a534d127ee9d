-- Lines of a kind with one more.
use Prim.Native.Nat.{ℕ, ◌+◌}
use native.Mathlib.Nat.{zero-add}
use mathlib.Core.Path.{◌≡◌, sym}
use mathlib.Core.List.{◌++◌}
use Rattle.theory.specs.Query.{Bytes}
use Rattle.theory.proofs.RangeLaws.{flatten_more}
use Rattle.listing.specs.Lines.{lines}

pub lines_more : (line : ℕ → Bytes) (n : ℕ) → lines line n ++ line n ≡ lines line (n + 1)
lines_more line n = sym (flatten_more line 0 n n (sym (zero-add n)))

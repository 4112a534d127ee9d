-- What was read lies within the buffer, and which bytes it is.
use Rattle.std.specs.Prelude.{ℕ, List, Option, Result, length, take, ◌≤◌, ◌≡◌, ⊤, None, Some, Ok, Err}

abbrev pub ReadWithin : {E : Type 0} → Result ℕ E → ℕ → Type 0
ReadWithin (Ok n) most = n ≤ most
ReadWithin (Err _) most = Unit {0}

-- Of a reader that says which bytes it has, the buffer begins with the first of them: with all, or with as many as it holds.
abbrev pub ReadFront : {E : Type 0} → Option (List ℕ) → Result ℕ E → List ℕ → Type 0
ReadFront None r buffer = ⊤
ReadFront (Some bytes) (Ok n) buffer = take n buffer ≡ take (length buffer) bytes
ReadFront (Some bytes) (Err _) buffer = ⊤

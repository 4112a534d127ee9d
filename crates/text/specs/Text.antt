-- A text that is written from a place on, piece by piece.
use Rattle.std.specs.Prelude.{ℕ, ◌+◌, ◌≤◌, ◌≡◌, length, take}
use Rattle.theory.specs.Query.{Bytes}
use Rattle.theory.specs.Placed.{placed}

-- A piece of at most so many bytes stands at the place, the other bytes are kept, and `behind` is the place behind it.
pub record Wrote (before : Bytes) (at : ℕ) (piece : Bytes) (most : ℕ) (after : Bytes) (behind : ℕ) : Type 0 where
  pub text : after ≡ placed at piece before
  pub place : behind ≡ at + length piece
  pub fits : behind ≤ length before
  pub short : length piece ≤ most

-- The same of a whole listing, whose first byte is the text's: its bytes are the first ones.
pub record Printed (before : Bytes) (listing : Bytes) (after : Bytes) (count : ℕ) : Type 0 where
  pub text : after ≡ placed 0 listing before
  pub counted : count ≡ length listing
  pub fits : count ≤ length before
  pub first : take count after ≡ listing

-- The listing of every input that begins with the bytes that were read.
use Rattle.std.specs.Prelude.{ℕ, ◌≡◌, take}
use Rattle.theory.specs.Limits.{query_front}
use Rattle.theory.specs.Query.{Bytes}
use Rattle.theory.specs.Listing.{listing}
use Rattle.query_listing.specs.Listed.{Listing}

-- The text begins with the listing of these bytes, and with that of every input whose first bytes they are.
pub record Lists (front text : Bytes) (count : ℕ) : Type 0 where
  pub own : Listing (listing front) text count
  pub longer : (whole : Bytes) → take query_front whole ≡ front → Listing (listing whole) text count

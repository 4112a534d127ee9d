-- The listing of what was read is the input's.
use Prim.Native.Nat.{ℕ}
use mathlib.Core.Path.{sym, ◌∙◌, ap, subst}
use Rattle.theory.specs.Query.{Bytes}
use Rattle.theory.specs.Listing.{listing}
use Rattle.query_listing.specs.Listed.{Listing}
use Rattle.query_listing.proofs.FrontLaws.{listing_front}
use Rattle.order_listing.specs.Lists.{Lists}

pub lists : (front : Bytes) {text : Bytes} {n : ℕ} → Listing (listing front) text n → Lists front text n
lists front {text} {n} l = record { own = l; longer = λ whole e. subst (λ k. Listing k text n) (ap listing (sym e) ∙ listing_front whole) l }

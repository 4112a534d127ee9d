-- Pieces written one behind the other are one piece.
use Prim.Native.Nat.{ℕ, ◌+◌, ◌*◌, ◌≤◌}
use native.Mathlib.Nat.{zero-add, add-zero, suc-mul}
use native.Mathlib.Numerals.{add-one}
use native.Mathlib.Omega.{arith}
use mathlib.Core.Path.{◌≡◌, sym, ◌∙◌, ap, ap₂}
use mathlib.Core.List.{[], ◌++◌}
use lib.ListN.{length, take, length-append}
use Rattle.theory.specs.Query.{Bytes}
use Rattle.theory.specs.Placed.{placed}
use Rattle.theory.proofs.PlacedLaws.{placed_none, placed_length, placed_more, placed_taken}
use Rattle.text.specs.Text.{Wrote, Printed}

-- nothing written
pub wrote_none : (d : Bytes) (at : ℕ) → at ≤ length d → Wrote d at [] 0 d at
wrote_none d at h = record { text = placed_none d at; place = sym (add-zero at); fits = h; short = omega arith }

-- one piece behind the other
pub wrote_on : {d l m k e : Bytes} {at a p b r : ℕ} → Wrote d at l a m p → Wrote m p k b e r → Wrote d at (l ++ k) (a + b) e r
wrote_on {d} {l} {m} {k} {e} {at} {p = p} v w =
    let same : length m ≡ length d = ap length v.text ∙ placed_length at l d (omega arith) in
    record {
      text = w.text ∙ ap (placed p k) v.text ∙ placed_more at p l k d (sym v.place) v.fits;
      place = rw length-append (omega arith);
      fits = omega arith;
      short = rw length-append (omega arith);
    }

-- the same piece by another name, and with another bound
pub wrote_as : {d l k e : Bytes} {at a b r : ℕ} → l ≡ k → a ≤ b → Wrote d at l a e r → Wrote d at k b e r
wrote_as {d} {l} {e = e} {at} {b = b} {r} same h w =
    let bounded : Wrote d at l b e r = record { text = w.text; place = w.place; fits = w.fits; short = omega arith } in
    rw same at bounded

-- a turn of a loop whose pieces have at most w bytes each
pub wrote_turn : {d l m k j e : Bytes} {at p r w : ℕ} (i : ℕ) → l ++ k ≡ j → Wrote d at l (i * w) m p → Wrote m p k w e r → Wrote d at j ((i + 1) * w) e r
wrote_turn {w = w} i same v u = wrote_as same (rw (add-one, suc-mul) (omega arith)) (wrote_on v u)

-- what stands at the text's first place is its first bytes
pub wrote_first : {d l e : Bytes} {a r : ℕ} → Wrote d 0 l a e r → Printed d l e r
wrote_first {d} {l} {e} {a} {r} w =
    let counted : r ≡ length l = w.place ∙ zero-add (length l) in
    record {
      text = w.text;
      counted = counted;
      fits = w.fits;
      first = ap₂ take counted w.text ∙ placed_taken l d;
    }

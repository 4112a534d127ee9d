-- The line of a row that has a value, and of a row and one behind it.
use Prim.Native.Nat.{ℕ, suc, ◌+◌, ◌-◌, ◌≤◌}
use native.Mathlib.Nat.{not-suc-le-zero, le_refl}
use native.Mathlib.Omega.{arith}
use mathlib.Core.Path.{◌≡◌, ap}
use mathlib.Core.List.{[], ◌∷◌, ◌++◌, map, flatten}
use lib.ListN.{length, take, drop, length-take, length-drop}
use lib.Seq.{take_all, length-take-le}
use Rattle.theory.specs.Query.{Bytes, byte_at}
use Rattle.theory.specs.Listing.{decimal, spaced, line_end}
use Rattle.text.specs.Text.{Wrote, Printed}
use Rattle.text.proofs.TextLaws.{wrote_as, wrote_on, wrote_first}
use Rattle.order_counterexample.specs.Evidence.{row_line, rows_text}

-- the first value and those behind it
pub row_pieces : (row : Bytes) → 1 ≤ length row → decimal (byte_at row 0) ++ (flatten (map spaced (take (length row - 1) (drop 1 row))) ++ line_end) ≡ row_line row
row_pieces [] h = absurd (not-suc-le-zero h)
row_pieces (v ∷ vs) h = ap (λ l. decimal v ++ (flatten (map spaced l) ++ line_end)) (take_all (suc (length vs) - 1) vs (omega arith))

pub rest_length : (row : Bytes) → length (take (length row - 1) (drop 1 row)) ≡ length row - 1
rest_length row = simp (length-take, length-drop) (omega arith)

module _ (n : ℕ) (rows : Bytes) (fits : n + n ≤ length rows) where
  -- each row has n values
  pub first_length : length (take n rows) ≡ n
  first_length = length-take-le n rows (omega arith)

  pub second_length : length (take (n + n - n) (drop n rows)) ≡ n
  second_length = simp (length-take, length-drop) (omega arith)

  pub rows_wrote : {text mid after : Bytes} {p r a b : ℕ} → Wrote text 0 (row_line (take n rows)) a mid p → Wrote mid p (row_line (take (n + n - n) (drop n rows))) b after r
      → Printed text (rows_text n rows) after r
  rows_wrote {b = b} v w =
      let same : n + n - n ≡ n = omega arith in
      wrote_first (wrote_on v (wrote_as (ap (λ k. row_line (take k (drop n rows))) same) (le_refl b) w))

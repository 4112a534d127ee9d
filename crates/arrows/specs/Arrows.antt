-- The arrows of a rule, between columns and as arrows between masks, one after the other.
use Rattle.std.specs.Prelude.{ℕ, ◌+◌, ◌≤◌, Bool, List, [], ◌∷◌, ◌++◌, length}
use Rattle.theory.specs.Tests.{pick}
use Rattle.theory.specs.Orders.{Rule, fix, equal}
use Rattle.column_masks.specs.Masks.{MaskOf}
use Rattle.arrows.specs.declared.Arrow.{Arrow}

-- What a rule gives: left columns and the column that they settle. A fix has one such arrow, an equal one each way. Where only equals are listed, a fix has none.
pub record ColumnArrow : Type 0 where
  pub from : List ℕ
  pub to : ℕ

abbrev pub column_arrow : List ℕ → ℕ → ColumnArrow
column_arrow l r = record { from = l; to = r }

abbrev pub arrows_of : Bool → Rule → List ColumnArrow
arrows_of only (fix l r) = pick only [] (column_arrow l r ∷ [])
arrows_of only (equal a b) = column_arrow (a ∷ []) b ∷ column_arrow (b ∷ []) a ∷ []

-- The arrow goes between the masks of the columns.
abbrev pub ArrowIs : ColumnArrow → Arrow → Type 0
ArrowIs columns arrow = MaskOf columns.from arrow.left × MaskOf (columns.to ∷ []) arrow.right

-- The arrows go between the masks of these columns, one after the other.
pub data Written : List ColumnArrow → List Arrow → Type 0 where
  no_arrow : Written [] []
  next_arrow : {columns : ColumnArrow} {arrow : Arrow} {xs : List ColumnArrow} {written : List Arrow} → ArrowIs columns arrow → Written xs written → Written (columns ∷ xs) (arrow ∷ written)

-- The arrows were written behind the others.
pub record Adding (xs : List ColumnArrow) (old new : List Arrow) : Type 0 where
  pub few : length new ≤ length old + length xs
  pub written : (before : List ColumnArrow) → Written before old → Written (before ++ xs) new

-- Arrows as masks, written one after the other.
use native.Mathlib.Omega.{arith}
use mathlib.Core.List.{List, [], ◌∷◌, ◌++◌, append-nil, append_assoc}
use lib.ListN.{length-append}
use Rattle.arrows.specs.declared.Arrow.{Arrow}
use Rattle.arrows.specs.Arrows.{ColumnArrow, ArrowIs, Written, no_arrow, next_arrow, Adding}

-- one arrow more
written_more : {xs : List ColumnArrow} {arrows : List Arrow} (columns : ColumnArrow) (arrow : Arrow) → Written xs arrows → ArrowIs columns arrow
    → Written (xs ++ (columns ∷ [])) (arrows ++ (arrow ∷ []))
written_more columns arrow no_arrow is = next_arrow is no_arrow
written_more columns arrow (next_arrow first rest) is = next_arrow first (written_more columns arrow rest is)

-- no arrow, one, and several after others
pub adding_none : (arrows : List Arrow) → Adding [] arrows arrows
adding_none arrows = record { few = omega arith; written = λ before w. rw append-nil w }

pub adding_one : (arrows : List Arrow) (columns : ColumnArrow) (arrow : Arrow) → ArrowIs columns arrow → Adding (columns ∷ []) arrows (arrows ++ (arrow ∷ []))
adding_one arrows columns arrow is = record { few = omega (arith, length-append arrows (arrow ∷ [])); written = λ before w. written_more columns arrow w is }

pub adding_more : {xs ys : List ColumnArrow} {first second third : List Arrow} → Adding xs first second → Adding ys second third → Adding (xs ++ ys) first third
adding_more {xs} {ys} v w =
    record {
      few = omega (arith, v.few, w.few, length-append xs ys);
      written = λ before k. rw append_assoc at (w.written (before ++ xs) (v.written before k));
    }

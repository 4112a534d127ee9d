-- Rules as arrows between masks: where a mask has all columns of an arrow's left one, it gets those of the right one. And what they settle and the classes of columns under them, as masks.
use Rattle.std.specs.Prelude.{ℕ, ◌<◌, ◌≡◌, true, get_or}
use mathlib.Core.List.{List, [], Memᴰ}
use Rattle.theory.specs.Tests.{Says, in_mask, Inside}
use Rattle.theory.specs.Orders.{Rule, fix, Same}
use Rattle.theory.specs.Settled.{Settled, one_class}
use Rattle.arrows.specs.declared.Arrow.{Arrow}

-- With all left columns of a fix the mask has the right one, and with one of two equal columns the other.
pub record ClosedMask (rs : List Rule) (m : ℕ) : Type 0 where
  pub fixes : (l : List ℕ) (r : ℕ) → Memᴰ (fix l r) rs → ((c : ℕ) → Memᴰ c l → in_mask m c ≡ true) → in_mask m r ≡ true
  pub equals : (a b : ℕ) → Same rs a b → in_mask m a ≡ true → in_mask m b ≡ true

-- The arrows stand for the rules: each gives only what its left columns settle, and a mask to which none adds anything is closed under the rules.
pub record StandFor (rs : List Rule) (arrows : List Arrow) : Type 0 where
  pub sound : (a : Arrow) → Memᴰ a arrows → (w : List ℕ) → ((c : ℕ) → in_mask a.left c ≡ true → Settled rs w c) → (c : ℕ) → in_mask a.right c ≡ true → Settled rs w c
  pub complete : (m : ℕ) → ((a : Arrow) → Memᴰ a arrows → Inside a.left m → Inside a.right m) → ClosedMask rs m

-- The mask has exactly the columns that the columns w settle.
abbrev pub SettledMask : List Rule → List ℕ → ℕ → Type 0
SettledMask rs w m = (c : ℕ) → Says (Settled rs w c) (in_mask m c)

-- Mask c has exactly the columns that are of one class with column c.
abbrev pub ClassesOf : List Rule → List ℕ → Type 0
ClassesOf rs classes = (c x : ℕ) → c < 16 → in_mask (get_or classes c 0) x ≡ one_class rs c x

-- What the test is given stands for the rules: the arrows, the mask of the columns that are settled from the start, before any entry, and the classes.
pub record Prepared (rs : List Rule) (arrows : List Arrow) (start : ℕ) (classes : List ℕ) : Type 0 where
  pub rules : StandFor rs arrows
  pub settled : SettledMask rs [] start
  pub classed : ClassesOf rs classes

-- What closing a mask promises: one arrow, one pass, and the closed mask.
use Rattle.std.specs.Prelude.{ℕ, ◌≡◌, true, eqb, List, [], ◌∷◌}
use mathlib.Core.List.{Memᴰ}
use Rattle.std.specs.Int.Bits.{bit_or}
use Rattle.theory.specs.Tests.{pick, in_mask}
use Rattle.theory.specs.Orders.{Rule}
use Rattle.theory.specs.Settled.{Settled}
use Rattle.arrows.specs.declared.Arrow.{Arrow}
use Rattle.closure.specs.RuleMasks.{StandFor, SettledMask}

-- An arrow is used: where the mask has all columns of the left one, it gets those of the right one.
abbrev pub used : Arrow → ℕ → ℕ
used a m = pick (eqb (bit_or m a.left) m) (bit_or m a.right) m

-- The arrows are used, one after the other.
abbrev pub pass : List Arrow → ℕ → ℕ
pass [] m = m
pass (a ∷ rest) m = pass rest (used a m)

-- Every column of the mask is settled by w.
abbrev pub Sound : List Rule → List ℕ → ℕ → Type 0
Sound rs w m = (c : ℕ) → in_mask m c ≡ true → Settled rs w c

-- Where the mask m has all of w, and only what w settles, the mask r has exactly the columns that w settles under the rules for which the arrows stand.
abbrev pub Closes : List Arrow → ℕ → ℕ → Type 0
Closes arrows m r = (rs : List Rule) (w : List ℕ) → StandFor rs arrows → Sound rs w m → ((c : ℕ) → Memᴰ c w → in_mask m c ≡ true) → SettledMask rs w r

-- What a definition by `pick` is, from the tests that led to a `return`: the set `picks` goes down to the value that was picked.
use mathlib.Core.Path.{_≡_, refl}
use mathlib.Core.Bool.{Bool, true, false, _||_}
use borrow.Author.Tests.{lt-ltb, le-ltb, le-leb, lt-leb, eq-eqb, ne-eqb}
use Rattle·theory·specs.specs.Tests.{pick}

module _ {A : Type 0} where
  pub pick-yes : {t : Bool} {x z : A} (y : A) → t ≡ true → z ≡ x → z ≡ pick t x y
  pick-yes y e h = rw e h

  pub pick-no : {t : Bool} {y z : A} (x : A) → t ≡ false → z ≡ y → z ≡ pick t x y
  pick-no x e h = rw e h

pub or-first : {a : Bool} (b : Bool) → a ≡ true → (a || b) ≡ true
or-first b e = rw e

pub or-second : (a : Bool) {b : Bool} → b ≡ true → (a || b) ≡ true
or-second true e = refl
or-second false e = e

pub or-none : {a b : Bool} → a ≡ false → b ≡ false → (a || b) ≡ false
or-none e h = rw e h

pub ruleset picks = (pick-yes, pick-no, refl, or-first, or-second, or-none, lt-ltb, le-ltb, le-leb, lt-leb, eq-eqb, ne-eqb)

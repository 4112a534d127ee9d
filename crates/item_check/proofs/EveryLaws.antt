-- A test of every element, as the library and as the theory say it.
use mathlib.Core.Path.{◌≡◌, refl, ap}
use mathlib.Core.Bool.{Bool, ◌&&◌}
use mathlib.Core.List.{List, [], ◌∷◌}
use Rattle.std.specs.List.{list_all}
use Rattle.theory.specs.Tests.{every}

pub every_all : {A : Type 0} (test : A → Bool) (l : List A) → list_all test l ≡ every test l
every_all test [] = refl
every_all test (x ∷ xs) = ap (λ b. test x && b) (every_all test xs)

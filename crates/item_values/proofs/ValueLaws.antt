-- A fix's columns.
use Prim.Native.Nat.{ℕ, zero, suc, ◌+◌}
use native.Mathlib.Numerals.{add-one}
use mathlib.Core.Path.{◌≡◌, refl}
use mathlib.Core.List.{[], ◌∷◌, ◌++◌}
use lib.ListN.{take, get_or}
use Rattle.item_values.specs.Values.{bytes_code}

-- The first columns and the one behind them are one more of the first columns; of five, four count.
pub fix_columns : (n a b c d : ℕ) → bytes_code (take (n + 1) (a ∷ b ∷ c ∷ d ∷ [])) ≡ bytes_code (take n (a ∷ b ∷ c ∷ d ∷ []) ++ (get_or (a ∷ b ∷ c ∷ d ∷ []) n 0 ∷ []))
fix_columns n a b c d = rw add-one (go n)
  where
    go : (n : ℕ) → bytes_code (take (suc n) (a ∷ b ∷ c ∷ d ∷ [])) ≡ bytes_code (take n (a ∷ b ∷ c ∷ d ∷ []) ++ (get_or (a ∷ b ∷ c ∷ d ∷ []) n 0 ∷ []))
    go zero = refl
    go (suc zero) = refl
    go (suc (suc zero)) = refl
    go (suc (suc (suc zero))) = refl
    go (suc (suc (suc (suc n)))) = refl

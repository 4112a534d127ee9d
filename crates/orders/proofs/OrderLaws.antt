-- Beginnings of orders.
use Prim.Native.Nat.{ℕ, ◌<◌, ◌≤◌, min}
use native.Mathlib.Omega.{arith}
use mathlib.Core.Path.{◌≡◌, sym, ◌∙◌}
use mathlib.Core.List.{List, [], ◌∷◌}
use lib.ListN.{length, take, get_or, length-take, length-map}
use lib.Seq.{get_or-take, ext_get_or, take_all}
use Rattle.theory.specs.Orders.{Order, column, columns}
use Rattle.theory.proofs.EntryLaws.{column_at}

-- an entry of a beginning is the entry there
pub get_d_within : (n : ℕ) (l : List ℕ) (i : ℕ) → i < length (take n l) → get_or (take n l) i 0 ≡ get_or l i 0
get_d_within n l i h = get_or-take n l i 0 (omega (arith, length-take n l))

-- four entries read from a list, and as many of them as the list has, are its beginning
pub four : (l : List ℕ) (n : ℕ) → n ≡ min 4 (length l) → take n (get_or l 0 0 ∷ get_or l 1 0 ∷ get_or l 2 0 ∷ get_or l 3 0 ∷ []) ≡ take 4 l
four [] n e = rw e
four (a ∷ []) n e = rw e
four (a ∷ b ∷ []) n e = rw e
four (a ∷ b ∷ c ∷ []) n e = rw e
four (a ∷ b ∷ c ∷ d ∷ l) n e = let h : n ≡ 4 = omega arith in rw h

-- the first n entries of a beginning: as many as there are, from the front
pub front_of : (m n k : ℕ) (l : List ℕ) → m ≡ min n (length (take k l)) → take m l ≡ take n (take k l)
front_of m n k l e =
    ext_get_or 0 (take m l) (take n (take k l)) (simp length-take (omega (arith, length-take k l)))
    (λ i h. let below : i < m = omega (arith, length-take m l) in
    get_or-take m l i 0 below ∙ sym (get_or-take n (take k l) i 0 (omega arith) ∙ get_or-take k l i 0 (omega (arith, length-take k l))))

-- the columns of at most four entries, read one by one
pub four_columns : (o : Order) (n : ℕ) → n ≡ length o → n ≤ 4
    → take n (column (get_or o 0 0) ∷ column (get_or o 1 0) ∷ column (get_or o 2 0) ∷ column (get_or o 3 0) ∷ []) ≡ columns o
four_columns o n e h =
    rw (← column_at o 0, ← column_at o 1, ← column_at o 2, ← column_at o 3)
    (four (columns o) n (omega (arith, length-map o column)) ∙ take_all 4 (columns o) (omega (arith, length-map o column)))

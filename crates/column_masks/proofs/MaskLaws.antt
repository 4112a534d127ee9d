-- Masks as sets of columns: the mask of the columns of a list.
use Prim.Native.Nat.{ℕ, ◌+◌, ◌^◌, ◌<◌}
use native.Mathlib.Nat.{zero-div}
use native.Mathlib.Omega.{arith}
use mathlib.Core.Path.{◌≡◌, refl, sym, ◌∙◌, subst}
use mathlib.Core.Bool.{Bool, true, true≢false}
use mathlib.Core.Logic.{⊎_elim}
use mathlib.Core.List.Memᴰ
use mathlib.Core.List.{List, [], ◌∷◌, ◌++◌, Memᴰ}
use lib.Bits.{bit_or, or_zero_l}
use lib.ListN.{length, take, get_or}
use Rattle.theory.specs.Tests.{Says, fails, in_mask}
use Rattle.theory.specs.Orders.{Order, column, columns}
use Rattle.theory.specs.Refusals.{passed}
use Rattle.theory.specs.Query.{Bytes, order_count, order_at, query_refusal}
use Rattle.theory.proofs.Reflect.{says_true, true_says, says_by}
use Rattle.theory.proofs.ListLaws.{member_get_d}
use Rattle.theory.proofs.RowLaws.{all_cons}
use Rattle.theory.proofs.RangeLaws.{take_more}
use Rattle.theory.proofs.PassedLaws.{query_passed}
use Rattle.theory.proofs.BitLaws.{raised_has, raised_keeps, raised_only}
use Rattle.column_masks.specs.Masks.{Narrow, MaskOf}

-- a test that is passed exactly where P holds
pub says_both : {P : Type 0} (b : Bool) → (b ≡ true → P) → (P → b ≡ true) → Says P b
says_both b f g = says_by b f (λ e p. true≢false (sym (g p) ∙ e))

-- the masks of no column, of one, and of one more
pub mask_none : MaskOf [] 0
mask_none c = rw zero-div (fails Memᴰ.not-nil)

mask_more : {l : List ℕ} (m c : ℕ) → MaskOf l m → MaskOf (l ++ (c ∷ [])) (bit_or m (2 ^ c))
mask_more {l} m c s d =
    says_both (in_mask (bit_or m (2 ^ c)) d)
    (λ e. ⊎_elim (λ i. Memᴰ.append_right l (Memᴰ.head i)) (λ i. Memᴰ.append_left (c ∷ []) (says_true (s d) i)) (raised_only m c d e))
    (λ k. ⊎_elim (λ i. raised_keeps m c d (true_says (s d) i)) (λ i. let same : d ≡ c = Memᴰ.eq_of_singleton i in rw same (raised_has m c)) (Memᴰ.append_cases l k))

pub mask_one : (c : ℕ) → MaskOf (c ∷ []) (2 ^ c)
mask_one c = subst (MaskOf (c ∷ [])) (or_zero_l (2 ^ c)) (mask_more 0 c mask_none)

-- the next column of a list
pub mask_next : (l : List ℕ) (i m : ℕ) → i < length l → MaskOf (take i l) m → MaskOf (take (i + 1) l) (bit_or m (2 ^ get_or l i 0))
mask_next l i m h s = rw (take_more l i 0) (mask_more m (get_or l i 0) s)

-- a mask has room for each column of a narrow list
pub narrow_at : (l : List ℕ) (i : ℕ) → Narrow l → i < length l → get_or l i 0 < 16
narrow_at l i n h = n (get_or l i 0) (member_get_d l i 0 h)

-- and for the column of each entry of an order
pub column_narrow : (o : Order) (i : ℕ) → Narrow (columns o) → i < length o → column (get_or o i 0) < 16
column_narrow o i n h = n (column (get_or o i 0)) (Memᴰ.map column (member_get_d o i 0 h))

-- two columns, the other way round
pub narrow_swap : (a b : ℕ) → Narrow (a ∷ b ∷ []) → Narrow (b ∷ a ∷ [])
narrow_swap a b n =
    all_cons {P = λ c. c < 16} (n b (Memᴰ.tail (Memᴰ.head refl))) (λ c k. n c (Memᴰ.head (Memᴰ.eq_of_singleton k)))

-- a mask has room for the columns of each order of a query that passes checks 1 to 6
pub order_narrow : (b : Bytes) → query_refusal b ≡ passed → (i : ℕ) (o : Order) → o ≡ order_at b i → i < order_count b → Narrow (columns o)
order_narrow b e i o same h c m =
    let p = query_passed b e in
    let l = (p.order i h).columns.below c (subst (λ k. Memᴰ c (columns k)) same m) in
    omega (arith, l, p.sized.few_columns)

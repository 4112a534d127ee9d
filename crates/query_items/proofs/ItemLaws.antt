-- The cases of an item's answer, and that its value lies below the unit, so that the number's two parts can be read from it.
use Prim.Native.Nat.{ℕ, zero, suc, ◌+◌, ◌/◌, ◌%◌, ◌<◌, ◌≤◌}
use native.Mathlib.Omega.{arith}
use mathlib.Core.Path.{◌≡◌, refl}
use mathlib.Core.Bool.{Bool}
use mathlib.Core.List.Memᴰ
use mathlib.Core.List.{List, [], ◌∷◌, Memᴰ}
use lib.ListN.{take, get_or, length-take}
use borrow.Author.Tests.{ne_eqb, lt-ltb, le-ltb}
use Rattle.theory.specs.Tests.{pick, Says, holds, fails}
use Rattle.theory.specs.Limits.{equal_kind}
use Rattle.theory.specs.Orders.{column, Rule, fix, equal, columns_of}
use Rattle.theory.specs.Refusals.{passed, handle_refused}
use Rattle.theory.specs.Query.{Bytes, byte_at, dependency_count, order_count, kind_of, head_at, body_at, rule_of, order_at, dependency_at, query_refusal}
use Rattle.theory.specs.Table.{grant, refuse}
use Rattle.theory.proofs.Reflect.{says_eqb, says_ltb}
use Rattle.theory.proofs.EntryLaws.{entry_within}
use Rattle.theory.proofs.RowLaws.{all_cons, all_append}
use Rattle.theory.proofs.PassedLaws.{query_passed}
use Rattle.item_values.specs.Values.{bytes_code, order_code, kind_code, rule_columns, dependency_code}
use Rattle.query_items.specs.Items.{item_unit, item_code, item_answer, order_item, order_item_code, dependency_item, dependency_item_code}

module _ (query : Bytes) (count i value : ℕ) where
  -- the query is refused, the item is not there, or it is
  pub query_refuses : {n : ℕ} → n ≡ query_refusal query → (n ≡ passed → ⊥) → refuse n ≡ item_answer query count i value
  unfolding item_answer
  query_refuses {n} e f = rw (← e, ne_eqb n passed f)

  pub item_missing : passed ≡ query_refusal query → count ≤ i → refuse handle_refused ≡ item_answer query count i value
  unfolding item_answer
  item_missing e h = rw (← e, le-ltb i count h)

  pub item_there : passed ≡ query_refusal query → i < count → grant value ≡ item_answer query count i value
  unfolding item_answer
  item_there e h = rw (← e, lt-ltb i count h)

  -- a value below the unit and its refusal are the remainder and the quotient
  pub item_read : (query_refusal query ≡ passed → i < count → value < item_unit) →
      (item_code (item_answer query count i value) / item_unit ≡ (item_answer query count i value).refusal) × (item_code (item_answer query count i value) % item_unit ≡ (item_answer query count i value).value)
  unfolding item_answer
  item_read fits = go (says_eqb (query_refusal query) passed) (says_ltb i count)
    where
      go : {a b : Bool} → Says (query_refusal query ≡ passed) a → Says (i < count) b →
          let answer = pick a (pick b (grant value) (refuse handle_refused)) (refuse (query_refusal query)) in
          (item_code answer / item_unit ≡ answer.refusal) × (item_code answer % item_unit ≡ answer.value)
      go (holds e) (holds h) = let f = fits e h in (omega arith, omega arith)
      go (holds e) (fails h) = (omega arith, omega arith)
      go (fails e) s = (omega arith, omega arith)

-- every entry is a byte, and so is the 0 past the end
entry_byte : (l : List ℕ) → ((c : ℕ) → Memᴰ c l → c < 256) → (i : ℕ) → get_or l i 0 < 256
entry_byte [] h i = omega arith
entry_byte (x ∷ l) h zero = h x (Memᴰ.head refl)
entry_byte (x ∷ l) h (suc i) = entry_byte l (λ c m. h c (Memᴰ.tail m)) i

-- four bytes
bytes_fit : (l : List ℕ) → ((c : ℕ) → Memᴰ c l → c < 256) → bytes_code l < 4294967296
bytes_fit l h = let byte = entry_byte l h in omega (arith, byte 0, byte 1, byte 2, byte 3)

-- an order of a query that passes checks 1 to 6 takes 40 bits
pub order_value_fits : (query : Bytes) (i : ℕ) → query_refusal query ≡ passed → i < order_count query → order_code (order_at query i) < 1099511627776
unfolding order_code
order_value_fits query i e h =
    let p = query_passed query e in
    let f = p.order i h in
    omega (arith, f.short, f.long, bytes_fit (order_at query i) (λ e m. omega (arith, entry_within e, f.columns.below (column e) (Memᴰ.map column m), p.sized.few_columns)))

-- a rule's columns in their sequence are those that it names
rule_bytes : (r : Rule) → ((c : ℕ) → Memᴰ c (columns_of r) → c < 256) → (c : ℕ) → Memᴰ c (rule_columns r) → c < 256
rule_bytes (fix l r) h = all_append l (λ c m. h c (Memᴰ.tail m)) (all_cons (h r (Memᴰ.head refl)) (λ c m. absurd (Memᴰ.not-nil m)))
rule_bytes (equal a b) h = h

kind_fits : (kind : ℕ) (body : Bytes) → kind ≤ equal_kind → kind_code (rule_of kind body) ≤ equal_kind
kind_fits kind body h = go (says_eqb kind equal_kind)
  where
    go : {t : Bool} → Says (kind ≡ equal_kind) t → kind_code (pick t (equal (byte_at body 0) (byte_at body 1)) (fix (take kind body) (byte_at body kind))) ≤ equal_kind
    go (holds e) = omega arith
    go (fails e) = omega (arith, length-take kind body)

-- and a dependency 48
pub dependency_value_fits : (query : Bytes) (i : ℕ) → query_refusal query ≡ passed → i < dependency_count query → dependency_code (dependency_at query (order_count query + i)) < item_unit
unfolding dependency_code
dependency_value_fits query i e h =
    let at = order_count query + i in
    let p = query_passed query e in
    let f = p.dependency at (omega arith) (omega arith) in
    let rule = rule_of (kind_of (head_at query at)) (body_at query at) in
    let columns = bytes_fit (rule_columns rule) (rule_bytes rule (λ c m. omega (arith, f.columns.below c m, p.sized.few_columns))) in
    omega (arith, f.set, p.sized.few_sets, kind_fits (kind_of (head_at query at)) (body_at query at) f.kind, columns)

-- so both numbers say their refusal and their value
pub order_item_read : (query : Bytes) (i : ℕ) → (order_item_code query i / item_unit ≡ (order_item query i).refusal) × (order_item_code query i % item_unit ≡ (order_item query i).value)
order_item_read query i = item_read query (order_count query) i (order_code (order_at query i)) (λ e h. omega (arith, order_value_fits query i e h))

pub dependency_item_read : (query : Bytes) (i : ℕ) → (dependency_item_code query i / item_unit ≡ (dependency_item query i).refusal) × (dependency_item_code query i % item_unit ≡ (dependency_item query i).value)
dependency_item_read query i = item_read query (dependency_count query) i (dependency_code (dependency_at query (order_count query + i))) (dependency_value_fits query i)

-- The numbers of a query's orders and dependencies.
use Rattle.std.specs.Prelude.{ℕ, ◌+◌, ◌*◌, eqb, ltb}
use Rattle.theory.specs.Tests.{pick}
use Rattle.theory.specs.Refusals.{passed, handle_refused}
use Rattle.theory.specs.Query.{Bytes, dependency_count, order_count, order_at, dependency_at, query_refusal}
use Rattle.theory.specs.Table.{Answer, grant, refuse}
use Rattle.item_values.specs.Values.{order_code, dependency_code}

-- An item of a query: the refusal's number in the highest 16 of 64 bits, plus the value, which is 0 on refusal.
abbrev pub item_unit : ℕ
item_unit = 281474976710656

abbrev pub item_code : Answer → ℕ
item_code a = a.refusal * item_unit + a.value

-- The answer for the item i of so many that has this value: the query's checks 1 to 6, then 10 where i is not below their count.
unfoldable pub item_answer : Bytes → ℕ → ℕ → ℕ → Answer
item_answer query count i value =
    pick (eqb (query_refusal query) passed) (pick (ltb i count) (grant value) (refuse handle_refused)) (refuse (query_refusal query))

-- Interesting order i and dependency i of whatever bytes.
abbrev pub order_item : Bytes → ℕ → Answer
order_item query i = item_answer query (order_count query) i (order_code (order_at query i))

abbrev pub dependency_item : Bytes → ℕ → Answer
dependency_item query i = item_answer query (dependency_count query) i (dependency_code (dependency_at query (order_count query + i)))

abbrev pub order_item_code : Bytes → ℕ → ℕ
order_item_code query i = item_code (order_item query i)

abbrev pub dependency_item_code : Bytes → ℕ → ℕ
dependency_item_code query i = item_code (dependency_item query i)

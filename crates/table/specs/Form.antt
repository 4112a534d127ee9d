-- A table whose form passes the checks 1, 2, 1, and the refusal 11 of a run of state numbers.
use Rattle.std.specs.Prelude.{ℕ, ◌+◌, ◌*◌, ◌≤◌, ◌≡◌, eqb, ltb, length}
use Rattle.theory.specs.Tests.{pick}
use Rattle.theory.specs.Limits.{max_states, max_produced, max_tested, max_sets, table_sizes, held_width}
use Rattle.theory.specs.Refusals.{passed, length_refused, size_refused, first_of}
use Rattle.theory.specs.Query.{Bytes, byte_at, outside}
use Rattle.theory.specs.Table.{states_in, produced_in, tested_in, sets_in, table_length, state_refusal}

-- The sizes are there, each within its limits, and the bytes are as many as they imply.
pub record Formed (t : Bytes) : Type 0 where
  pub long : table_sizes ≤ length t
  pub some_states : 1 ≤ states_in t
  pub few_states : states_in t ≤ max_states
  pub some_produced : 1 ≤ produced_in t
  pub few_produced : produced_in t ≤ max_produced
  pub few_tested : tested_in t ≤ max_tested
  pub few_sets : sets_in t ≤ max_sets
  pub total : length t ≡ table_length t

-- The checks 2 and 1 on the sizes Q, P, T, S and the number of bytes.
unfoldable pub table_sizes_refusal : ℕ → ℕ → ℕ → ℕ → ℕ → ℕ
table_sizes_refusal q p t s total =
    pick (outside 1 max_states q) size_refused
    (pick (outside 1 max_produced p) size_refused
    (pick (ltb max_tested t) size_refused
    (pick (ltb max_sets s) size_refused (pick (eqb total (table_sizes + p + q * s + q * held_width)) passed length_refused))))

-- Refusal 11 of state numbers, one after the other: the starts and the successors are two such runs.
unfoldable pub run_refusal : Bytes → Bytes → ℕ
run_refusal t run = first_of (λ i. state_refusal t (byte_at run i)) (length run)

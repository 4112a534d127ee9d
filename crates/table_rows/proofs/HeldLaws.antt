-- The rows' held words, written one behind the other in the place of the rows' pairs.
use Prim.Native.Nat.{ℕ, ◌+◌, ◌*◌, ◌<◌, ◌≤◌}
use native.Mathlib.Nat.{zero-add}
use native.Mathlib.Omega.{arith}
use mathlib.Core.Path.{◌≡◌, sym, ◌∙◌, ap, ap₂}
use mathlib.Core.List.Memᴰ
use mathlib.Core.List.{map, Memᴰ, flatten}
use lib.ListN.{length, take}
use Rattle.theory.specs.Tests.{up_from}
use Rattle.theory.specs.Limits.{max_states, held_width}
use Rattle.theory.specs.AnswerTree.{held_now}
use Rattle.theory.specs.Query.{Bytes, byte_at}
use Rattle.theory.specs.Scratch.{held_part, work_length}
use Rattle.theory.specs.Table.{held_bytes}
use Rattle.theory.proofs.RowLaws.{flatten_length}
use Rattle.theory.proofs.RangeLaws.{entry_count, flatten_more}
use Rattle.theory.specs.Placed.{placed}
use Rattle.theory.proofs.PlacedLaws.{placed_none, placed_length, placed_more, part_before, byte_behind}
use Rattle.open_sets.specs.Open.{state_of}
use Rattle.row_pairs.specs.RowPairs.{row_place}
use Rattle.row_search.specs.RowStates.{row_state}
use Rattle.table_rows.specs.Walk.{held_row}

module _ (bits sets : ℕ) (work : Bytes) where
  -- the held bytes of the first n rows, and the scratch with them
  abbrev pub held_rows : ℕ → Bytes
  held_rows n = flatten (map (held_row bits sets work) (up_from 0 n))

  abbrev pub holding : ℕ → Bytes
  holding n = placed held_part (held_rows n) work

  -- each row has two bytes
  pub held_length : (n : ℕ) → length (held_rows n) ≡ n * held_width
  held_length n = flatten_length held_width (map (held_row bits sets work) (up_from 0 n)) wide ∙ ap (λ k. k * held_width) (entry_count (held_row bits sets work) 0 n)
    where
      wide : (r : Bytes) → Memᴰ r (map (held_row bits sets work) (up_from 0 n)) → length r ≡ held_width
      wide r m = let t = Memᴰ.of_map (held_row bits sets work) (up_from 0 n) m in ap length (sym t.2)

  pub holding_none : work ≡ holding 0
  unfolding flatten
  holding_none = placed_none work held_part

  module _ (i : ℕ) (long : work_length ≤ length work) where
    -- no byte is added
    pub holding_length : i ≤ max_states → length (holding i) ≡ length work
    holding_length h = placed_length held_part (held_rows i) work (omega (arith, held_length i))

    -- row i's pair is still there
    pub order_kept : byte_at (holding i) (row_place i) ≡ byte_at work (row_place i)
    order_kept = byte_behind (row_place i) held_part (held_rows i) work (omega (arith, held_length i)) (omega arith)

    pub choice_kept : byte_at (holding i) (row_place i + 1) ≡ byte_at work (row_place i + 1)
    choice_kept = byte_behind (row_place i + 1) held_part (held_rows i) work (omega (arith, held_length i)) (omega arith)

    row_kept : row_state bits sets (holding i) i ≡ row_state bits sets work i
    row_kept =
        ap (λ w. state_of bits sets w (byte_at (holding i) (row_place i)) (byte_at (holding i) (row_place i + 1))) (part_before 0 held_part held_part (held_rows i) work (omega arith) (omega arith))
        ∙ ap₂ (state_of bits sets (take held_part work)) order_kept choice_kept

    -- its held bytes come behind those of the rows before
    pub holding_more : i < max_states → placed (row_place i) (held_row bits sets (holding i) i) (holding i) ≡ holding (i + 1)
    holding_more h =
        ap (λ x. placed (row_place i) (held_bytes (held_now x)) (holding i)) row_kept
        ∙ placed_more held_part (row_place i) (held_rows i) (held_row bits sets work i) work (omega (arith, held_length i)) (omega arith)
        ∙ ap (λ b. placed held_part b work) (sym (flatten_more (held_row bits sets work) 0 i i (sym (zero-add i))))

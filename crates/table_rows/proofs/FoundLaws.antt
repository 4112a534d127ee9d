-- All rows are visited and have their held words: the scratch has the table. And where the walk found more than 128, the table has more.
use Prim.Native.Nat.{ℕ, ◌+◌, ◌*◌, ◌<◌, ◌≤◌}
use native.Mathlib.Nat.{mul-le-mul}
use native.Mathlib.Omega.{arith}
use mathlib.Core.Path.{◌≡◌, sym, ◌∙◌, ap, subst}
use mathlib.Core.List.{map, map-map, flatten}
use lib.ListN.{length, take, drop, get_or, length-take, length-drop}
use lib.Seq.{get_or-take, get_or-drop, ext_get_or}
use Rattle.theory.specs.Tests.{up_from}
use Rattle.theory.specs.Limits.{max_produced, max_sets, max_states, held_width}
use Rattle.theory.specs.Machine.{Sizes}
use Rattle.theory.specs.AnswerTree.{held_now}
use Rattle.theory.specs.Query.{Bytes, byte_at}
use Rattle.theory.specs.Scratch.{held_part, successors_part, starts_part, work_length, Stored, rows_table}
use Rattle.theory.specs.Table.{held_bytes, table_of, walked_table}
use Rattle.theory.proofs.RowLaws.{flatten_length}
use Rattle.theory.proofs.MachineTable as table
use Rattle.theory.proofs.PlacedLaws.{part_behind, part_placed}
use Rattle.row_search.specs.RowStates.{row_state, row_states}
use Rattle.row_search.proofs.FindLaws.{rows_count}
use Rattle.table_rows.specs.Rows.{RowsStored}
use Rattle.table_rows.specs.Walk.{machine_of, states_of, RowsVisited}
use Rattle.table_rows.proofs.WalkLaws.{visited_all}
use Rattle.table_rows.proofs.WordTables.{rows_front}
use Rattle.table_rows.proofs.HeldLaws.{held_rows, holding, held_length, holding_length}

-- bytes that are a list's entries, one after the other from a place on, are the list
part_reads : (at n : ℕ) (work l : Bytes) → at + n ≤ length work → length l ≡ n → ((i : ℕ) → i < n → byte_at work (at + i) ≡ get_or l i 0) → take n (drop at work) ≡ l
part_reads at n work l h e each =
    let long : length (take n (drop at work)) ≡ n = simp (length-take, length-drop) (omega arith) in
    ext_get_or 0 (take n (drop at work)) l (long ∙ sym e)
    (λ i b. let low : i < n = omega arith in get_or-take n (drop at work) i 0 low ∙ get_or-drop at work i 0 ∙ each i low)

module _ (z : Sizes) (words work : Bytes) (count : ℕ) (v : RowsVisited z words work count count) where
  abbrev bits : ℕ
  bits = z.produced + z.tested

  -- the count of rows is the table's
  pub found_count : count ≡ (rows_table z words).state_count
  unfolding walked_table table_of
  found_count = sym (ap length (visited_all z words v) ∙ rows_count bits z.sets work count)

  -- the rows' held words, end to end, are the table's
  held_words : flatten (map held_bytes (rows_table z words).held) ≡ held_rows bits z.sets work count
  unfolding walked_table table_of
  held_words =
      ap (λ xs. flatten (map held_bytes (map held_now xs))) (visited_all z words v)
      ∙ ap flatten (map-map held_bytes held_now (row_states bits z.sets work count) ∙ map-map (λ x. held_bytes (held_now x)) (row_state bits z.sets work) (up_from 0 count))

  module _ (long : work_length ≤ length work) (few : z.produced ≤ max_produced) (small : z.sets ≤ max_sets) where
    abbrev after : Bytes
    after = holding bits z.sets work count

    successors_count : length (flatten (rows_table z words).successors) ≡ count * z.sets
    unfolding walked_table
    successors_count =
        let m = machine_of z words in
        flatten_length z.sets (rows_table z words).successors (table.row_width m z (states_of z words))
        ∙ ap (λ n. n * z.sets) (table.rows_count m z (states_of z words) ∙ ap length (visited_all z words v) ∙ rows_count bits z.sets work count)

    -- each part of the scratch is the table's
    starts_kept : take z.produced (drop starts_part after) ≡ (rows_table z words).starts
    unfolding walked_table
    starts_kept =
        part_behind starts_part z.produced held_part (held_rows bits z.sets work count) work (omega (arith, held_length bits z.sets work count, v.pairs.few)) (omega arith)
        ∙ part_reads starts_part z.produced work (rows_table z words).starts (omega arith) (table.starts_count (machine_of z words) z (states_of z words)) v.starts

    successors_kept : take (count * z.sets) (drop successors_part after) ≡ flatten (rows_table z words).successors
    successors_kept =
        let low : count * z.sets ≤ 128 * 8 = mul-le-mul {n₂ = 128} v.pairs.few small in
        part_behind successors_part (count * z.sets) held_part (held_rows bits z.sets work count) work (omega (arith, held_length bits z.sets work count, v.pairs.few)) (omega arith)
        ∙ part_reads successors_part (count * z.sets) work (flatten (rows_table z words).successors) (omega arith) successors_count v.successors

    held_kept : take (count * held_width) (drop held_part after) ≡ flatten (map held_bytes (rows_table z words).held)
    held_kept = part_placed held_part (count * held_width) (held_rows bits z.sets work count) work (held_length bits z.sets work count) (omega arith) ∙ sym held_words

    pub found_stored : Stored (rows_table z words) after
    unfolding walked_table table_of
    found_stored =
        record {
          long = omega (arith, holding_length bits z.sets work count long v.pairs.few);
          starts = starts_kept;
          successors = subst (λ n. take (n * z.sets) (drop successors_part after) ≡ flatten (rows_table z words).successors) found_count successors_kept;
          held = subst (λ n. take (n * held_width) (drop held_part after) ≡ flatten (map held_bytes (rows_table z words).held)) found_count held_kept;
        }

module _ (z : Sizes) (before : Bytes) (few : z.produced ≤ max_produced) (small : z.sets ≤ max_sets) where
  -- what the walk leaves where there is no room, and with the held words where there is
  pub rows_over : max_states < length (states_of z (take held_part before)) → max_states < (rows_table z before).state_count
  unfolding walked_table table_of
  rows_over more = subst (λ t. max_states < t.state_count) (rows_front z before few small) more

  pub rows_found : (work : Bytes) (count : ℕ) → RowsVisited z (take held_part before) work count count → work_length ≤ length work →
      RowsStored z before (holding (z.produced + z.tested) z.sets work count) count
  rows_found work count v long =
      let words = take held_part before in
      let front = rows_front z before few small in
      record {
        few = v.pairs.few;
        all = found_count z words work count v ∙ ap (λ t. t.state_count) front;
        stored = subst (λ t. Stored t (holding (z.produced + z.tested) z.sets work count)) front (found_stored z words work count v long few small);
      }

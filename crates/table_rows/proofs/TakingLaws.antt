-- One row's visit as the scratch has it: it takes the sets one after the other, and each successor is numbered and written.
use Prim.Native.Nat.{ℕ, suc, ◌+◌, ◌*◌, ◌-◌, ◌^◌, ◌<◌, ◌≤◌}
use native.Mathlib.Nat.{add-zero, sub-zero, suc-mul}
use native.Mathlib.Numerals.{add-one}
use native.Mathlib.Omega.{arith}
use mathlib.Core.Path.{◌≡◌, sym, ◌∙◌, ap, ap₂, subst}
use mathlib.Core.List.{List, [], map, IsPrefix, flatten}
use lib.Bits.{bit_or}
use Rattle.std.specs.Prelude.{Some, None}
use lib.ListN.{length, take, get_or, set}
use Rattle.theory.specs.Tests.{position, up_from}
use Rattle.theory.specs.Limits.{max_sets, max_states}
use Rattle.theory.specs.NumberingWalk.{add_all}
use Rattle.theory.specs.Machine.{Sizes}
use Rattle.theory.specs.AnswerTree.{AnswerTree, take_tree, same_tree}
use Rattle.theory.specs.Query.{Bytes, byte_at}
use Rattle.theory.specs.Scratch.{held_part, successors_part, work_length, rows_table}
use Rattle.theory.specs.Table.{walked_table}
use Rattle.theory.proofs.ListLaws.{prefix_get_d, prefix_length}
use Rattle.theory.proofs.RowLaws.{entry_of_flatten}
use Rattle.theory.proofs.WalkLaws.{walk_more}
use Rattle.theory.proofs.MachineTable as table
use Rattle.open_sets.specs.Open.{state_of}
use Rattle.open_sets.proofs.StateLaws.{state_next}
use Rattle.row_pairs.specs.RowPairs.{row_place}
use Rattle.row_search.specs.RowStates.{row_state, row_states}
use Rattle.row_search.proofs.FindLaws.{rows_count, rows_at}
use Rattle.table_rows.specs.declared.numbered.RowNumber.{RowNumber}
use Rattle.table_rows.specs.Walk.{Numbering, machine_of, states_of, walk_on, RowsVisited, Visiting, Taking, Walked}
use Rattle.table_rows.proofs.WalkLaws.{slot_bound, ahead_prefix, joined, joined_number, joined_over, stored_successor}

module _ (z : Sizes) (words : Bytes) where
  abbrev bits : ℕ
  bits = z.produced + z.tested

  abbrev all : List AnswerTree
  all = states_of z words

  -- Row i is the next to be visited.
  module _ {work : Bytes} {count i : ℕ} (v : RowsVisited z words work count i) (h : i < count) where
    abbrev rows : List AnswerTree
    rows = row_states bits z.sets work count

    -- the rows are a beginning of all states
    long : length rows ≡ count
    long = rows_count bits z.sets work count

    begun_rows : IsPrefix rows all
    begun_rows = ahead_prefix z words rows [] (suc max_states - i) i v.ahead

    -- the walk visits the state of row i
    visiting_none : (x : AnswerTree) → row_state bits z.sets work i ≡ x → Visiting z words work count x i 0
    visiting_none x e =
        let few = v.pairs.few in
        let fuel : suc max_states - i ≡ suc (max_states - i) = omega arith in
        let visit = walk_more same_tree (λ y. map (take_tree y) (up_from 0 z.sets)) max_states (max_states - i) rows i x (omega (arith, long)) (omega (arith, long)) in
        record {
          pairs = v.pairs;
          wholes = v.wholes;
          first = v.first;
          ahead = v.ahead ∙ ap (λ f. walk_on z f rows i) fuel ∙ visit
              ∙ ap (λ y. walk_on z (max_states - i) (add_all same_tree rows (map (take_tree y) (up_from 0 z.sets))) (suc i)) (rows_at bits z.sets work count i x h ∙ e)
              ∙ ap (λ n. walk_on z (max_states - i) (add_all same_tree rows (map (take_tree x) (up_from 0 n))) (suc i)) (sym (sub-zero z.sets));
          starts = v.starts;
          successors = rw add-zero v.successors;
        }

    -- the pair that gives row i has taken no set yet
    pub taking_none : {p m : ℕ} → p ≡ byte_at work (row_place i) → m ≡ byte_at work (row_place i + 1) → Taking z words work count i p m 0
    taking_none {p} {m} order choice =
        let x = state_of bits z.sets words p m in
        let e : row_state bits z.sets work i ≡ x = ap (λ w. state_of bits z.sets w (byte_at work (row_place i)) (byte_at work (row_place i + 1))) v.first ∙ ap₂ (state_of bits z.sets words) (sym order) (sym choice) in
        record {
          order = omega (arith, v.wholes.own i h);
          choice = omega (arith, v.pairs.choices i h);
          within = h;
          row = omega (arith, long, prefix_length rows begun_rows);
          state = prefix_get_d rows begun_rows i x (omega (arith, long)) ∙ rows_at bits z.sets work count i x h ∙ e;
          visiting = visiting_none x e;
        }

  -- Row i has taken the sets before number s.
  module _ {work : Bytes} {count i p m s : ℕ} (t : Taking z words work count i p m s) where
    abbrev x : AnswerTree
    x = state_of bits z.sets words p m

    -- where it has taken all sets, the rows up to i have been visited
    pub taking_all : s ≡ z.sets → Walked z words work (Some count) (i + 1)
    taking_all e =
        let v = t.visiting in
        let few = v.pairs.few in
        let within = t.within in
        let none : z.sets - s ≡ 0 = omega arith in
        let fuel : max_states - i ≡ suc max_states - suc i = omega arith in
        let end : i * z.sets + s ≡ (i + 1) * z.sets = rw (add-one, suc-mul, e) in (
          omega arith,
          record {
            pairs = v.pairs;
            wholes = v.wholes;
            first = v.first;
            ahead = rw add-one (rw (none, fuel) at v.ahead);
            starts = v.starts;
            successors = subst (λ n. (j : ℕ) → j < n → byte_at work (successors_part + j) ≡ get_or (flatten (rows_table z words).successors) j 0) end v.successors;
          },
        )

    -- the successor for set s
    successor : s < z.sets → get_or (flatten (rows_table z words).successors) (i * z.sets + s) 0 ≡ position same_tree (take_tree x s) all
    unfolding walked_table
    successor h =
        let machine = machine_of z words in
        entry_of_flatten z.sets (rows_table z words).successors i s (table.row_width machine z all) (rw (table.rows_count machine z all) t.row) h
        ∙ table.next_number machine z all i s x t.row h
        ∙ ap (λ y. position same_tree (take_tree y s) all) t.state

    -- it takes set s: the pair with that set in force too is numbered
    module _ (h : s < z.sets) {q r : ℕ} (o : q ≡ p) (d : r ≡ bit_or m (2 ^ s)) where
      e : state_of bits z.sets (take held_part work) q r ≡ take_tree x s
      e = ap (λ w. state_of bits z.sets w q r) t.visiting.first ∙ ap₂ (state_of bits z.sets words) o d ∙ state_next bits z.sets words p m s h

      -- there was no room, ..
      pub taking_over : {after : Bytes} → Numbering z.produced bits z.sets work after (state_of bits z.sets (take held_part work) q r) count None → max_states < length (states_of z words)
      taking_over j = joined_over z words (take_tree x) s z.sets t.visiting h e j

      -- .. or the successor is written, and the sets before number s + 1 are taken
      pub taking_more : {after : Bytes} {row : RowNumber} → Numbering z.produced bits z.sets work after (state_of bits z.sets (take held_part work) q r) count (Some row) →
          z.sets ≤ max_sets → work_length ≤ length work → (at : ℕ) → at ≡ successors_part + (i * z.sets + s) → Taking z words (set after at row.number) row.count i p m (s + 1)
      taking_more {after} {row} j small room at there =
          let more = joined z words (take_tree x) s z.sets t.visiting h e j in
          let name = joined_number z words (take_tree x) s z.sets t.visiting h e j in
          let slot = slot_bound z.sets i s small (omega (arith, t.within, t.visiting.pairs.few)) h in
          record {
            order = t.order;
            choice = t.choice;
            within = omega (arith, j.row.more, t.within);
            row = t.row;
            state = t.state;
            visiting = rw there (stored_successor z words more (omega (arith, j.kept)) row.number slot (name ∙ sym (successor h)) (i * z.sets + (s + 1)) (omega arith));
          }

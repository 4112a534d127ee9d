-- Numbering a row: its state was there, or there was no room, or it is the next one now.
use Prim.Native.Nat.{ℕ, suc, ◌+◌, ◌^◌, ◌<◌, ◌≤◌}
use native.Mathlib.Nat.{add-zero, zero-add}
use native.Mathlib.Omega.{arith}
use mathlib.Core.Path.{◌≡◌, refl, sym, ◌∙◌, ap, ap₂, subst}
use mathlib.Core.List.{List, [], ◌∷◌, ◌++◌, Memᴰ}
use Rattle.std.specs.Prelude.{Some, None}
use lib.ListN.{length, take, length-append}
use borrow.Author.Count.{below_more}
use Rattle.theory.specs.Tests.{position}
use Rattle.theory.specs.Limits.{max_produced, max_states}
use Rattle.theory.specs.AnswerTree.{AnswerTree, same_tree}
use Rattle.theory.specs.Query.{Bytes, byte_at}
use Rattle.theory.specs.Scratch.{held_part, successors_part, open_part, open_at, open_in, work_length}
use Rattle.theory.proofs.RangeLaws.{map_more, map_below}
use Rattle.theory.proofs.PositionLaws.{position_bound, position_member, add_known, add_new, position_new}
use Rattle.theory.proofs.AnswerLaws.{decides_tree}
use Rattle.theory.specs.Placed.{placed}
use Rattle.theory.proofs.PlacedLaws.{placed_length, part_before, byte_before, byte_behind}
use Rattle.theory.proofs.PlacedLaws.{byte_placed}
use Rattle.open_sets.specs.Open.{state_of, OpenSets, Opened}
use Rattle.row_pairs.specs.RowPairs.{row_place, Pairs}
use Rattle.row_search.specs.RowStates.{row_state, row_states, Whole, Wholes}
use Rattle.row_search.proofs.FindLaws.{rows_count}
use Rattle.table_rows.specs.Walk.{Numbering}

-- the open sets lie behind all that is written while rows are numbered
pub opened_kept : (n bits sets : ℕ) (work after : Bytes) → take held_part after ≡ take held_part work → ((k : ℕ) → open_part ≤ k → byte_at after k ≡ byte_at work k) →
    Opened n bits sets (take held_part work) work → Opened n bits sets (take held_part after) after
opened_kept n bits sets work after e behind o p m h l =
    subst (λ w. OpenSets bits sets w p m (open_in sets after p m)) (sym e)
    (subst (OpenSets bits sets (take held_part work) p m) (sym (behind (open_at sets p m) (omega arith))) (o p m h l))

-- rows whose bytes are kept are kept
module _ (sets : ℕ) (work after : Bytes) (count : ℕ) (same : (k : ℕ) → k < row_place count → byte_at after k ≡ byte_at work k) where
  pub rows_kept : (bits : ℕ) → take held_part after ≡ take held_part work → row_states bits sets after count ≡ row_states bits sets work count
  rows_kept bits e =
      map_below (row_state bits sets after) (row_state bits sets work) (row_state bits sets work 0) count
      (λ i h. ap (λ w. state_of bits sets w (byte_at after (row_place i)) (byte_at after (row_place i + 1))) e
      ∙ ap₂ (state_of bits sets (take held_part work)) (same (row_place i) (omega arith)) (same (row_place i + 1) (omega arith)))

  pub pairs_kept : Pairs sets work count → Pairs sets after count
  pairs_kept p =
      record {
        few = p.few;
        orders = λ i h. subst (λ n. n < max_produced) (sym (same (row_place i) (omega arith))) (p.orders i h);
        choices = λ i h. subst (λ n. n < 2 ^ sets) (sym (same (row_place i + 1) (omega arith))) (p.choices i h);
      }

  -- and so are the open sets behind them
  pub wholes_kept : (n bits : ℕ) → take held_part after ≡ take held_part work → ((k : ℕ) → open_part ≤ k → byte_at after k ≡ byte_at work k) →
      Wholes n bits sets work count → Wholes n bits sets after count
  wholes_kept n bits e behind w =
      record {
        own = λ i h. subst (λ k. k < n) (sym (same (row_place i) (omega arith))) (w.own i h);
        whole = λ i h.
            let order = same (row_place i) (omega arith) in
            let choice = same (row_place i + 1) (omega arith) in
            ap suc (ap₂ ◌+◌ choice (behind (open_at sets (byte_at after (row_place i)) (byte_at after (row_place i + 1))) (omega arith) ∙ ap₂ (open_in sets work) order choice)) ∙ w.whole i h;
        opened = opened_kept n bits sets work after e behind w.opened;
      }

module _ (n bits sets : ℕ) (work : Bytes) (count p m : ℕ) (pairs : Pairs sets work count) (wholes : Wholes n bits sets work count) where
  abbrev x : AnswerTree
  x = state_of bits sets (take held_part work) p m

  abbrev rows : List AnswerTree
  rows = row_states bits sets work count

  -- the state is among the rows
  pub numbering_known : (place : ℕ) → place < count → place ≡ position same_tree (state_of bits sets (take held_part work) p m) (row_states bits sets work count) →
      Numbering n bits sets work work x count (Some (record { number = place; count = count }))
  numbering_known place h found =
      let member : Memᴰ x rows = position_member decides_tree x rows (omega (arith, rows_count bits sets work count)) in
      record {
        kept = refl;
        words = refl;
        behind = λ k l. refl;
        row = record {
          more = omega arith;
          one = omega arith;
          pairs = pairs;
          wholes = wholes;
          states = sym (add_known decides_tree x rows member);
          place = found;
          below = h;
        };
      }

  module _ (absent : position same_tree (state_of bits sets (take held_part work) p m) (row_states bits sets work count) ≡ count) where
    new : ¬ Memᴰ x rows
    new k = let z : ⊥ = omega (arith, position_bound decides_tree x rows k, rows_count bits sets work count) in z

    -- it is not, and there is no room
    pub numbering_full : count ≡ max_states → Numbering n bits sets work work x count None
    numbering_full full =
        record {
          kept = refl;
          words = refl;
          behind = λ k l. refl;
          row = rw (add_new decides_tree x rows new, length-append, rows_count, full) (omega arith);
        }

    -- the pair is written as the next row
    module _ (free : count < max_states) (order : p < n) (few : n ≤ max_produced) (choice : m < 2 ^ sets) (whole : Whole sets work p m) (long : work_length ≤ length work) where
      abbrev after : Bytes
      after = placed (row_place count) (p ∷ m ∷ []) work

      room : row_place count ≤ length work
      room = omega arith

      front : (k : ℕ) → k < row_place count → byte_at after k ≡ byte_at work k
      front k l = byte_before k (row_place count) (p ∷ m ∷ []) work l room

      words : take held_part after ≡ take held_part work
      words = part_before 0 held_part (row_place count) (p ∷ m ∷ []) work (omega arith) room

      first : byte_at after (row_place count) ≡ p
      first = ap (byte_at after) (sym (add-zero (row_place count))) ∙ byte_placed (row_place count) 0 (p ∷ m ∷ []) work (omega arith) room

      second : byte_at after (row_place count + 1) ≡ m
      second = byte_placed (row_place count) 1 (p ∷ m ∷ []) work (omega arith) room

      grown : row_states bits sets after (count + 1) ≡ rows ++ (x ∷ [])
      grown =
          map_more (row_state bits sets after) 0 count count (sym (zero-add count))
          ∙ ap₂ (λ l y. l ++ (y ∷ [])) (rows_kept sets work after count front bits words)
          (ap (λ w. state_of bits sets w (byte_at after (row_place count)) (byte_at after (row_place count + 1))) words ∙ ap₂ (state_of bits sets (take held_part work)) first second)

      pub numbering_new : Numbering n bits sets work (placed (row_place count) (p ∷ m ∷ []) work) x count (Some (record { number = count; count = count + 1 }))
      numbering_new =
          let before = pairs_kept sets work after count front pairs in
          let behind : (k : ℕ) → successors_part ≤ k → byte_at after k ≡ byte_at work k = (λ k l. byte_behind k (row_place count) (p ∷ m ∷ []) work (omega arith) room) in
          let known = wholes_kept sets work after count front n bits words (λ k l. behind k (omega arith)) wholes in
          record {
            kept = placed_length (row_place count) (p ∷ m ∷ []) work (omega arith);
            words = words;
            behind = behind;
            row = record {
              more = omega arith;
              one = omega arith;
              pairs = record {
                few = omega arith;
                orders = below_more _ count before.orders (omega (arith, first));
                choices = below_more _ count before.choices (rw second choice);
              };
              wholes = record {
                own = below_more _ count known.own (omega (arith, first));
                whole = below_more _ count known.whole (rw (first, second) (ap (λ o. suc (m + o)) (behind (open_at sets p m) (omega arith)) ∙ whole));
                opened = known.opened;
              };
              states = grown ∙ sym (add_new decides_tree x rows new);
              place = sym (ap (position same_tree x) grown ∙ position_new decides_tree x rows new ∙ rows_count bits sets work count);
              below = omega arith;
            };
          }

-- The numbering walk as the scratch has it: the next state is numbered, and its number written; the starts; and the end, where all rows are visited.
use Prim.Native.Nat.{ℕ, suc, ◌+◌, ◌*◌, ◌-◌, ◌<◌, ◌≤◌}
use native.Mathlib.Nat.{sub-zero, mul-le-mul}
use native.Mathlib.Numerals.{add-one}
use native.Mathlib.Omega.{arith}
use mathlib.Core.Path.{◌≡◌, refl, sym, ◌∙◌, ap, subst}
use mathlib.Core.List.Memᴰ
use mathlib.Core.List.{List, [], ◌∷◌, map, IsPrefix, flatten}
use Rattle.std.specs.Prelude.{Some, None}
use lib.ListN.{length, take, get_or, set}
use lib.Seq.{take-set-le, get_or-set_same, get_or-set_other}
use borrow.Author.Count.{below_none, below_more}
use Rattle.theory.specs.Tests.{position, up_from}
use Rattle.theory.specs.Limits.{max_produced, max_sets, max_states}
use Rattle.theory.specs.NumberingWalk.{add, add_all}
use Rattle.theory.specs.Machine.{Sizes, numbered_within}
use Rattle.theory.specs.AnswerTree.{AnswerTree, take_tree, same_tree}
use Rattle.theory.specs.Query.{Bytes, byte_at}
use Rattle.theory.specs.Scratch.{held_part, successors_part, starts_part, open_part, work_length, rows_table}
use Rattle.theory.specs.Table.{walked_table}
use Rattle.theory.proofs.ListLaws.{prefix_trans, prefix_length}
use Rattle.theory.proofs.PositionLaws.{position_grows}
use Rattle.theory.proofs.NumberingWalkLaws.{add_all_keeps, add_all_has, walk_keeps}
use Rattle.theory.proofs.WalkLaws.{walk_end}
use Rattle.theory.proofs.MachineTable as table
use Rattle.theory.proofs.AnswerLaws.{decides_tree}
use Rattle.open_sets.specs.Open.{Opened}
use Rattle.row_pairs.specs.RowPairs.{row_place}
use Rattle.row_search.specs.RowStates.{row_states}
use Rattle.row_search.proofs.FindLaws.{rows_count}
use Rattle.table_rows.specs.declared.numbered.RowNumber.{RowNumber}
use Rattle.table_rows.specs.Walk.{Numbering, machine_of, states_of, walk_on, RowsWalking, Starting, RowsVisited}
use Rattle.table_rows.proofs.NumberLaws.{rows_kept, pairs_kept, wholes_kept}

-- of what f gives from number s on, that at s comes first
rest_more : {A : Type 0} (f : ℕ → A) (s n : ℕ) → s < n → map f (up_from s (n - s)) ≡ f s ∷ map f (up_from (s + 1) (n - (s + 1)))
rest_more f s n h = let left : n - s ≡ suc (n - (s + 1)) = omega arith in rw (left, add-one)

-- the place of a successor is within its part
pub slot_bound : (sets i s : ℕ) → sets ≤ max_sets → i < max_states → s < sets → i * sets + s < 1024
slot_bound sets i s few h l = let p : i * sets ≤ 127 * 8 = mul-le-mul {n₂ = 127} (omega arith) few in omega arith

module _ (z : Sizes) (words : Bytes) where
  abbrev bits : ℕ
  bits = z.produced + z.tested

  abbrev all : List AnswerTree
  all = states_of z words

  -- what follows the states found begins with them
  pub ahead_prefix : (l rest : List AnswerTree) (fuel i : ℕ) → all ≡ walk_on z fuel (add_all same_tree l rest) i → IsPrefix l all
  ahead_prefix l rest fuel i e =
      prefix_trans l (add_all_keeps decides_tree rest l)
      (subst (λ m. IsPrefix (add_all same_tree l rest) m) (sym e)
      (walk_keeps decides_tree (λ x. map (take_tree x) (up_from 0 z.sets)) max_states fuel (add_all same_tree l rest) i))

  -- The next state of those that are still to be added is numbered.
  module _ (f : ℕ → AnswerTree) (s n : ℕ) {work : Bytes} {count fuel next begun taken : ℕ} {x : AnswerTree}
      (w : RowsWalking z words work count (map f (up_from s (n - s))) fuel next begun taken) (h : s < n) (e : x ≡ f s) where
    abbrev grown : List AnswerTree
    grown = add same_tree (row_states bits z.sets work count) x

    abbrev rest : List AnswerTree
    rest = map f (up_from (s + 1) (n - (s + 1)))

    -- the walk goes on from the rows with this state
    on : all ≡ walk_on z fuel (add_all same_tree grown rest) next
    on = rw e (rw (rest_more f s n h) at w.ahead)

    begins : IsPrefix grown all
    begins = ahead_prefix grown rest fuel next on

    -- where there was no room there are more states, ..
    pub joined_over : {after : Bytes} → Numbering z.produced bits z.sets work after x count None → max_states < length (states_of z words)
    joined_over j = omega (arith, j.row, prefix_length grown begins)

    module _ {after : Bytes} {r : RowNumber} (j : Numbering z.produced bits z.sets work after x count (Some r)) where
      -- .. else the number is that of the state among all, ..
      pub joined_number : r.number ≡ position same_tree (f s) (states_of z words)
      joined_number =
          j.row.place ∙ ap (position same_tree x) j.row.states
          ∙ sym (position_grows decides_tree x grown begins (add_all_has decides_tree (x ∷ []) (row_states bits z.sets work count) x (Memᴰ.head refl)))
          ∙ ap (λ y. position same_tree y all) e

      -- .. and the states behind it are still to be added
      pub joined : RowsWalking z words after r.count (map f (up_from (s + 1) (n - (s + 1)))) fuel next begun taken
      joined =
          record {
            pairs = j.row.pairs;
            wholes = j.row.wholes;
            first = j.words ∙ w.first;
            ahead = on ∙ ap (λ l. walk_on z fuel (add_all same_tree l rest) next) (sym j.row.states);
            starts = λ p l. j.behind (starts_part + p) (omega arith) ∙ w.starts p l;
            successors = λ k l. j.behind (successors_part + k) (omega arith) ∙ w.successors k l;
          }

  -- A start's number and a successor's number are written behind the rows.
  module _ {work : Bytes} {count fuel next begun taken : ℕ} {rest : List AnswerTree} (w : RowsWalking z words work count rest fuel next begun taken)
      (long : work_length ≤ length work) (v : ℕ) where
    -- a byte behind the rows changes no row
    stored : (k b t : ℕ) → successors_part ≤ k → k < open_part → ((p : ℕ) → p < b → byte_at (set work k v) (starts_part + p) ≡ get_or (rows_table z words).starts p 0) →
        ((j : ℕ) → j < t → byte_at (set work k v) (successors_part + j) ≡ get_or (flatten (rows_table z words).successors) j 0) → RowsWalking z words (set work k v) count rest fuel next b t
    stored k b t h l starts successors =
        let few = w.pairs.few in
        let front : take held_part (set work k v) ≡ take held_part work = take-set-le held_part work k v (omega arith) in
        let kept : (i : ℕ) → i < row_place count → byte_at (set work k v) i ≡ byte_at work i = λ i l. get_or-set_other work k i v 0 (omega arith) in
        record {
          pairs = pairs_kept z.sets work (set work k v) count kept w.pairs;
          wholes = wholes_kept z.sets work (set work k v) count kept z.produced bits front (λ i d. get_or-set_other work k i v 0 (omega arith)) w.wholes;
          first = front ∙ w.first;
          ahead = w.ahead ∙ ap (λ l. walk_on z fuel (add_all same_tree l rest) next) (sym (rows_kept z.sets work (set work k v) count kept bits front));
          starts = starts;
          successors = successors;
        }

    pub stored_start : begun < z.produced → z.produced ≤ max_produced → taken ≡ 0 → v ≡ position same_tree ((machine_of z words).start begun) (states_of z words) →
        RowsWalking z words (set work (starts_part + begun) v) count rest fuel next (begun + 1) taken
    unfolding walked_table
    stored_start h few none e =
        let k = starts_part + begun in
        stored k (begun + 1) taken (omega arith) (omega arith)
        (below_more _ begun (λ p l. get_or-set_other work k (starts_part + p) v 0 (omega arith) ∙ w.starts p l)
        (get_or-set_same work k v 0 (omega arith) ∙ e ∙ sym (table.start_number (machine_of z words) z all begun h)))
        (λ j l. absurd (omega arith))

    pub stored_successor : taken < 1024 → v ≡ get_or (flatten (rows_table z words).successors) taken 0 → (t : ℕ) → t ≡ taken + 1 →
        RowsWalking z words (set work (successors_part + taken) v) count rest fuel next begun t
    stored_successor h e t d =
        let k = successors_part + taken in
        stored k begun t (omega arith) (omega arith) (λ p l. get_or-set_other work k (starts_part + p) v 0 (omega arith) ∙ w.starts p l)
        (λ j l.
        below_more (λ j. byte_at (set work k v) (successors_part + j) ≡ get_or (flatten (rows_table z words).successors) j 0) taken
        (λ j l. get_or-set_other work k (successors_part + j) v 0 (omega arith) ∙ w.successors j l) (get_or-set_same work k v 0 (omega arith) ∙ e) j (omega arith))

  -- All rows are visited: their states are all states.
  pub visited_all : {work : Bytes} {count : ℕ} → RowsVisited z words work count count → states_of z words ≡ row_states (z.produced + z.tested) z.sets work count
  visited_all {work} {count} v =
      let rows = row_states bits z.sets work count in
      v.ahead ∙ walk_end same_tree (λ x. map (take_tree x) (up_from 0 z.sets)) max_states (suc max_states - count) rows count (omega (arith, rows_count bits z.sets work count))

-- No row is numbered yet; and all starts are, so that the walk begins.
pub starting_none : (z : Sizes) (work : Bytes) → Opened z.produced (z.produced + z.tested) z.sets (take held_part work) work → Starting z (take held_part work) work 0 0
unfolding numbered_within
starting_none z work opened =
    record {
      pairs = record { few = omega arith; orders = λ i h. absurd (omega arith); choices = λ i h. absurd (omega arith) };
      wholes = record { own = λ i h. absurd (omega arith); whole = λ i h. absurd (omega arith); opened = opened };
      first = refl;
      ahead = ap (λ n. walk_on z (suc max_states) (add_all same_tree [] (map (machine_of z (take held_part work)).start (up_from 0 n))) 0) (sym (sub-zero z.produced));
      starts = below_none _;
      successors = below_none _;
    }

pub starting_all : (z : Sizes) (words : Bytes) {work : Bytes} {count p : ℕ} → p ≡ z.produced → Starting z words work count p → RowsVisited z words work count 0
starting_all z words {work} {count} {p} e w =
    let none : z.produced - p ≡ 0 = omega arith in
    record {
      pairs = w.pairs;
      wholes = w.wholes;
      first = w.first;
      ahead = rw none at w.ahead;
      starts = λ q h. w.starts q (omega arith);
      successors = λ j h. absurd (omega arith);
    }

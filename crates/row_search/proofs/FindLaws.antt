-- The search among the rows: what the words of a pair and of row i's say of the states, and where the search ends.
use Prim.Native.Nat.{ℕ, suc, ◌+◌, ◌^◌, ◌<◌, ◌≤◌}
use native.Mathlib.Omega.{arith}
use mathlib.Core.Path.{◌≡◌, sym, ◌∙◌, ap, ap₂}
use mathlib.Core.List.{List}
use lib.ListN.{length, take, get_or}
use Rattle.theory.specs.Tests.{position}
use Rattle.theory.specs.AnswerTree.{AnswerTree, same_tree}
use Rattle.theory.specs.Query.{Bytes, byte_at}
use Rattle.theory.specs.Scratch.{held_part, open_in}
use Rattle.theory.proofs.RangeLaws.{entry_of, entry_count}
use Rattle.theory.proofs.PositionLaws.{Unmet, unmet_none, unmet_more, unmet_found, unmet_end}
use Rattle.theory.proofs.AnswerLaws.{decides_tree}
use Rattle.open_sets.specs.Open.{state_of, Opened}
use Rattle.open_sets.proofs.OpenLaws.{open_one, open_whole}
use Rattle.row_pairs.specs.RowPairs.{row_place}
use Rattle.row_search.specs.RowStates.{row_state, row_states, Whole}

-- how many states the rows have, and the state of row i
module _ (bits sets : ℕ) (work : Bytes) (count : ℕ) where
  pub rows_count : length (row_states bits sets work count) ≡ count
  rows_count = entry_count (row_state bits sets work) 0 count

  pub rows_at : (i : ℕ) (d : AnswerTree) → i < count → get_or (row_states bits sets work count) i d ≡ row_state bits sets work i
  rows_at i d h = entry_of (row_state bits sets work) count i d h

module _ (bits sets : ℕ) (work : Bytes) (count p m : ℕ) where
  abbrev x : AnswerTree
  x = state_of bits sets (take held_part work) p m

  abbrev rows : List AnswerTree
  rows = row_states bits sets work count

  -- the search passed the first i rows
  abbrev pub Searched : ℕ → Type 0
  Searched i = Unmet x rows x i

  -- it begins
  pub searched_none : Searched 0
  searched_none = unmet_none decides_tree x rows x

  module _ {i : ℕ} (u : Searched i) where
    -- it ends without the state
    pub searched_all : count ≤ i → count ≡ position same_tree x rows
    searched_all h =
        let e : count ≡ i = omega (arith, u.within, rows_count bits sets work count) in
        e ∙ unmet_end decides_tree x rows x u (omega (arith, rows_count bits sets work count))

    -- row i's pair is compared with it
    module _ (h : i < count) {q k : ℕ} (order : q ≡ byte_at work (row_place i)) (choice : k ≡ byte_at work (row_place i + 1)) where
      within : i < length rows
      within = omega (arith, rows_count bits sets work count)

      row : state_of bits sets (take held_part work) q k ≡ row_state bits sets work i
      row = ap₂ (state_of bits sets (take held_part work)) order choice

      -- the two give one state, and the search meets it; or they do not, and it goes on
      pub searched_found : x ≡ state_of bits sets (take held_part work) q k → i ≡ position same_tree x rows
      searched_found e = unmet_found decides_tree x rows x u within (rows_at bits sets work count i x h ∙ sym (e ∙ row))

      pub searched_more : (x ≡ state_of bits sets (take held_part work) q k → ⊥) → Searched (i + 1)
      searched_more n = unmet_more decides_tree x rows x u within (λ d. n (sym d ∙ rows_at bits sets work count i x h ∙ sym row))

-- Pairs with other whole choices give other states.
pub other_choice : (n bits sets : ℕ) (work : Bytes) → Opened n bits sets (take held_part work) work → (p m q k : ℕ) → p < n → q < n → m < 2 ^ sets → k < 2 ^ sets → Whole sets work p m → Whole sets work q k →
    state_of bits sets (take held_part work) p m ≡ state_of bits sets (take held_part work) q k → k ≡ m
other_choice n bits sets work opened p m q k hp hq hm hk wp wq e =
    let same = open_one bits sets (take held_part work) p m q k (open_in sets work p m) (open_in sets work q k) (opened p m hp hm) (opened q k hq hk) e in
    omega (arith, same, wp, wq)

-- The choice of all sets but the open ones is whole: it gives the same state, which has the same open sets.
pub whole_whole : (n bits sets : ℕ) (work : Bytes) → Opened n bits sets (take held_part work) work → (p m k : ℕ) → p < n → m < 2 ^ sets → suc (k + open_in sets work p m) ≡ 2 ^ sets → Whole sets work p k
whole_whole n bits sets work opened p m k hp hm e =
    let same = open_whole bits sets (take held_part work) p m (open_in sets work p m) (opened p m hp hm) hm k e in
    ap (λ o. suc (k + o)) (open_one bits sets (take held_part work) p k p m (open_in sets work p k) (open_in sets work p m) (opened p k hp (omega arith)) (opened p m hp hm) same) ∙ e

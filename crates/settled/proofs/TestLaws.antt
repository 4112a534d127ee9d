-- The closure test, entry by entry: entries passed over, an entry met or missed, and the end.
use Prim.Native.Nat.{ℕ, zero, suc, ◌+◌, ◌-◌, ◌^◌, ◌<◌}
use native.Mathlib.Numerals.{add-one}
use native.Mathlib.Omega.{arith}
use mathlib.Core.Path.{◌≡◌, refl, sym, ◌∙◌, ap, ap₂, subst, subst₂}
use mathlib.Core.Bool.{Bool, true, false, not, ◌&&◌, beq, true≢false, false≢true}
use mathlib.Core.Logic.{⊎_elim}
use mathlib.Core.List.Memᴰ
use mathlib.Core.List.{List, [], ◌∷◌, ◌++◌, map, map-append, map-map}
use lib.Bits.{bit_or}
use lib.Dec.{eqb}
use lib.IntN.{pos}
use lib.ListN.{length, take, drop, get_or, drop_of_length-le}
use lib.Seq.{take-suc, drop-cons}
use Rattle.std.specs.Prelude.{Option, None, Some}
use Rattle.theory.specs.Tests.{pick, Says, holds, fails, member, up_from, in_mask}
use Rattle.theory.specs.Orders.{Order, descends, column, columns, Rule}
use Rattle.theory.specs.Rows.{Counterexample}
use Rattle.theory.specs.Settled.{Settled, among, settled_columns, settled, one_class, alike, from_unsettled, entry_held, held_behind, is_held}
use Rattle.theory.proofs.Reflect.{says_true, true_says, false_says, says_one, says_ltb}
use Rattle.theory.proofs.Picks.{pick_yes}
use Rattle.theory.proofs.BitLaws.{raised_has, raised_keeps, raised_only}
use Rattle.theory.proofs.RangeLaws.{map_below}
use Rattle.theory.proofs.EntryLaws.{below_ascends}
use Rattle.theory.proofs.SettledLaws.{settled_through, says_settled, says_alike}
use Rattle.theory.proofs.StopLaws.{Past, past_none, past_more, past_both, past_front, past_met, first_descends, Stop as Stuck, stop_at}
use Rattle.theory.proofs.CounterexampleLaws.{value, bit_row, turned, class_by, stop_rows}
use Rattle.column_masks.proofs.MaskLaws.{says_both, mask_none}
use Rattle.closure.specs.RuleMasks.{StandFor, SettledMask, ClassesOf, Prepared}
use Rattle.closure.specs.Closing.{Closes}
use Rattle.arrows.specs.declared.Arrow.{Arrow}
use Rattle.settled.specs.declared.Stop.{Stop}
use Rattle.settled.specs.Ends.{value_in, row_by, Ends}
use Rattle.settled.specs.Places.{Skipped, class_in, meets}

-- one column more behind those of the first i entries of an order
columns_more : (o : Order) (i : ℕ) → i < length o → columns (take (suc i) o) ≡ columns (take i o) ++ (column (get_or o i 0) ∷ [])
columns_more o i h = ap columns (take-suc o i 0 h) ∙ map-append column (take i o) (get_or o i 0 ∷ [])

-- from the place behind the first
skipped_next : {m : ℕ} {o : Order} {i to : ℕ} → Skipped m o i to → i < to → Skipped m o (suc i) to
skipped_next k h = record { forth = h; within = k.within; passed = λ j b a. k.passed j b (omega arith); stopped = k.stopped }

-- a mask that has what w settles tells it as the test does
module _ {rs : List Rule} {w : List ℕ} (m : ℕ) (s : SettledMask rs w m) where
  mask_tells : (c : ℕ) → member eqb c (settled_columns rs w) ≡ in_mask m c
  mask_tells c = says_one (says_settled rs w c) (s c)

  -- a settled column more settles nothing more
  mask_stays : (c : ℕ) → in_mask m c ≡ true → SettledMask rs (w ++ (c ∷ [])) m
  mask_stays c h d =
      says_both (in_mask m d) (λ e. settled_through (λ x k. among (Memᴰ.append_left (c ∷ []) k)) (says_true (s d) e))
      (λ t. true_says (s d) (settled_through (λ x k. ⊎_elim among (λ i. subst (Settled rs w) (sym (Memᴰ.eq_of_singleton i)) (says_true (s c) h)) (Memᴰ.append_cases w k)) t))

  -- closed again with a column more, it has what the column and w settle
  mask_grows : {arrows : List Arrow} (c r : ℕ) → StandFor rs arrows → Closes arrows (bit_or m (2 ^ c)) r → SettledMask rs (w ++ (c ∷ [])) r
  mask_grows c r f closes =
      closes rs (w ++ (c ∷ [])) f
      (λ d h. ⊎_elim (λ e. among (Memᴰ.append_right w (Memᴰ.head e))) (λ e. settled_through (λ x k. among (Memᴰ.append_left (c ∷ []) k)) (says_true (s d) e)) (raised_only m c d h))
      (λ d k. ⊎_elim (λ i. raised_keeps m c d (true_says (s d) (among i))) (λ i. let same : d ≡ c = Memᴰ.eq_of_singleton i in rw same (raised_has m c)) (Memᴰ.append_cases w k))

  -- the first entry of an ordering by its test
  abbrev by_first : ℕ → Order → Bool → Order
  by_first e r b = elim b [ true ↦ from_unsettled (settled_columns rs w) r | false ↦ e ∷ r ]

  -- what is left of an ordering, from its first unsettled entry on
  left_from : (l : Order) (to n i : ℕ) → n + i ≡ to → Skipped m l i to → from_unsettled (settled_columns rs w) (drop i l) ≡ drop to l
  left_from l to zero i e k = go (says_ltb i (length l))
    where
      same : i ≡ to
      same = omega arith

      go : {b : Bool} → Says (i < length l) b → from_unsettled (settled_columns rs w) (drop i l) ≡ drop to l
      go (holds h) =
          rw (← same, drop-cons l i 0 h) (ap (by_first (get_or l i 0) (drop (suc i) l)) (mask_tells (column (get_or l i 0)) ∙ rw (← same) at (k.stopped (omega arith))))
      go (fails h) = rw (← same, drop_of_length-le l {i = i} (omega arith))
  left_from l to (suc n) i e k =
      rw (drop-cons l i 0 (omega (arith, k.within)))
      (ap (by_first (get_or l i 0) (drop (suc i) l)) (mask_tells (column (get_or l i 0)) ∙ k.passed i (omega arith) (omega arith)) ∙ left_from l to n (suc i) (omega arith) (skipped_next k (omega arith)))

-- where the test stops, at entry e of the order that is tested, with entry x left of the produced one
abbrev pub stops : ℕ → List ℕ → ℕ → ℕ → Stop
stops m classes e x = record { settled = m; class = class_in classes e (descends x); ascends = not (descends x) }

-- the direction of the entry at a place is that of the first one from there on
first_descends_lem : (o : Order) (k : ℕ) → first_descends (drop k o) ≡ descends (get_or o k 0)
first_descends_lem [] zero = sym (below_ascends 0 (omega arith))
first_descends_lem [] (suc k) = sym (below_ascends 0 (omega arith))
first_descends_lem (e ∷ o) zero = refl
first_descends_lem (e ∷ o) (suc k) = first_descends_lem o k

-- masks that tell the classes tell that of an entry in a direction, and which entries are alike to it
module _ (rs : List Rule) (classes : List ℕ) (classed : ClassesOf rs classes) (e : ℕ) (narrow : column e < 16) where
  class_tells : (down : Bool) (d : ℕ) → in_mask (class_in classes e down) d ≡ class_by rs e down d
  class_tells down d = go (beq (descends e) down)
    where
      go : (b : Bool) → in_mask (pick b (get_or classes (column e) 0) 0) d ≡ pick b (one_class rs (column e) d) false
      go true = classed (column e) d narrow
      go false = false_says (mask_none d) Memᴰ.not-nil

  alike_tells : (x : ℕ) → in_mask (class_in classes e (descends x)) (column x) ≡ alike rs e x
  alike_tells x = class_tells (descends x) (column x) ∙ go (one_class rs (column e) (column x)) (beq (descends e) (descends x))
    where
      go : (c b : Bool) → pick b c false ≡ c && b
      go true true = refl
      go true false = refl
      go false true = refl
      go false false = refl

-- the rows of two masks that tell what is settled and what is of the class that the rows go by, in the direction of the entry left
module _ (n : ℕ) (rs : List Rule) (w : List ℕ) (e : ℕ) (down : Bool) (settled' class : ℕ) (tells : (d : ℕ) → in_mask settled' d ≡ settled rs w d) (classed : (d : ℕ) → in_mask class d ≡ class_by rs e down d) where
  value_one : (up s b : Bool) → pos (value_in (not up) s b) ≡ value s (turned up b)
  value_one up true b = refl
  value_one true false true = refl
  value_one true false false = refl
  value_one false false true = refl
  value_one false false false = refl

  value_two : (up s b : Bool) → pos (value_in (not (not up)) s b) ≡ value s (not (turned up b))
  value_two up true b = refl
  value_two true false true = refl
  value_two true false false = refl
  value_two false false true = refl
  value_two false false false = refl

  rows_masks : {p o : Order} → Counterexample n rs p o (bit_row n rs w (λ d. turned down (class_by rs e down d))) (bit_row n rs w (λ d. not (turned down (class_by rs e down d))))
      → Counterexample n rs p o (map pos (row_by (not down) settled' class n)) (map pos (row_by (not (not down)) settled' class n))
  rows_masks {p} {o} =
      subst₂ (Counterexample n rs p o)
      (map_below _ _ (pos 0) n (λ d h. sym (value_one down (in_mask settled' d) (in_mask class d) ∙ ap₂ (λ s b. value s (turned down b)) (tells d) (classed d))) ∙ sym (map-map pos (λ d. value_in (not down) (in_mask settled' d) (in_mask class d)) (up_from 0 n)))
      (map_below _ _ (pos 0) n (λ d h. sym (value_two down (in_mask settled' d) (in_mask class d) ∙ ap₂ (λ s b. value s (not (turned down b))) (tells d) (classed d))) ∙ sym (map-map pos (λ d. value_in (not (not down)) (in_mask settled' d) (in_mask class d)) (up_from 0 n)))

module _ (rs : List Rule) (s : List ℕ) (r : Order) (e : ℕ) (goOn : Order → Bool) where
  -- the test of an entry by what is compared: whether the two entries are alike, what is left from the first unsettled entry on, and whether the entry is settled
  abbrev by_class : Order → Bool → Bool
  by_class rest b = elim b [ true ↦ goOn rest | false ↦ false ]

  abbrev by_rest : Order → Bool
  by_rest l = elim l [ [] ↦ false | x ∷ rest ↦ by_class rest (alike rs e x) ]

  abbrev by_mask : Bool → Bool
  by_mask b = elim b [ true ↦ goOn r | false ↦ by_rest (from_unsettled s r) ]

  -- an entry that is settled
  entry_settled : member eqb (column e) s ≡ true → entry_held rs s r e goOn ≡ goOn r
  entry_settled h = ap by_mask h

  module _ (h : member eqb (column e) s ≡ false) where
    -- one that is not, with nothing left, and with another entry left
    entry_missed : from_unsettled s r ≡ [] → entry_held rs s r e goOn ≡ false
    entry_missed k = ap by_mask h ∙ ap by_rest k

    entry_met : (x : ℕ) (rest : Order) (b : Bool) → from_unsettled s r ≡ x ∷ rest → alike rs e x ≡ b → entry_held rs s r e goOn ≡ by_class rest b
    entry_met x rest b k a = ap by_mask h ∙ ap by_rest k ∙ ap (by_class rest) a

-- where an entry is met there is one
pub meets_there : (classes : List ℕ) (e : ℕ) (o : Order) (i : ℕ) → true ≡ meets classes e o i → i < length o
meets_there classes e o i = go (says_ltb i (length o))
  where
    go : {b : Bool} → Says (i < length o) b → true ≡ pick b (in_mask (class_in classes e (descends (get_or o i 0))) (column (get_or o i 0))) false → i < length o
    go (holds h) e = h
    go (fails h) e = absurd (true≢false e)

-- The test is at place i of the order o and place j of the produced order p, the mask m has what the first i columns of o settle, and rows alike in these columns compare
-- along p as they do along what is left of it.
pub record Testing (rs : List Rule) (p o : Order) (i j m : ℕ) : Type 0 where
  pub mask : SettledMask rs (columns (take i o)) m
  pub rest : is_held rs p o ≡ held_behind rs (columns (take i o)) (drop j p) (drop i o)
  pub past : Past rs (columns (take i o)) p (drop j p)

module _ (rs : List Rule) (p o : Order) where
  -- the test begins at the first entries, with what is settled from the start
  testing_begins : (m : ℕ) → SettledMask rs [] m → Testing rs p o 0 0 m
  unfolding is_held
  testing_begins m s = record { mask = s; rest = refl; past = past_none rs [] p }

  -- what the test does at place i
  at_entry : (i : ℕ) (r : Order) → i < length o
      → held_behind rs (columns (take i o)) r (drop i o)
      ≡ entry_held rs (settled_columns rs (columns (take i o))) r (get_or o i 0) (λ rest. held_behind rs (columns (take (suc i) o)) rest (drop (suc i) o))
  at_entry i r h =
      ap (held_behind rs (columns (take i o)) r) (drop-cons o i 0 h)
      ∙ ap (λ v. entry_held rs (settled_columns rs (columns (take i o))) r (get_or o i 0) (λ rest. held_behind rs v rest (drop (suc i) o))) (sym (columns_more o i h))

  module _ {i j m : ℕ} (t : Testing rs p o i j m) where
    -- one settled entry is passed over
    testing_passes : i < length o → in_mask m (column (get_or o i 0)) ≡ true → Testing rs p o (suc i) j m
    testing_passes h k =
        record {
          mask = rw (columns_more o i h) (mask_stays m t.mask (column (get_or o i 0)) k);
          rest = t.rest ∙ at_entry i (drop j p) h ∙ entry_settled rs (settled_columns rs (columns (take i o))) (drop j p) (get_or o i 0) _ (mask_tells m t.mask (column (get_or o i 0)) ∙ k);
          past = rw (columns_more o i h) (past_more rs (λ d n. Memᴰ.append_left (column (get_or o i 0) ∷ []) n) t.past);
        }

    -- an entry that is not settled uses up the first of what is left that is not, at place k, if the two are alike
    module _ (h : i < length o) (unsettled : in_mask m (column (get_or o i 0)) ≡ false) (narrow : column (get_or o i 0) < 16) {k : ℕ} (skipped : Skipped m p j k) (classes : List ℕ) (classed : ClassesOf rs classes) where
      left : from_unsettled (settled_columns rs (columns (take i o))) (drop j p) ≡ drop k p
      left = left_from m t.mask p k (k - j) j (omega (arith, skipped.forth)) skipped

      entry_meets : (goOn : Order → Bool) (b : Bool) → meets classes (get_or o i 0) p k ≡ b
          → entry_held rs (settled_columns rs (columns (take i o))) (drop j p) (get_or o i 0) goOn ≡ pick b (goOn (drop (suc k) p)) false
      entry_meets goOn b e = go (settled_columns rs (columns (take i o))) (mask_tells m t.mask (column (get_or o i 0)) ∙ unsettled) left (says_ltb k (length p)) b e
        where
          go : (s : List ℕ) → member eqb (column (get_or o i 0)) s ≡ false → from_unsettled s (drop j p) ≡ drop k p → {l : Bool} → Says (k < length p) l
              → (b : Bool) → pick l (in_mask (class_in classes (get_or o i 0) (descends (get_or p k 0))) (column (get_or p k 0))) false ≡ b → entry_held rs s (drop j p) (get_or o i 0) goOn ≡ pick b (goOn (drop (suc k) p)) false
          go s u f (holds l) true e =
              entry_met rs s (drop j p) (get_or o i 0) goOn u (get_or p k 0) (drop (suc k) p) true (f ∙ drop-cons p k 0 l) (sym (alike_tells rs classes classed (get_or o i 0) narrow (get_or p k 0)) ∙ e)
          go s u f (holds l) false e =
              entry_met rs s (drop j p) (get_or o i 0) goOn u (get_or p k 0) (drop (suc k) p) false (f ∙ drop-cons p k 0 l) (sym (alike_tells rs classes classed (get_or o i 0) narrow (get_or p k 0)) ∙ e)
          go s u f (fails l) true e = absurd (false≢true e)
          go s u f (fails l) false e = entry_missed rs s (drop j p) (get_or o i 0) goOn u (f ∙ drop_of_length-le p {i = k} (omega arith))

      testing_meets : (b : Bool) → meets classes (get_or o i 0) p k ≡ b
          → is_held rs p o ≡ pick b (held_behind rs (columns (take (suc i) o)) (drop (suc k) p) (drop (suc i) o)) false
      testing_meets b e = t.rest ∙ at_entry i (drop j p) h ∙ entry_meets (λ rest. held_behind rs (columns (take (suc i) o)) rest (drop (suc i) o)) b e

      -- what is left behind the entry that is used up
      past_meets : k < length p → meets classes (get_or o i 0) p k ≡ true → Past rs (columns (take (suc i) o)) p (drop (suc k) p)
      past_meets l e =
          rw (columns_more o i h)
          (past_met rs (column (get_or o i 0)) (get_or p k 0) (drop (suc k) p)
          (past_both rs t.past (subst (Past rs (columns (take i o)) (drop j p)) (left ∙ drop-cons p k 0 l) (past_front rs (columns (take i o)) (drop j p)).0))
          (says_true (says_alike rs (get_or o i 0) (get_or p k 0)) (sym (alike_tells rs classes classed (get_or o i 0) narrow (get_or p k 0)) ∙ pick_yes false (true_says (says_ltb k (length p)) l) refl ∙ e)).0)

      -- where it is not met the two rows by the masks show that o is not held
      testing_fails : meets classes (get_or o i 0) p k ≡ false → Ends rs p o (Some (stops m classes (get_or o i 0) (get_or p k 0)))
      testing_fails e = (
        testing_meets false e,
        λ n pn on small.
            let way = ap first_descends left ∙ first_descends_lem p k in
            rows_masks n rs (columns (take i o)) (get_or o i 0) (descends (get_or p k 0)) m (class_in classes (get_or o i 0) (descends (get_or p k 0))) (λ d. sym (mask_tells m t.mask d))
            (class_tells rs classes classed (get_or o i 0) narrow (descends (get_or p k 0)))
            (stop_rows n rs p o pn on small (columns (take i o)) (get_or o i 0) (descends (get_or p k 0))
            (subst (λ down. Stuck rs (columns (take i o)) (get_or o i 0) down p o) way (stop_at rs p (drop j p) o i h t.past (entry_meets (λ rest. true) false e)))),
      )

-- The same under all rules for which the test is prepared.
abbrev pub Midway : List Arrow → ℕ → List ℕ → Order → Order → ℕ → ℕ → ℕ → Type 0
Midway arrows start classes p o i j m = (rs : List Rule) → Prepared rs arrows start classes → Testing rs p o i j m

-- The test ends so, under all these rules.
abbrev pub Ended : List Arrow → ℕ → List ℕ → Order → Order → Option Stop → Type 0
Ended arrows start classes p o r = (rs : List Rule) → Prepared rs arrows start classes → Ends rs p o r

module _ (arrows : List Arrow) (start : ℕ) (classes : List ℕ) (p o : Order) where
  -- the test begins
  pub midway_begins : Midway arrows start classes p o 0 0 start
  midway_begins rs f = testing_begins rs p o start f.settled

  module _ (i j m : ℕ) (t : Midway arrows start classes p o i j m) where
    -- an entry is passed over
    pub midway_passes : i < length o → in_mask m (column (get_or o i 0)) ≡ true → Midway arrows start classes p o (i + 1) j m
    midway_passes h settled rs f = rw (add-one i) (testing_passes rs p o (t rs f) h settled)

    module _ (h : i < length o) (unsettled : in_mask m (column (get_or o i 0)) ≡ false) (narrow : column (get_or o i 0) < 16) (k : ℕ) (skipped : Skipped m p j k) where
      -- an entry is not met
      pub midway_fails : meets classes (get_or o i 0) p k ≡ false → Ended arrows start classes p o (Some (stops m classes (get_or o i 0) (get_or p k 0)))
      midway_fails e rs f = testing_fails rs p o (t rs f) h unsettled narrow skipped classes f.classed e

      module _ (e : meets classes (get_or o i 0) p k ≡ true) where
        -- the last entry is met
        pub midway_last : i + 1 ≡ length o → Ended arrows start classes p o None
        midway_last last rs f =
            testing_meets rs p o (t rs f) h unsettled narrow skipped classes f.classed true e ∙ ap (held_behind rs (columns (take (suc i) o)) (drop (suc k) p)) (drop_of_length-le o {i = suc i} (omega arith))

        -- an entry is met and others follow
        pub midway_next : (r : ℕ) → Closes arrows (bit_or m (2 ^ column (get_or o i 0))) r → Midway arrows start classes p o (i + 1) (k + 1) r
        midway_next r closes rs f =
            rw (add-one i, add-one k)
            (record {
              mask = rw (columns_more o i h) (mask_grows m (t rs f).mask (column (get_or o i 0)) r f.rules closes);
              rest = testing_meets rs p o (t rs f) h unsettled narrow skipped classes f.classed true e;
              past = past_meets rs p o (t rs f) h unsettled narrow skipped classes f.classed (meets_there classes (get_or o i 0) p k (sym e)) e;
            })

-- Joint states put into a set one after the other, turns one after the other, and a closed set.
use Prim.Native.Nat.{ℕ, zero, suc, ◌+◌, ◌*◌, ◌-◌, ◌/◌, ◌%◌, ◌^◌, ◌<◌, ◌≤◌}
use native.Mathlib.Nat.{zero-add, zero-div}
use native.Mathlib.Omega.{arith}
use mathlib.Core.Path.{◌≡◌, refl, sym, ◌∙◌, ap, subst}
use mathlib.Core.Bool.{Bool, true, false, false≢true, ◌||◌}
use mathlib.Core.Logic.{inl, inr, ⊎_elim}
use mathlib.Core.List.Memᴰ
use mathlib.Core.List.{List, [], ◌∷◌, ◌++◌, map, append-nil, Memᴰ}
use lib.Dec.{eqb}
use lib.ListN.{length, drop, replicate}
use lib.Seq.{drop-length}
use Rattle.theory.specs.Tests.{Says, holds, fails, up_from}
use Rattle.theory.specs.Limits.{max_states, max_joint_states}
use Rattle.theory.specs.Scratch.{joint_states_length}
use Rattle.theory.specs.Build.{zeroed}
use Rattle.theory.specs.Query.{Bytes, byte_at}
use Rattle.theory.specs.Table.{states_in, produced_in, bit}
use Rattle.theory.proofs.Reflect.{says_ltb}
use Rattle.theory.proofs.RangeLaws.{map_more}
use Rattle.theory.proofs.RowLaws.{bit_below}
use Rattle.bit_sets.specs.BitSets.{in_bits, with_bit}
use Rattle.bit_sets.proofs.CountLaws.{add_length, add_keeps, add_sets, add_only, below_few, below_more, below_grows}
use Rattle.joint_states.specs.JointStates.{Comparable, start_joint_state, next_joint_states, JointWalking, joint_state_count, Added, JointVisited, JointClosed}
use Rattle.joint_states.proofs.TogetherLaws.{joint_below, starts_together, nexts_together}

-- the count of joint states
count_few : (m : Bytes) → joint_state_count m ≤ max_joint_states
unfolding joint_state_count
count_few m = below_few max_joint_states m

count_keeps : (m m' : Bytes) → ((j : ℕ) → in_bits m j ≡ true → in_bits m' j ≡ true) → joint_state_count m ≤ joint_state_count m'
unfolding joint_state_count
count_keeps m m' keeps = below_more m m' keeps max_joint_states

count_grows : (m m' : Bytes) → ((j : ℕ) → in_bits m j ≡ true → in_bits m' j ≡ true) → (i : ℕ) → i < max_joint_states → in_bits m i ≡ false → in_bits m' i ≡ true → joint_state_count m < joint_state_count m'
unfolding joint_state_count
count_grows m m' keeps i h a b = below_grows m m' keeps max_joint_states i h a b

-- one of two says that something was added, or none does
or_counts : (r s : Bool) → bit (r || s) ≤ bit r + bit s
or_counts true s = omega arith
or_counts false s = omega arith

or_false : (r s : Bool) → r || s ≡ false → (r ≡ false) × (s ≡ false)
or_false true s e = absurd (false≢true (sym e))
or_false false s e = (refl, e)

-- no joint state, a joint state that is there, a new one, and some after others
module _ {bound : ℕ} where
  pub added_none : (m : Bytes) → Added bound [] m m false
  added_none m =
      record { long = refl; keeps = λ j k. k; has = λ j k. absurd (Memᴰ.not-nil k); only = λ j k. inr k; counted = omega arith; behind = λ z j h k. k }

  pub added_there : (m : Bytes) (i : ℕ) → in_bits m i ≡ true → Added bound (i ∷ []) m m false
  added_there m i e =
      record {
        long = refl;
        keeps = λ j k. k;
        has = λ j k. ap (in_bits m) (Memᴰ.eq_of_singleton k) ∙ e;
        only = λ j k. inr k;
        counted = omega arith;
        behind = λ z j h k. k;
      }

  pub added_new : (m : Bytes) (i : ℕ) {m' : Bytes} {r : Bool} → i / 8 < length m → i < max_joint_states → in_bits m i ≡ false → m' ≡ with_bit m i → (r ≡ false → bound ≤ i) → Added bound (i ∷ []) m m' r
  added_new m i {r = r} within h e same past =
      rw same
      (record {
        long = add_length m i;
        keeps = add_keeps m i within;
        has = λ j k. ap (in_bits (with_bit m i)) (Memᴰ.eq_of_singleton k) ∙ add_sets m i within;
        only = λ j k. ⊎_elim (λ q. inl (Memᴰ.head q)) inr (add_only m i within j k);
        counted = omega (arith, bit_below r, count_grows m (with_bit m i) (add_keeps m i within) i h e (add_sets m i within));
        behind = λ z j l k. ⊎_elim (λ q. let b = past z in absurd (omega arith)) (λ p. p) (add_only m i within j k);
      })

  pub added_more : {xs ys zs : List ℕ} {m m' m'' : Bytes} {r s : Bool} → zs ≡ xs ++ ys → Added bound xs m m' r → Added bound ys m' m'' s → Added bound zs m m'' (r || s)
  added_more {xs} {ys} {m = m} {m'' = m''} {r = r} {s = s} e a b =
      subst (λ l. Added bound l m m'' (r || s)) (sym e)
      (record {
        long = b.long ∙ a.long;
        keeps = λ j k. b.keeps j (a.keeps j k);
        has = λ j k. ⊎_elim (λ l. b.keeps j (a.has j l)) (b.has j) (Memᴰ.append_cases xs k);
        only = λ j k. ⊎_elim (λ l. inl (Memᴰ.append_right xs l)) (λ l. ⊎_elim (λ n. inl (Memᴰ.append_left ys n)) inr (a.only j l)) (b.only j k);
        counted = omega (arith, or_counts r s, a.counted, b.counted);
        behind = λ z j h k. let e = or_false r s z in a.behind e.0 j h (b.behind e.1 j h k);
      })

  -- .. and one more of what f gives at the numbers from 0 on
  pub added_next : (f : ℕ → ℕ) (n : ℕ) {j : ℕ} {m m' m'' : Bytes} {r s : Bool} → Added bound (map f (up_from 0 n)) m m' r → j ≡ f n → Added bound (j ∷ []) m' m'' s → Added bound (map f (up_from 0 (n + 1))) m m'' (r || s)
  added_next f n {m' = m'} {m'' = m''} {s = s} d e one = added_more (map_more f 0 n n (sym (zero-add n))) d (subst (λ k. Added bound (k ∷ []) m' m'' s) e one)

-- a joint state that is put in whether it is there or not, where none is counted
pub added_put : (m : Bytes) (i : ℕ) → i / 8 < length m → Added 0 (i ∷ []) m (with_bit m i) false
added_put m i within =
    record {
      long = add_length m i;
      keeps = add_keeps m i within;
      has = λ j k. ap (in_bits (with_bit m i)) (Memᴰ.eq_of_singleton k) ∙ add_sets m i within;
      only = λ j k. ⊎_elim (λ q. inl (Memᴰ.head q)) inr (add_only m i within j k);
      counted = omega (arith, count_keeps m (with_bit m i) (add_keeps m i within));
      behind = λ z j l k. absurd (omega arith);
    }

-- a byte that is 0 has none of its eight joint states, and bytes that are all 0 have none
pub byte_none : (m : Bytes) (k : ℕ) → byte_at m k ≡ 0 → (i : ℕ) → 8 * k ≤ i → i < 8 * k + 8 → in_bits m i ≡ false
byte_none m k e i f t = let at : i / 8 ≡ k = omega arith in ap (λ n. eqb (n / 2 ^ (i % 8) % 2) 1) (ap (byte_at m) at ∙ e) ∙ ap (λ n. eqb (n % 2) 1) (zero-div (2 ^ (i % 8)))

all_zero : (n i : ℕ) → byte_at (replicate n 0) i ≡ 0
all_zero zero i = refl
all_zero (suc n) zero = refl
all_zero (suc n) (suc i) = all_zero n i

none_inside : (d : Bytes) (i : ℕ) → in_bits (zeroed (length d) d) i ≡ false
unfolding zeroed
none_inside d i =
    let all : replicate (length d) 0 ++ drop (length d) d ≡ replicate (length d) 0 = ap (λ r. replicate (length d) 0 ++ r) (drop-length d) ∙ append-nil (replicate (length d) 0) in
    byte_none (replicate (length d) 0 ++ drop (length d) d) (i / 8) (ap (λ l. byte_at l (i / 8)) all ∙ all_zero (length d) (i / 8)) i (omega arith) (omega arith)

module _ {a b : Bytes} where
  -- the set of the starts
  pub starts_walking : Comparable a b → (d : Bytes) {m m' : Bytes} {r : Bool} → length d ≡ joint_states_length → m ≡ zeroed (length d) d → length m ≡ length d →
      Added 0 (map (start_joint_state a b) (up_from 0 (produced_in a))) m m' r → JointWalking a b m'
  starts_walking c d l z e t =
      record {
        comparable = c;
        long = t.long ∙ e ∙ l;
        sound = λ i k. ⊎_elim (starts_together c i) (λ h. absurd (false≢true (sym (ap (λ n. in_bits n i) z ∙ none_inside d i) ∙ h))) (t.only i k);
      }

  -- no turn, turns that find nothing, one visit, and some turns after others
  pub visited_none : {from to : ℕ} {m : Bytes} → from ≡ to → JointWalking a b m → JointVisited a b from to m m false
  visited_none e w =
      record { walking = w; keeps = λ j k. k; counted = omega arith; behind = λ z j h k. k; closed = λ z k f t. let no : ⊥ = omega arith in absurd no }

  pub visited_skip : {from to : ℕ} {m : Bytes} → JointWalking a b m → ((i : ℕ) → from ≤ i → i < to → in_bits m i ≡ false) → JointVisited a b from to m m false
  visited_skip w none =
      record {
        walking = w;
        keeps = λ j k. k;
        counted = omega arith;
        behind = λ z j h k. k;
        closed = λ z i f t k. absurd (false≢true (sym (none i f t) ∙ k));
      }

  pub visited_over : {i : ℕ} {m : Bytes} → JointWalking a b m → in_bits m i ≡ false → JointVisited a b i (i + 1) m m false
  visited_over {i} {m} w e = visited_skip w (λ j f t. let same : j ≡ i = omega arith in ap (in_bits m) same ∙ e)

  pub visited_one : {i : ℕ} {m m' : Bytes} {r : Bool} → JointWalking a b m → in_bits m i ≡ true → Added i (next_joint_states a b i) m m' r → JointVisited a b i (i + 1) m m' r
  visited_one {i} {m' = m'} w e d =
      record {
        walking =
            record {
              comparable = w.comparable;
              long = d.long ∙ w.long;
              sound = λ j k. ⊎_elim (nexts_together w.comparable i (w.sound i e) j) (w.sound j) (d.only j k);
            };
        keeps = d.keeps;
        counted = d.counted;
        behind = d.behind;
        closed = λ z k f t g j n. let same : k ≡ i = omega arith in d.has j (subst (λ l. Memᴰ j (next_joint_states a b l)) same n);
      }

  pub visited_more : {from mid to last : ℕ} {m m' m'' : Bytes} {r s : Bool} → from ≤ mid → last ≡ to → JointVisited a b from mid m m' r → JointVisited a b mid to m' m'' s → JointVisited a b from last m m'' (r || s)
  visited_more {from} {mid} {to} {last} {m' = m'} {m'' = m''} {r = r} {s = s} h e v w =
      record {
        walking = w.walking;
        keeps = λ j k. w.keeps j (v.keeps j k);
        counted = omega (arith, or_counts r s, v.counted, w.counted);
        behind = λ z j l k. let e = or_false r s z in v.behind e.0 j l (w.behind e.1 j (omega arith) k);
        closed = λ z i f t k. let e = or_false r s z in go i f t k e.0 e.1 (says_ltb i mid);
      }
    where
      go : (i : ℕ) → from ≤ i → i < last → in_bits m'' i ≡ true → r ≡ false → s ≡ false → {q : Bool} → Says (i < mid) q → (j : ℕ) → Memᴰ j (next_joint_states a b i) → in_bits m'' j ≡ true
      go i f t k x y (holds l) j n = w.keeps j (v.closed x i f l (w.behind y i l k) j n)
      go i f t k x y (fails l) j n = w.closed y i (omega arith) (omega arith) k j n

  -- passes end: each that adds something leaves fewer joint states to add
  pub pass_less : {from to : ℕ} {m m' : Bytes} {r : Bool} → JointVisited a b from to m m' r → r ≡ true → max_joint_states - joint_state_count m' < max_joint_states - joint_state_count m
  pass_less {m = m} {m' = m'} v e = omega (arith, rw e at v.counted, count_few m')

  pub pass_closed : {m m' m'' : Bytes} {r : Bool} → ((j : ℕ) → in_bits m j ≡ true → in_bits m' j ≡ true) → JointVisited a b 0 (max_states * states_in a) m' m'' r → r ≡ false → JointClosed a b m m''
  pass_closed k v z =
      record {
        walking = v.walking;
        keeps = λ j e. v.keeps j (k j e);
        closed = λ i e. let l = (joint_below v.walking.comparable _ (v.walking.sound i e)).0 in v.closed z i (omega arith) (omega arith) e;
      }

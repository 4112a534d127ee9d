-- Two comparable tables: their forms, the states of a joint state that is reached, the joint states of the starts, and the joint states that a reached joint state leads to.
use Prim.Native.Nat.{ℕ, ◌<◌}
use native.Mathlib.Omega.{arith}
use mathlib.Core.Path.{◌≡◌, ap₂, subst}
use mathlib.Core.List.Memᴰ
use mathlib.Core.List.{map, Memᴰ}
use Rattle.theory.specs.Tests.{up_from}
use Rattle.theory.specs.Limits.{max_states, max_joint_states}
use Rattle.theory.specs.Machine.{Reached, both}
use Rattle.theory.specs.Query.{Bytes}
use Rattle.theory.specs.Table.{states_in, produced_in, sets_in, sizes_in, start_in, successor_in, machine_in, table_refusal}
use Rattle.theory.specs.Refusals.{passed}
use Rattle.theory.proofs.ListLaws.{member_up_from}
use Rattle.theory.proofs.MachineLaws.{reached_start, reached_next, StaysBelow}
use Rattle.theory.proofs.JointLaws.{both_below}
use Rattle.theory.proofs.Faithfulness.{table_checked}
use Rattle.table.specs.Form.{Formed}
use Rattle.table.proofs.FormLaws.{formed}
use Rattle.joint_states.specs.JointStates.{joint_number, our_state, their_state, Comparable, start_joint_state, next_joint_state, next_joint_states, Together}

-- a table that passes the check has a table's form
passed_formed : (t : Bytes) → table_refusal t ≡ passed → Formed t
passed_formed t e = formed t (table_checked t e).form

-- a joint state has its number
joint_back : (x y : ℕ) → y < max_states → ◌≡◌ {A = ℕ × ℕ} (x, y) (our_state (joint_number x y), their_state (joint_number x y))
joint_back x y h =
    let first : x ≡ our_state (joint_number x y) = omega arith in
    let second : y ≡ their_state (joint_number x y) = omega arith in
    ap₂ (λ a b. (a, b)) first second

module _ {a b : Bytes} (c : Comparable a b) where
  pub our_form : Formed a
  our_form = passed_formed a c.ours

  pub their_form : Formed b
  their_form = passed_formed b c.theirs

  sizes_same : sizes_in b ≡ sizes_in a
  sizes_same i = record { produced = c.produced i; tested = c.tested i; sets = c.sets i }

  our_inside : StaysBelow (machine_in a) (sizes_in a) (states_in a)
  our_inside = (table_checked a c.ours).inside

  their_inside : StaysBelow (machine_in b) (sizes_in a) (states_in b)
  their_inside = subst (λ z. StaysBelow (machine_in b) z (states_in b)) sizes_same (table_checked b c.theirs).inside

  abbrev pub Joint : ℕ × ℕ → Type 0
  Joint = Reached (both (machine_in a) (machine_in b)) (sizes_in a)

  -- the states of a reached joint state are states of the tables
  pub joint_below : (x : ℕ × ℕ) → Joint x → (x.0 < states_in a) × (x.1 < states_in b)
  joint_below = both_below our_inside their_inside

  pub small : (x : ℕ × ℕ) → Joint x → x.1 < max_states
  small x r = let l = joint_below x r in omega (arith, l.1, their_form.few_states)

  -- .. and its number is one
  pub joint_number_lem : (x : ℕ × ℕ) → Joint x → joint_number x.0 x.1 < max_joint_states
  joint_number_lem x r = let l = joint_below x r in omega (arith, l.0, l.1, our_form.few_states, their_form.few_states)

  -- .. which gives its states back
  pub joint_states : (x : ℕ × ℕ) → Joint x → x ≡ (our_state (joint_number x.0 x.1), their_state (joint_number x.0 x.1))
  joint_states x r = joint_back x.0 x.1 (small x r)

  pub joint_together : (x : ℕ × ℕ) → Joint x → Together a b (joint_number x.0 x.1)
  joint_together x r = subst Joint (joint_states x r) r

  -- the starts of a produced order
  pub start_reached : (p : ℕ) → p < produced_in a → Joint (start_in a p, start_in b p)
  start_reached = reached_start (both (machine_in a) (machine_in b)) (sizes_in a)

  pub starts_together : (j : ℕ) → Memᴰ j (map (start_joint_state a b) (up_from 0 (produced_in a))) → Together a b j
  starts_together j m =
      let k = Memᴰ.of_map (start_joint_state a b) (up_from 0 (produced_in a)) m in
      let h = member_up_from 0 (produced_in a) k.1 in
      subst (Together a b) k.2 (joint_together _ (start_reached k.0 (omega arith)))

  -- what a reached joint state leads to
  pub next_reached : (i s : ℕ) → Together a b i → s < sets_in a → Joint (successor_in a (our_state i) s, successor_in b (their_state i) s)
  next_reached i s t h = reached_next (both (machine_in a) (machine_in b)) (sizes_in a) (our_state i, their_state i) s t h

  pub nexts_together : (i : ℕ) → Together a b i → (j : ℕ) → Memᴰ j (next_joint_states a b i) → Together a b j
  nexts_together i t j m =
      let k = Memᴰ.of_map (next_joint_state a b i) (up_from 0 (sets_in a)) m in
      let h = member_up_from 0 (sets_in a) k.1 in
      subst (Together a b) k.2 (joint_together _ (next_reached i k.0 t (omega arith)))

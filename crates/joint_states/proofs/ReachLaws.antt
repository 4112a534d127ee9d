-- A closed set that has the starts has every joint state that is reached.
use Prim.Native.Nat.{ℕ, ◌<◌}
use native.Mathlib.Omega.{arith}
use mathlib.Core.Path.{◌≡◌, refl, sym, ◌∙◌, ap, subst}
use mathlib.Core.Bool.{Bool, true}
use mathlib.Core.List.Memᴰ
use mathlib.Core.List.{List, [], ◌∷◌, map, Memᴰ}
use Rattle.theory.specs.Tests.{up_from}
use Rattle.theory.specs.Machine.{Machine, AllBelow, runs, Reached, both}
use Rattle.theory.specs.Query.{Bytes}
use Rattle.theory.specs.Table.{produced_in, sets_in, sizes_in, successor_in, machine_in}
use Rattle.theory.proofs.ListLaws.{up_from_member}
use Rattle.theory.proofs.MachineLaws.{below_tail, reached_start, reached_next}
use Rattle.bit_sets.specs.BitSets.{in_bits}
use Rattle.joint_states.specs.JointStates.{joint_number, start_joint_state, next_joint_state, next_joint_states, JointWalking, Added, JointClosed, AllTogether}
use Rattle.joint_states.proofs.TogetherLaws.{Joint, joint_states}

module _ {a b m : Bytes} (w : JointWalking a b m) where
  abbrev machines : Machine (ℕ × ℕ)
  machines = both (machine_in a) (machine_in b)

  abbrev In : ℕ × ℕ → Type 0
  In x = in_bits m (joint_number x.0 x.1) ≡ true

  module _ (closed : (i : ℕ) → in_bits m i ≡ true → (j : ℕ) → Memᴰ j (next_joint_states a b i) → in_bits m j ≡ true) where
    in_next : (x : ℕ × ℕ) (s : ℕ) → Joint w.comparable x → In x → s < sets_in a → In (machines.next x s)
    in_next x s r k h =
        let i = joint_number x.0 x.1 in
        let e : next_joint_state a b i s ≡ joint_number (successor_in a x.0 s) (successor_in b x.1 s) =
        ap (λ (y : ℕ × ℕ). joint_number (successor_in a y.0 s) (successor_in b y.1 s)) (sym (joint_states w.comparable x r)) in
        ap (in_bits m) (sym e) ∙ closed i k (next_joint_state a b i s) (Memᴰ.map (next_joint_state a b i) (up_from_member 0 (sets_in a) (omega arith) (omega arith)))

    in_runs : (ss : List ℕ) → AllBelow (sets_in a) ss → (x : ℕ × ℕ) → Joint w.comparable x → In x → In (runs machines x ss)
    in_runs [] f x r k = k
    in_runs (s ∷ ss) f x r k =
        let h = f s (Memᴰ.head refl) in
        in_runs ss (below_tail (sets_in a) f) (machines.next x s) (reached_next machines (sizes_in a) x s r h) (in_next x s r k h)

    in_all : ((j : ℕ) → Memᴰ j (map (start_joint_state a b) (up_from 0 (produced_in a))) → in_bits m j ≡ true) → (x : ℕ × ℕ) → Reached machines (sizes_in a) x → In x
    in_all starts x r =
        let p = r.order in
        let h = r.produced in
        subst In r.arrives
        (in_runs r.sets r.below (machines.start p) (reached_start machines (sizes_in a) p h)
        (starts (start_joint_state a b p) (Memᴰ.map (start_joint_state a b) (up_from_member 0 (produced_in a) (omega arith) (omega arith)))))

-- the set that was grown from the starts
pub all_together : {a b m m' m'' : Bytes} {r : Bool} → Added 0 (map (start_joint_state a b) (up_from 0 (produced_in a))) m m' r → JointClosed a b m' m'' → AllTogether a b m''
all_together d c = record { walking = c.walking; complete = in_all c.walking c.closed (λ j k. c.keeps j (d.has j k)) }

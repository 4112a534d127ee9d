-- Where the states of every joint state that is reached hold the same orders, the two tables answer alike.
use Prim.Native.Nat.{ℕ, ◌*◌}
use native.Mathlib.Omega.{arith}
use mathlib.Core.Path.{◌≡◌, sym, subst}
use mathlib.Core.Bool.{Bool}
use Rattle.theory.specs.Tests.{Says}
use Rattle.theory.specs.Limits.{max_states}
use Rattle.theory.specs.Machine.{SameAnswers}
use Rattle.theory.specs.Query.{Bytes}
use Rattle.theory.specs.Table.{states_in, sizes_in, held_orders, machine_in}
use Rattle.theory.proofs.Reflect.{says_as}
use Rattle.theory.proofs.JointLaws.{same_together, together_same}
use Rattle.joint_states.specs.JointStates.{joint_number, our_state, their_state, AllTogether}
use Rattle.joint_states.proofs.TogetherLaws.{joint_below, small, joint_states}
use Rattle.comparison.specs.Alike.{AlikeFrom}

-- where it has exactly the joint states that are reached
pub alike_answers : {a b m : Bytes} → AllTogether a b m → {r : Bool} → Says (AlikeFrom a b m 0 (max_states * states_in a)) r → Says (SameAnswers (sizes_in a) (machine_in a) (machine_in b)) r
alike_answers {a} {b} t =
    says_as
    (λ all. together_same (machine_in a) (machine_in b) (sizes_in a)
    (λ x r.
    let l = joint_below t.walking.comparable x r in
    let l' = small t.walking.comparable x r in
    subst (λ (y : ℕ × ℕ). held_orders a y.0 ≡ held_orders b y.1) (sym (joint_states t.walking.comparable x r))
    (all.alike (joint_number x.0 x.1) (omega arith) (omega (arith, l.0)) (t.complete x r))))
    (λ same. record { alike = λ i f h k. same_together (machine_in a) (machine_in b) (sizes_in a) same (our_state i, their_state i) (t.walking.sound i k) })

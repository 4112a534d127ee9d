-- `joint_states::add_starts` meets its contract. The loop's invariant: the joint states of the first p produced orders are put in.
use Prim.Native.Nat.{◌<◌, ◌/◌}
use native.Mathlib.Omega.{arith}
use mathlib.Core.Path.{◌≡◌, sym, ◌∙◌, ap₂, subst}
use mathlib.Core.Bool.{false}
use mathlib.Core.List.{[], ◌∷◌}
use lib.ListN.{length}
use Rattle.theory.specs.Limits.{max_joint_states}
use Rattle.theory.specs.Table.{produced_in}
use Rattle.joint_states.specs.JointStates.{joint_number, start_joint_state, Added}
use Rattle.joint_states.proofs.TogetherLaws.{joint_number_lem, start_reached}
use Rattle.joint_states.proofs.SetLaws.{added_none, added_next, added_put}
use Rattle.joint_states.proofs.add_starts.Goals.{After-joint_state}
use Rattle.joint_states.proofs.add_starts.Goals as goal

pub loop-p-init : goal.loop-p-init
loop-p-init c = added_none _

-- p is a produced order of both tables
produced : (c : After-joint_state) → c.loop-p.p < produced_in c.args.tables.now.ours
produced c = let e : length c.starts-ours.result.now ≡ produced_in c.args.tables.now.ours = rw c.ours.ensures.table at c.starts-ours.ensures.length in omega arith

-- the joint state of its starts
started : (c : After-joint_state) → let t = c.args.tables.now in c.joint_state.result ≡ start_joint_state t.ours t.theirs c.loop-p.p
started c =
    let p = c.loop-p.p in
    let h = produced c in
    let comparable = c.ours.ensures.comparable in
    c.joint_state.ensures
    ∙ ap₂ joint_number ((rw c.ours.ensures.table at c.starts-ours.ensures.starts) p h) ((rw c.theirs.ensures.table at c.starts-theirs.ensures.starts) p (omega (arith, comparable.produced)))

-- it has its place in the set
within : (c : After-joint_state) → c.joint_state.result / 8 < length c.loop-p.reached
within c =
    let comparable = c.ours.ensures.comparable in
    let h : c.joint_state.result < max_joint_states =
    subst (λ n. n < max_joint_states) (sym (started c)) (joint_number_lem comparable _ (start_reached comparable c.loop-p.p (produced c))) in
    omega (arith, c.loop-p.invariant.long)

pub add-requires : goal.add-requires
add-requires c = within (goal.at.add-requires c).After-joint_state

pub loop-p-preserved : goal.loop-p-preserved
loop-p-preserved c =
    let k = (goal.at.loop-p-preserved c).After-joint_state in
    let t = c.args.tables.now in
    added_next (start_joint_state t.ours t.theirs) c.loop-p.p c.loop-p.invariant (started k)
    (subst (λ m. Added 0 (c.joint_state.result ∷ []) c.loop-p.reached m false) (sym c.add.ensures.0) (added_put c.loop-p.reached c.joint_state.result (within k)))

pub returns-clause-added : goal.returns-clause-added
returns-clause-added c =
    let starts : length c.starts-ours.result.now ≡ produced_in c.args.tables.now.ours = rw c.ours.ensures.table at c.starts-ours.ensures.length in
    let end : c.loop-p.p ≡ produced_in c.args.tables.now.ours = omega arith in
    rw end at c.loop-p.invariant

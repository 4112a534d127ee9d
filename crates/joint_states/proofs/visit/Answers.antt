-- `joint_states::visit` meets its contract. The loop's invariant: what the first s sets lead to is put in.
use Prim.Native.Nat.{◌<◌}
use native.Mathlib.Omega.{arith}
use mathlib.Core.Path.{◌≡◌, sym, ◌∙◌, ap₂, subst}
use lib.ListN.{length, get_or}
use Rattle.theory.specs.Limits.{max_joint_states}
use Rattle.theory.specs.Table.{sets_in}
use Rattle.joint_states.specs.JointStates.{joint_number, next_joint_state}
use Rattle.joint_states.proofs.TogetherLaws.{joint_below, joint_number_lem, next_reached}
use Rattle.joint_states.proofs.SetLaws.{added_none, added_next}
use borrow.Author.Rules.{rules}
use Rattle.joint_states.proofs.visit.Goals.{After-joint_state}
use Rattle.joint_states.proofs.visit.Goals as goal

pub successors-ours-requires : goal.successors-ours-requires
successors-ours-requires c = let w = c.requires.0 in rw c.ours.ensures.table (joint_below w.comparable _ (w.sound c.args.i c.requires.1)).0

pub successors-theirs-requires : goal.successors-theirs-requires
successors-theirs-requires c = let w = c.requires.0 in rw c.theirs.ensures.table (joint_below w.comparable _ (w.sound c.args.i c.requires.1)).1

pub loop-s-init : goal.loop-s-init
loop-s-init c = added_none _

-- s is a set
set : (c : After-joint_state) → c.loop-s.s < sets_in c.args.tables.now.ours
set c = let e : length c.successors-ours.result.now ≡ sets_in c.args.tables.now.ours = rw c.ours.ensures.table at c.successors-ours.ensures.1 in omega arith

-- the joint state that it leads to
arrived : (c : After-joint_state) → let t = c.args.tables.now in c.joint_state.result ≡ next_joint_state t.ours t.theirs c.args.i c.loop-s.s
arrived c =
    c.joint_state.ensures
    ∙ ap₂ (λ x y. joint_number (get_or x c.loop-s.s 0) (get_or y c.loop-s.s 0)) (rw c.ours.ensures.table at c.successors-ours.ensures.0) (rw c.theirs.ensures.table at c.successors-theirs.ensures.0)

pub add-behind-requires : goal.add-behind-requires
add-behind-requires c =
    let k = (goal.at.add-behind-requires c).After-joint_state in
    let w = c.requires.0 in
    (search rules, subst (λ n. n < max_joint_states) (sym (arrived k)) (joint_number_lem w.comparable _ (next_reached w.comparable c.args.i c.loop-s.s (w.sound c.args.i c.requires.1) (set k))))

pub loop-s-preserved : goal.loop-s-preserved
loop-s-preserved c =
    let t = c.args.tables.now in
    added_next (next_joint_state t.ours t.theirs c.args.i) c.loop-s.s c.loop-s.invariant (arrived (goal.at.loop-s-preserved c).After-joint_state) c.add-behind.ensures

pub returns : goal.returns
returns c =
    let sets : length c.successors-ours.result.now ≡ sets_in c.args.tables.now.ours = rw c.ours.ensures.table at c.successors-ours.ensures.1 in
    let end : c.loop-s.s ≡ sets_in c.args.tables.now.ours = omega arith in
    rw end at c.loop-s.invariant

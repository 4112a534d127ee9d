-- `joint_states::pass` meets its contract. The loop's invariant: the joint states of the first k bytes had their turn.
use Prim.Native.Nat.{◌*◌}
use native.Mathlib.Omega.{arith}
use mathlib.Core.Path.{◌≡◌, ◌∙◌, ap, subst}
use Rattle.theory.specs.Limits.{max_states}
use Rattle.theory.specs.Table.{states_in}
use Rattle.joint_states.specs.JointStates.{JointVisited}
use Rattle.joint_states.proofs.TogetherLaws.{our_form}
use Rattle.joint_states.proofs.SetLaws.{visited_none, visited_more}
use Rattle.joint_states.proofs.pass.Goals as goal

pub loop-k-init : goal.loop-k-init
loop-k-init c = visited_none (omega arith) c.requires

pub turn_byte-behind-requires : goal.turn_byte-behind-requires
turn_byte-behind-requires c =
    let states : c.states.result ≡ states_in c.args.tables.now.ours = c.states.ensures.0 ∙ ap states_in (c.bytes.ensures.bytes ∙ c.ours.ensures.table) in
    (c.loop-k.invariant.walking, omega (arith, (our_form c.requires.comparable).few_states))

pub loop-k-preserved : goal.loop-k-preserved
loop-k-preserved c = visited_more (omega arith) (omega arith) c.loop-k.invariant c.turn_byte-behind.ensures

pub returns : goal.returns
returns c =
    let t = c.args.tables.now in
    let states : c.states.result ≡ states_in t.ours = c.states.ensures.0 ∙ ap states_in (c.bytes.ensures.bytes ∙ c.ours.ensures.table) in
    let end : 8 * c.loop-k.k ≡ max_states * states_in t.ours = omega arith in
    subst (λ n. JointVisited t.ours t.theirs 0 n c.args.reached.now c.loop-k.reached c.loop-k.behind) end c.loop-k.invariant

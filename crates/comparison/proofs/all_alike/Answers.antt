-- `comparison::all_alike` meets its contract. The loop's invariant: the states of the joint states of the first k bytes hold the same.
use Prim.Native.Nat.{◌*◌}
use native.Mathlib.Omega.{arith}
use mathlib.Core.Path.{◌≡◌, ◌∙◌, ap}
use mathlib.Core.Bool.{not}
use Rattle.theory.specs.Tests.{holds}
use Rattle.theory.specs.Limits.{max_states}
use Rattle.theory.specs.Table.{states_in}
use Rattle.joint_states.proofs.TogetherLaws.{our_form}
use Rattle.comparison.proofs.HeldLaws.{alike_none, alike_more, unlike}
use Rattle.comparison.proofs.all_alike.Goals.{After-states}
use Rattle.comparison.proofs.all_alike.Goals as goal

-- the table's states
states : (c : After-states) → c.states.result ≡ states_in c.args.tables.now.ours
states c = c.states.ensures.0 ∙ ap states_in (c.bytes.ensures.bytes ∙ c.ours.ensures.table)

pub loop-k-init : goal.loop-k-init
loop-k-init c = alike_none (omega arith)

pub alike_byte-requires : goal.alike_byte-requires
alike_byte-requires c = (c.requires, omega (arith, states (goal.at.alike_byte-requires c).After-states, (our_form c.requires.comparable).few_states))

pub returns-then-not-alike_byte : goal.returns-then-not-alike_byte
returns-then-not-alike_byte c = unlike (omega arith) (omega (arith, states (goal.at.returns-then-not-alike_byte c).After-states)) c.alike_byte.ensures (ap not c.if-not-alike_byte.true)

pub loop-k-preserved : goal.loop-k-preserved
loop-k-preserved c = alike_more (omega arith) c.loop-k.invariant c.alike_byte.ensures (ap not c.if-not-alike_byte.false)

pub returns : goal.returns
returns c =
    let end : 8 * c.loop-k.k ≡ max_states * states_in c.args.tables.now.ours = omega (arith, states (goal.at.returns c).After-states) in
    holds (rw end at c.loop-k.invariant)

-- `comparison::alike` meets its contract: a joint state that is in the set is looked at, another is passed over.
use Rattle.joint_states.proofs.TogetherLaws.{joint_below}
use Rattle.comparison.proofs.HeldLaws.{alike_one, alike_over}
use Rattle.comparison.proofs.alike.Goals as goal

pub same_held-requires : goal.same_held-requires
same_held-requires c =
    let w = c.requires.0 in
    joint_below w.comparable _ (w.sound c.args.i cc)

pub returns-then-not-has : goal.returns-then-not-has
returns-then-not-has c = rw c.if-not-has.true (alike_over (cc))

pub returns-else-not-has : goal.returns-else-not-has
returns-else-not-has c = alike_one (cc) c.same_held.ensures

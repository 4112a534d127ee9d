-- `joint_states::reach` meets its contract: from an empty set, the starts and all that follows.
use borrow.Author.Rules.{rules}
use Rattle.joint_states.proofs.SetLaws.{starts_walking}
use Rattle.joint_states.proofs.ReachLaws.{all_together}
use Rattle.joint_states.proofs.reach.Goals as goal

pub close-requires : goal.close-requires
close-requires c = let s = c.add_starts.ensures in starts_walking s.comparable c.args.reached.now c.requires c.clear.ensures (search rules) s.added

pub returns : goal.returns
returns c = all_together c.add_starts.ensures.added c.close.ensures

-- `joint_states::add` meets its contract: the joint state is there, or it is put in, and its number is below the bound or not.
use native.Mathlib.Omega.{arith}
use borrow.Author.Tests.{ltb-false}
use Rattle.joint_states.proofs.SetLaws.{added_there, added_new}
use Rattle.joint_states.proofs.add.Goals as goal

pub returns-then-has : goal.returns-then-has
returns-then-has c = added_there c.args.reached.now c.args.i (cc)

pub returns : goal.returns
returns c = added_new c.args.reached.now c.args.i (omega arith) c.requires.1 (cc) c.add.ensures.0 (λ e. ltb-false c.args.i c.args.bound e)

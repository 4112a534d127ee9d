-- `builder::deliver` meets its contract: the output is shorter than the table, or it takes it.
use Prim.Native.Nat.{◌<◌}
use mathlib.Core.Path.{subst}
use lib.ListN.{length}
use Rattle.builder.proofs.DeliverLaws.{deliver_short, deliver_whole}
use Rattle.builder.proofs.deliver.Goals as goal

pub returns-then-output-size : goal.returns-then-output-size
returns-then-output-size c =
    λ t h. deliver_short h c.args.output.now (subst (λ k. length c.args.output.now < k) c.size-size.ensures c.if-output-size.true)

pub returns : goal.returns
returns c = λ t h. deliver_whole h c.args.output.now _ c.size-size.ensures c.if-output-size.false c.write.ensures

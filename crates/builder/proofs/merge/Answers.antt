-- `builder::merge` meets its contract: clearing changes neither the answer nor the output.
use mathlib.Core.Path.{◌∙◌}
use Rattle.theory.proofs.ClearLaws.{zeroed_whole}
use Rattle.builder.proofs.merge.Goals as goal

pub returns : goal.returns
returns c = let b = c.merge_into-built in
    (b.ensures.0, c.clear.ensures ∙ zeroed_whole b.new.work c.args.work.now b.ensures.1)

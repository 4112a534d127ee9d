-- `builder::construct` meets its contract: the words that are settled are the query's pairs', so what is merged is the query's table.
use mathlib.Core.Path.{◌∙◌, subst}
use lib.ListN.{length}
use Rattle.theory.specs.Build.{delivered}
use Rattle.theory.proofs.ClearLaws.{zeroed_whole}
use Rattle.construction.proofs.LeavesLaws.{constructed_words}
use Rattle.builder.specs.Built.{Done}
use Rattle.builder.proofs.construct.Goals as goal

pub returns : goal.returns
returns c =
    let a = c.args in
    let b = a.query.now in (
      subst (λ k. Done (delivered k (length a.output.now)) a.output.now c.merge.new.output c.merge.result) (constructed_words b c.settle.new.work c.settle.ensures.0) c.merge.ensures.0,
      c.merge.ensures.1 ∙ zeroed_whole c.settle.new.work a.work.now c.settle.ensures.1,
    )

-- `construction::construct` meets its contract: the words that are settled are the query's pairs', so what is merged is the query's table.
use mathlib.Core.Path.{◌∙◌, subst}
use Rattle.construction.specs.Constructed.{Leaves}
use Rattle.construction.proofs.LeavesLaws.{constructed_words}
use Rattle.construction.proofs.construct.Goals as goal

pub returns : goal.returns
returns c =
    let work = c.settle.new.work in
    (subst (λ k. Leaves k c.merge.new.work c.merge.result) (constructed_words c.args.query.now work c.settle.ensures.0) c.merge.ensures.0, c.merge.ensures.1 ∙ c.settle.ensures.1)

-- `counterexample::show` meets its contract: what the end of the test shows.
use native.Mathlib.Omega.{arith}
use mathlib.Core.Path.{◌≡◌, sym, ◌∙◌, ap}
use Rattle.theory.specs.Query.{column_count}
use Rattle.theory.proofs.QueryLaws.{query_sizes_lem, column_count_lem, produced_count_lem, order_count_lem}
use Rattle.counterexample.proofs.ShowLaws.{held_shows, stop_shows}
use Rattle.counterexample.proofs.show.Goals.{After-columns-n}
use Rattle.counterexample.proofs.show.Goals as goal

-- the rows are as wide as the query says
wide : (c : After-columns-n) → c.columns-n.result ≡ column_count c.args.query.now
wide c = c.columns-n.ensures ∙ ap column_count c.bytes.ensures.bytes

pub tested-requires : goal.tested-requires
tested-requires c = let q = c.args.query.now in let k = c.requires in
    (omega (arith, k.named.entered, produced_count_lem q), omega (arith, k.named.looked_for_below, order_count_lem q))

pub write-requires : goal.write-requires
write-requires c = let q = c.args.query.now in let e = wide (goal.at.write-requires c).After-columns-n in
    (omega (arith, e, (query_sizes_lem q c.requires.checked).few_columns), omega (arith, e, c.requires.room, column_count_lem q))

pub returns-in-Some : goal.returns-in-Some
returns-in-Some c = let a = c.args in let q = a.query.now in
    stop_shows q a.produced.0 a.sets.0 a.order.0 c.requires c.in-Some.stop c.in-Some.ensures _ (wide (goal.at.returns-in-Some c).After-columns-n ∙ sym (column_count_lem q)) c.write.ensures

pub returns-in-None : goal.returns-in-None
returns-in-None c = let a = c.args in held_shows a.query.now a.produced.0 a.sets.0 a.order.0 c.requires c.in-None.ensures

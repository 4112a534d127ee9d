-- `counterexample::named` meets its contract: by the sizes of the query.
use Prim.Native.Nat.{◌^◌}
use native.Mathlib.Omega.{arith}
use mathlib.Core.Path.{sym, ◌∙◌, ap, subst}
use lib.Dec.{ltb}
use Rattle.theory.specs.Tests.{Says, fails}
use Rattle.theory.specs.Query.{read_query}
use Rattle.theory.specs.Counterexamples.{Named}
use Rattle.counterexample.proofs.NamedLaws.{not_entered, not_looked_for, chosen_says}
use Rattle.counterexample.proofs.named.Goals as goal

pub returns-then-sizes-produced : goal.returns-then-sizes-produced
returns-then-sizes-produced c =
    let a = c.args in
    fails (not_entered a.query.now a.produced.0 a.sets.0 a.order.0 (omega (arith, c.sizes-sizes.ensures.produced)))

pub returns-then-orders-order : goal.returns-then-orders-order
returns-then-orders-order c =
    let a = c.args in
    let sizes = c.sizes-sizes.ensures in
    fails (not_looked_for a.query.now a.produced.0 a.sets.0 a.order.0 (omega (arith, sizes.produced, sizes.tested)))

pub returns : goal.returns
returns c =
    let a = c.args in
    let sizes = c.sizes-sizes.ensures in
    subst (λ n. Says (Named (read_query a.query.now) a.produced.0 a.sets.0 a.order.0) (ltb a.sets.0 n)) (sym (c.choices.ensures.0 ∙ ap (λ k. 2 ^ k) sizes.sets))
    (chosen_says a.query.now a.produced.0 a.sets.0 a.order.0 (omega (arith, sizes.produced)) (omega (arith, sizes.produced, sizes.tested)))

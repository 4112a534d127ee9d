-- `rules_in_force::list` meets its contract. The loop's invariant: the arrows of the first i dependencies are written.
use native.Mathlib.Nat.{zero-add}
use native.Mathlib.Omega.{arith}
use mathlib.Core.Path.{◌≡◌, sym, ◌∙◌, ap, subst}
use mathlib.Core.List.{map, flatten}
use Rattle.theory.specs.Tests.{up_from}
use Rattle.theory.specs.Query.{dependency_count}
use Rattle.theory.proofs.PassedLaws.{query_passed}
use Rattle.theory.proofs.RangeLaws.{flatten_more}
use Rattle.arrows.specs.Arrows.{Written, no_arrow}
use Rattle.rules_in_force.specs.Rules.{arrows_at}
use Rattle.rules_in_force.proofs.RuleLaws.{few_at, arrows_in_force}
use Rattle.rules_in_force.proofs.list.Goals.{After-dependencies-i-end}
use Rattle.rules_in_force.proofs.list.Goals as goal

-- as many dependencies are read as the query has
many : (c : After-dependencies-i-end) → c.dependencies-i-end.result ≡ dependency_count c.args.query.now
many c = c.dependencies-i-end.ensures ∙ ap dependency_count c.bytes.ensures.bytes

pub loop-i-init : goal.loop-i-init
unfolding flatten
loop-i-init c = rw c.clear.ensures (omega arith, no_arrow)

pub add-requires : goal.add-requires
add-requires c = let p = query_passed c.args.query.now c.bytes.ensures.checked in let e = many (goal.at.add-requires c).After-dependencies-i-end in
    (omega arith, omega (arith, c.loop-i.invariant.0, p.sized.few_dependencies))

pub loop-i-preserved : goal.loop-i-preserved
loop-i-preserved c = let at = c.loop-i in let a = c.args in let e = c.add.ensures in (
  omega (arith, e.few, few_at a.only a.query.now a.x at.i, at.invariant.0),
  rw (flatten_more (arrows_at a.only a.query.now a.x) 0 at.i at.i (sym (zero-add at.i))) (e.written _ at.invariant.1),
)

pub returns : goal.returns
returns c = let a = c.args in let b = a.query.now in let at = c.loop-i in
    let end : at.i ≡ dependency_count b = omega (arith, many (goal.at.returns c).After-dependencies-i-end) in
    subst (λ l. Written l at.arrows.items) (ap (λ i. flatten (map (arrows_at a.only b a.x) (up_from 0 i))) end ∙ arrows_in_force a.only b a.x (query_passed b c.bytes.ensures.checked)) at.invariant.1

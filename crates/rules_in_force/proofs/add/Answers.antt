-- `rules_in_force::add` meets its contract: a dependency that is not listed adds nothing.
use native.Mathlib.Omega.{arith}
use Prim.Native.Nat.{◌+◌}
use mathlib.Core.Path.{◌≡◌, sym, ◌∙◌, ap, ap₂, subst}
use mathlib.Core.Bool.{false}
use mathlib.Core.List.{[]}
use Rattle.theory.specs.Tests.{pick}
use Rattle.theory.specs.Orders.{Rule, Dependency, columns_of}
use Rattle.theory.specs.Query.{order_count, head_at, dependency_at}
use Rattle.theory.proofs.PassedLaws.{query_passed}
use Rattle.orders.specs.Orders.{rule_is}
use Rattle.column_masks.specs.Masks.{Narrow}
use Rattle.arrows.specs.Arrows.{arrows_of}
use Rattle.arrows.proofs.ArrowLaws.{adding_none}
use Rattle.rules_in_force.specs.Rules.{arrows_at, is_listed}
use Rattle.rules_in_force.proofs.RuleLaws.{listed_at, dependency_narrow}
use Rattle.rules_in_force.proofs.add.Goals.{After-listed, After-dependency-dependency}
use Rattle.rules_in_force.proofs.add.Goals as goal

-- the arrows by whether the dependency is listed
own-arrows : (c : After-listed) → let a = c.args in
    arrows_at a.only a.query.now a.x a.i ≡ pick c.listed.result (arrows_of false (dependency_at a.query.now (order_count a.query.now + a.i)).rule) []
own-arrows c = let a = c.args in let q = a.query.now in let same = c.bytes-bytes.ensures.bytes in
    let head = c.head-head.ensures ∙ ap₂ (λ b n. head_at b (n + a.i)) same (c.order_count.ensures.0 ∙ ap order_count same) in
    listed_at a.only q a.x a.i
    ∙ ap (λ t. pick t (arrows_of false (dependency_at q (order_count q + a.i)).rule) []) (sym (c.listed.ensures ∙ ap (is_listed a.only a.x) head))

-- the dependency that was read is dependency i
own-rule : (c : After-dependency-dependency) → let a = c.args in rule_is c.dependency-dependency.result.rule ≡ (dependency_at a.query.now (order_count a.query.now + a.i)).rule
own-rule c = ap (λ (x : Dependency). x.rule) (c.dependency-dependency.ensures ∙ ap (λ b. dependency_at b (order_count b + c.args.i)) c.bytes-bytes.ensures.bytes)

pub add_rule-requires : goal.add_rule-requires
add_rule-requires c = let q = c.args.query.now in
    (omega arith, (subst (λ (r : Rule). Narrow (columns_of r)) (sym (own-rule (goal.at.add_rule-requires c).After-dependency-dependency)) (dependency_narrow q (query_passed q c.bytes-bytes.ensures.checked) c.args.i c.requires.0), c.requires.1))

pub returns-then-listed : goal.returns-then-listed
returns-then-listed c = let a = c.args in let q = a.query.now in
    let one : arrows_at a.only q a.x a.i ≡ arrows_of false (rule_is c.dependency-dependency.result.rule) =
    own-arrows (goal.at.returns-then-listed c).After-listed ∙ ap (λ t. pick t (arrows_of false (dependency_at q (order_count q + a.i)).rule) []) c.if-listed.true ∙ ap (arrows_of false) (sym (own-rule (goal.at.returns-then-listed c).After-dependency-dependency)) in
    rw one c.add_rule.ensures

pub returns-else-listed : goal.returns-else-listed
returns-else-listed c = let a = c.args in let q = a.query.now in
    let none : arrows_at a.only q a.x a.i ≡ [] = own-arrows (goal.at.returns-else-listed c).After-listed ∙ ap (λ t. pick t (arrows_of false (dependency_at q (order_count q + a.i)).rule) []) c.if-listed.false in
    rw none (adding_none a.arrows.now.items)

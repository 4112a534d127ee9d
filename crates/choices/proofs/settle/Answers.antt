-- `choices::settle` meets its contract. The invariant: the words under the choices below x lie in their places.
use Prim.Native.Nat.{◌^◌, ◌<◌, ◌≤◌, ◌+◌}
use native.Mathlib.Omega.{arith}
use mathlib.Core.Path.{◌≡◌, sym, ◌∙◌, ap, subst}
use lib.ListN.{length}
use Rattle.theory.specs.Limits.{max_produced, max_sets}
use Rattle.theory.specs.Query.{read_query}
use Rattle.theory.proofs.QueryLaws.{produced_count_lem, set_count_lem}
use Rattle.choices.specs.Words.{settled_orders, WordsBelow}
use Rattle.choices.proofs.WordLaws.{words_choice}
use Rattle.choices.proofs.settle.Goals.{After-choices-x-end}
use Rattle.choices.proofs.settle.Goals as goal

-- there are as many choices as the sets give
counted : (c : After-choices-x-end) → c.choices-x-end.result ≡ 2 ^ (read_query c.args.query.now).sets
counted c = c.choices-x-end.ensures.0 ∙ ap (λ k. 2 ^ k) (c.sizes-sizes.ensures.sets ∙ sym (set_count_lem c.args.query.now))

pub settle_choice-requires : goal.settle_choice-requires
settle_choice-requires c = (omega (arith, counted (goal.at.settle_choice-requires c).After-choices-x-end), omega (arith, c.sizes-sizes.ensures.produced), omega arith)

pub loop-x-preserved : goal.loop-x-preserved
loop-x-preserved c =
    let b = c.args.query.now in
    let sizes = c.sizes-sizes in
    let l = c.loop-x in
    let all = sizes.ensures.produced ∙ sym (produced_count_lem b) in
    let some : length (read_query b).produced ≤ max_produced = omega (arith, all, sizes.result.few_produced) in
    let few : (read_query b).sets ≤ max_sets = omega (arith, set_count_lem b, sizes.ensures.sets, sizes.result.few_sets) in
    let low : l.x < 2 ^ (read_query b).sets = omega (arith, counted (goal.at.loop-x-preserved c).After-choices-x-end) in
    subst (λ after. WordsBelow b after (l.x + 1)) (sym (c.settle_choice.ensures ∙ ap (λ n. settled_orders b l.x 0 n l.work) all))
    (words_choice b some few l.x low l.work (omega arith) l.invariant)

pub returns : goal.returns
returns c = let b = c.args.query.now in let l = c.loop-x in
    (subst (λ k. WordsBelow b l.work k) (omega (arith, counted (goal.at.returns c).After-choices-x-end)) l.invariant, l.auto.work)

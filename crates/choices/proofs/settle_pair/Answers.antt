-- `choices::settle_pair` meets its contract: the number's produced order and choice are the pair's.
use Prim.Native.Nat.{◌/◌, ◌^◌, ◌<◌}
use native.Mathlib.Omega.{arith}
use mathlib.Core.Path.{◌≡◌, sym, ◌∙◌, ap}
use Rattle.theory.specs.Query.{read_query, produced_count}
use Rattle.theory.proofs.QueryLaws.{set_count_lem}
use Rattle.choices.proofs.PairLaws.{order_below, choice_below, pair_written}
use Rattle.choices.proofs.settle_pair.Goals.{After-choices-choices}
use Rattle.choices.proofs.settle_pair.Goals as goal

-- there are as many choices as the sets give, and the number's produced order is one of the query's
counted : (c : After-choices-choices) → c.choices-choices.result ≡ 2 ^ (read_query c.args.query.now).sets
counted c = c.choices-choices.ensures.0 ∙ ap (λ k. 2 ^ k) (c.sizes.ensures.sets ∙ sym (set_count_lem c.args.query.now))

order : (c : After-choices-choices) → c.args.k / c.choices-choices.result < produced_count c.args.query.now
order c = order_below c.args.query.now c.args.k c.choices-choices.result (counted c) c.requires.0

pub overflow_cast-p : goal.overflow_cast-p
overflow_cast-p c = omega (arith, order (goal.at.overflow_cast-p c).After-choices-choices, c.sizes.ensures.produced, c.sizes.result.few_produced)

pub settle_choice-requires : goal.settle_choice-requires
settle_choice-requires c = let here = (goal.at.settle_choice-requires c).After-choices-choices in
    (choice_below c.args.query.now c.args.k c.choices-choices.result (counted here), omega (arith, order here), c.requires.1)

pub returns : goal.returns
returns c =
    c.settle_choice.ensures ∙ pair_written c.args.query.now c.args.k c.choices-choices.result (counted (goal.at.returns c).After-choices-choices) c.args.work.now

-- `step_checks::pairs` meets its contract.
use Prim.Native.Nat.{◌*◌, ◌^◌}
use native.Mathlib.Nat.{mul-le-mul}
use mathlib.Core.Path.{sym, ◌∙◌, ap, ap₂}
use Rattle.theory.proofs.QueryLaws.{produced_count_lem, set_count_lem}
use Rattle.step_checks.proofs.pairs.Goals as goal

pub returns : goal.returns
returns c = let b = c.args.query.now in let sizes = c.sizes-sizes in
    (ap₂ ◌*◌ (sizes.ensures.produced ∙ sym (produced_count_lem b)) (c.choices.ensures.0 ∙ ap (λ n. 2 ^ n) (sizes.ensures.sets ∙ sym (set_count_lem b))), mul-le-mul {n₂ = 8} sizes.result.few_produced c.choices.ensures.1)

-- `CheckedQuery::sizes` meets its contract: the checks leave no size outside its limits.
use native.Mathlib.Omega.{arith}
use Rattle.theory.proofs.QueryLaws.{query_sizes_lem}
use Rattle.query.proofs.checked.CheckedQuery.sizes.Goals as goal

pub invariant_of-result : goal.invariant_of-result
invariant_of-result c =
    let sizes = query_sizes_lem c.self.inside.bytes.now c.self.invariant in
    record {
      few_produced = omega (arith, sizes.few_produced, c.produced-produced.ensures);
      few_tested = omega (arith, sizes.few_tested, c.tested-tested.ensures);
      few_sets = omega (arith, sizes.few_sets, c.sets-sets.ensures);
    }

pub returns-clause-some_produced : goal.returns-clause-some_produced
returns-clause-some_produced c =
    let sizes = query_sizes_lem c.self.inside.bytes.now c.self.invariant in
    omega (arith, sizes.some_produced, c.produced-produced.ensures)

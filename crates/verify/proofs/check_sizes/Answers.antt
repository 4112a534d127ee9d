-- `verify::check_sizes` meets its contract: all three sizes the same, or one that differs.
use native.Mathlib.Omega.{arith}
use Rattle.theory.proofs.QueryLaws.{produced_count_lem, tested_count_lem, set_count_lem}
use Rattle.verify.proofs.OwnLaws.{sizes_differ, sizes_agree}
use Rattle.verify.proofs.check_sizes.Goals.{else-produced-via-then-produced+then-tested+else-sets, else-produced-via-then-produced+else-tested, else-produced-via-else-produced}
use Rattle.verify.proofs.check_sizes.Goals as goal

pub returns-then-sets : goal.returns-then-sets
returns-then-sets c = let a = c.args in
    sizes_agree a.query.now a.table.now
    (record { produced = omega (arith, produced_count_lem a.query.now); tested = omega (arith, tested_count_lem a.query.now); sets = omega (arith, set_count_lem a.query.now) })

pub returns-else-produced : goal.returns-else-produced
returns-else-produced c = let a = c.args in
    sizes_differ a.query.now a.table.now
    (λ s. elim c.else-produced.branch [
      | else-produced-via-then-produced+then-tested+else-sets w ↦ w.if-sets.false (omega (arith, s.sets, set_count_lem a.query.now))
      | else-produced-via-then-produced+else-tested w ↦ w.if-tested.false (omega (arith, s.tested, tested_count_lem a.query.now))
      | else-produced-via-else-produced w ↦ w.if-produced.false (omega (arith, s.produced, produced_count_lem a.query.now))
    ])

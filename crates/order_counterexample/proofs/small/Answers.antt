-- Its three tests are the three bounds.
use Rattle.std.proofs.Common.{rules, arith}
use Rattle.theory.specs.Tests.{fails}
use Rattle.theory.proofs.Reflect.{says_as, says_ltb}
use Rattle.order_counterexample.proofs.small.Goals as goal

pub returns-then-produced-ge-LARGE_NUMBER : goal.returns-then-produced-ge-LARGE_NUMBER
returns-then-produced-ge-LARGE_NUMBER c = fails (λ s. omega arith)

pub returns-then-sets-ge-LARGE_NUMBER : goal.returns-then-sets-ge-LARGE_NUMBER
returns-then-sets-ge-LARGE_NUMBER c = fails (λ s. omega arith)

pub returns : goal.returns
returns c = says_as (λ h. record { produced_small = search rules; sets_small = search rules; order_small = h }) (λ s. s.order_small) (says_ltb _ _)

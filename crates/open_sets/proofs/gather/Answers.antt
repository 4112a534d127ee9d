-- `open_sets::gather` meets its contract. The invariant: the open sets that the sets before number s add are gathered.
use Prim.Native.Nat.{◌+◌}
use native.Mathlib.Omega.{arith}
use mathlib.Core.Path.{subst}
use lib.ListN.{take}
use Rattle.theory.specs.Scratch.{held_part}
use Rattle.pair_words.proofs.PairWords.{choice_few}
use Rattle.open_sets.specs.Open.{Gathered, next_open}
use Rattle.open_sets.proofs.OpenLaws.{gathered_all}
use Rattle.open_sets.proofs.gather.Goals as goal

pub returns : goal.returns
returns c =
    let a = c.args in
    let z = a.sizes in
    let l = c.loop-s in
    let o = next_open z.sets a.work.now a.pair.order a.pair.choice in
    let all = subst (λ n. Gathered (z.produced + z.tested) z.sets (take held_part a.work.now) o a.pair.order a.pair.choice n l.gathered) {y = z.sets} (omega arith) l.invariant in
    (gathered_all (z.produced + z.tested) z.sets (take held_part a.work.now) o a.pair.order a.pair.choice l.gathered c.requires.0 all, omega (arith, l.invariant.low, choice_few z.sets z.few_sets))

-- `table_rows::numbered::number_whole` meets its contract, by the three ways to number a row.
use Prim.Native.Nat.{◌+◌}
use native.Mathlib.Omega.{arith}
use Rattle.pair_words.proofs.PairWords.{choice_few, placed_two}
use Rattle.row_pairs.specs.RowPairs.{row_place}
use Rattle.table_rows.proofs.NumberLaws.{numbering_known, numbering_full, numbering_new}
use Rattle.table_rows.proofs.numbered.number_whole.Goals as goal

pub returns-in-Some : goal.returns-in-Some
returns-in-Some c =
    let a = c.args in
    let z = a.sizes in
    let f = c.in-Some in
    numbering_known z.produced (z.produced + z.tested) z.sets a.work.now a.count a.pair.order a.pair.choice c.requires.0 c.requires.1 f.number f.ensures.0 f.ensures.1

pub returns-then-count-eq-MAX_STATES : goal.returns-then-count-eq-MAX_STATES
returns-then-count-eq-MAX_STATES c =
    let a = c.args in
    let z = a.sizes in
    numbering_full z.produced (z.produced + z.tested) z.sets a.work.now a.count a.pair.order a.pair.choice c.requires.0 c.requires.1 c.in_default.ensures c.if-count-eq-MAX_STATES.true

pub overflow_cast-work-2 : goal.overflow_cast-work-2
overflow_cast-work-2 c = omega (arith, c.requires.3, choice_few c.args.sizes.sets c.args.sizes.few_sets)

pub returns : goal.returns
returns c =
    let a = c.args in
    let z = a.sizes in
    let p = a.pair.order in
    let m = a.pair.choice in
    let r = c.requires in
    rw (placed_two (row_place a.count) p m a.work.now (omega (arith, r.0.few)))
    (numbering_new z.produced (z.produced + z.tested) z.sets a.work.now a.count p m r.0 r.1 c.in_default.ensures (omega (arith, r.0.few)) r.2 z.few_produced r.3 r.4 r.5)

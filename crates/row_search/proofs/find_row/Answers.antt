-- `row_search::find_row` meets its contract. No row before row i is the pair's; row i has the same choice, and the words under the larger choices before x are the same.
use Prim.Native.Nat.{◌+◌, ◌^◌, ◌<◌}
use native.Mathlib.Omega.{arith}
use mathlib.Core.Path.{◌≡◌, sym, ◌∙◌, ap₂}
use lib.Bits.{or_self}
use lib.ListN.{take}
use Rattle.theory.specs.Scratch.{held_part}
use Rattle.row_pairs.specs.RowPairs.{cut_word}
use Rattle.row_search.proofs.SupersetLaws.{or_below, superset_more, superset_step, superset_has, supersets_same, superset_tells}
use Rattle.row_search.proofs.FindLaws.{searched_all, searched_found, searched_more, other_choice}
use Rattle.row_search.proofs.find_row.Goals as goal

pub row-preserved-then-row-pair : goal.row-preserved-then-row-pair
row-preserved-then-row-pair c =
    let a = c.args in
    let z = a.sizes in
    let i = c.row.i in
    let r = c.row_pair-row in
    let w = c.requires.1 in
    searched_more (z.produced + z.tested) z.sets a.work.now a.count a.pair.order a.pair.choice c.row.invariant (omega arith) r.ensures.order r.ensures.choice
    (λ e. c.if-row-pair.true (other_choice z.produced (z.produced + z.tested) z.sets a.work.now w.opened a.pair.order a.pair.choice r.result.order r.result.choice c.requires.2 (omega (arith, r.ensures.order, w.own i (omega arith))) c.requires.3
    (omega (arith, r.ensures.choice, c.requires.0.choices i (omega arith))) c.requires.4 (rw (r.ensures.order, r.ensures.choice) (w.whole i (omega arith))) e))

pub loop-x-init : goal.loop-x-init
loop-x-init c = let a = c.args in (or_self a.pair.choice, λ y h l e. absurd (omega (arith, or_below y a.pair.choice e)))

pub row-preserved : goal.row-preserved
row-preserved c =
    let a = c.args in
    let z = a.sizes in
    let l = c.loop-x in
    let r = c.row_pair-row in
    let words = take held_part a.work.now in
    let word = cut_word (z.produced + z.tested) z.sets words in
    let own = c.cut_word.ensures.0 ∙ ap₂ word c.under.ensures.order c.under.ensures.choice in
    let other = c.cut_word-in-loop-x.ensures.0 ∙ ap₂ word c.under-in-loop-x.ensures.order c.under-in-loop-x.ensures.choice in
    searched_more (z.produced + z.tested) z.sets a.work.now a.count a.pair.order a.pair.choice c.row.invariant (omega arith) r.ensures.order (sym c.if-row-pair.false ∙ r.ensures.choice)
    (λ e. c.if-cut_word.true (own ∙ superset_tells (z.produced + z.tested) z.sets words a.pair.order r.result.order a.pair.choice e l.x (omega arith) l.invariant.0 ∙ sym other))

pub loop-x-smaller : goal.loop-x-smaller
loop-x-smaller c = let l = c.loop-x in omega (arith, superset_more c.args.pair.choice l.x)

pub loop-x-preserved : goal.loop-x-preserved
loop-x-preserved c =
    let a = c.args in
    let z = a.sizes in
    let l = c.loop-x in
    let m = a.pair.choice in
    let q = c.row_pair-row.result.order in
    let word = cut_word (z.produced + z.tested) z.sets (take held_part a.work.now) in
    let own = c.cut_word.ensures.0 ∙ ap₂ word c.under.ensures.order c.under.ensures.choice in
    let other = c.cut_word-in-loop-x.ensures.0 ∙ ap₂ word c.under-in-loop-x.ensures.order c.under-in-loop-x.ensures.choice in
    let same = sym own ∙ c.if-cut_word.false ∙ other in (
      superset_has m l.x,
      λ y h k e. superset_step (λ n. n < 2 ^ z.sets → word a.pair.order n ≡ word q n) m l.x l.invariant.0 (λ d. same) (λ n d f b. l.invariant.1 n d b f) y h e k,
    )

pub returns-in-row : goal.returns-in-row
returns-in-row c =
    let a = c.args in
    let z = a.sizes in
    let r = c.row_pair-row in
    let same = supersets_same (z.produced + z.tested) z.sets (take held_part a.work.now) a.pair.order r.result.order a.pair.choice (λ y h e. c.loop-x.invariant.1 y (omega arith) h e) c.requires.3 in
    (omega arith, searched_found (z.produced + z.tested) z.sets a.work.now a.count a.pair.order a.pair.choice c.row.invariant (omega arith) r.ensures.order (sym c.if-row-pair.false ∙ r.ensures.choice) same)

pub returns : goal.returns
returns c =
    let a = c.args in
    let z = a.sizes in
    sym (searched_all (z.produced + z.tested) z.sets a.work.now a.count a.pair.order a.pair.choice c.row.invariant (omega arith))

-- `open_sets::add` meets its contract: the set is in force and adds nothing, or it adds what is open behind it, and itself where the word is another.
use Prim.Native.Nat.{◌+◌, ◌*◌, ◌%◌, ◌^◌}
use native.Mathlib.Nat.{one-mul}
use native.Mathlib.Omega.{arith}
use mathlib.Core.Path.{◌≡◌, ◌∙◌}
use lib.ListN.{take}
use lib.Pow.{shl_exact}
use borrow.Author.Tests.{eq-eqb, ne_eqb}
use Rattle.theory.specs.Scratch.{held_part}
use Rattle.open_sets.specs.Open.{next_open}
use Rattle.open_sets.proofs.OpenLaws.{gathered_skip}
use Rattle.open_sets.proofs.OpenPairs.{looked_same, looked_other}
use Rattle.open_sets.proofs.add.Goals as goal

pub returns-then-pair-s-eq1 : goal.returns-then-pair-s-eq1
returns-then-pair-s-eq1 c =
    let a = c.args in
    gathered_skip (a.sizes.produced + a.sizes.tested) a.sizes.sets (take held_part a.work.now) (next_open a.sizes.sets a.work.now a.pair.order a.pair.choice) a.pair.order a.pair.choice a.s a.gathered (eq-eqb _ 1 c.if-pair-s-eq1.true) c.requires.0

pub returns-then-cut_word : goal.returns-then-cut_word
returns-then-cut_word c =
    let a = c.args in
    looked_same (a.sizes.produced + a.sizes.tested) a.sizes.sets a.pair.order a.pair.choice a.s a.gathered a.work.now c.with_set-next.ensures.order c.with_set-next.ensures.choice.0 c.open_in.ensures
    c.cut_word.ensures.0 c.cut_word-2.ensures.0 (ne_eqb _ 1 c.if-pair-s-eq1.false) c.requires.4 c.requires.1 c.requires.0 c.if-cut_word.true

pub returns : goal.returns
returns c =
    let a = c.args in
    let bit : (1 * 2 ^ a.s) % 2 ^ 64 ≡ 2 ^ a.s = shl_exact 1 a.s 64 (omega arith) (omega arith) ∙ one-mul _ in
    rw bit
    (looked_other (a.sizes.produced + a.sizes.tested) a.sizes.sets a.pair.order a.pair.choice a.s a.gathered a.work.now c.with_set-next.ensures.order c.with_set-next.ensures.choice.0 c.open_in.ensures
    c.cut_word.ensures.0 c.cut_word-2.ensures.0 (ne_eqb _ 1 c.if-pair-s-eq1.false) c.requires.4 c.requires.1 c.requires.0 c.if-cut_word.false)

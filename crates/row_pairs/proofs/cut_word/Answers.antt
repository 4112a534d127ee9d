-- `row_pairs::cut_word` meets its contract: the shift loses no bit, and of the word so many bits are left.
use Prim.Native.Nat.{◌*◌, ◌+◌, ◌%◌, ◌^◌}
use native.Mathlib.Nat.{mod-le, one-mul}
use native.Mathlib.Omega.{arith}
use mathlib.Core.Path.{◌≡◌, sym, ◌∙◌, ap, ap₂}
use lib.ListN.{take}
use lib.Pow.{shl_exact}
use lib.Seq.{take-take}
use Rattle.theory.specs.Scratch.{held_part}
use Rattle.pair_words.proofs.PairWords.{choice_few, word_same}
use Rattle.row_pairs.proofs.cut_word.Goals as goal

pub overflow_cast-pair-2 : goal.overflow_cast-pair-2
overflow_cast-pair-2 c = omega (arith, c.requires.1, choice_few c.args.sizes.sets c.args.sizes.few_sets)

pub returns : goal.returns
returns c =
    let a = c.args in
    let z = a.sizes in
    let w = a.work.now in
    let n = c.orders.result in
    let bits : (1 * 2 ^ n) % 2 ^ 64 ≡ 2 ^ (z.produced + z.tested) = shl_exact 1 n 64 (omega arith) (omega arith) ∙ one-mul _ ∙ ap (λ k. 2 ^ k) c.orders.ensures in
    let front = word_same z.sets a.pair.order a.pair.choice c.requires.0 z.few_sets c.requires.1 w (take held_part w) (sym (take-take held_part held_part w (omega arith))) in
    (ap₂ ◌%◌ (c.read-word.ensures ∙ front) bits, omega (arith, mod-le c.read-word.result ((1 * 2 ^ n) % 2 ^ 64)))

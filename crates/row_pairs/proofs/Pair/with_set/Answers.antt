-- `row_pairs::Pair::with_set` meets its contract: the shift loses no bit, and set s is one of the sets.
use Prim.Native.Nat.{◌*◌, ◌%◌, ◌^◌}
use native.Mathlib.Nat.{one-mul}
use native.Mathlib.Omega.{arith}
use mathlib.Core.Path.{◌≡◌, ◌∙◌, ap}
use lib.Bits.{bit_or, or_lt}
use lib.Pow.{shl_exact, pow-lt}
use Rattle.row_pairs.proofs.Pair.with_set.Goals as goal

pub returns-clause-choice : goal.returns-clause-choice
returns-clause-choice c =
    let a = c.args in
    let bit : (1 * 2 ^ a.s) % 2 ^ 64 ≡ 2 ^ a.s = shl_exact 1 a.s 64 (omega arith) (omega arith) ∙ one-mul _ in
    let e = c.under.ensures.choice ∙ ap (bit_or a.self.choice) bit in
    (e, rw e (or_lt a.sizes.sets a.self.choice (2 ^ a.s) c.requires.0 (pow-lt c.requires.1)))

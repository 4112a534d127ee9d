-- `bit_sets::add` meets its contract: the shift gives the bit's own power of two.
use Prim.Native.Nat.{◌*◌, ◌/◌, ◌%◌, ◌^◌}
use native.Mathlib.Nat.{one-mul}
use native.Mathlib.Omega.{arith}
use mathlib.Core.Path.{◌≡◌, refl, ◌∙◌}
use lib.ListN.{length-set}
use lib.Pow.{shl_exact}
use Rattle.bit_sets.specs.BitSets.{with_bit}
use Rattle.bit_sets.proofs.add.Goals as goal

pub returns : goal.returns
unfolding with_bit
returns c =
    let a = c.args in
    let e : 1 * 2 ^ (a.i % 8) % 256 ≡ 2 ^ (a.i % 8) = shl_exact 1 (a.i % 8) 8 (omega arith) (omega arith) ∙ one-mul (2 ^ (a.i % 8)) in
    rw e (refl, length-set a.bits.now (a.i / 8) _)

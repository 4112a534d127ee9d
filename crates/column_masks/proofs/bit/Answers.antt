-- `column_masks::bit` meets its contract: the shift loses no bit.
use native.Mathlib.Nat.{one-mul}
use native.Mathlib.Omega.{arith}
use mathlib.Core.Path.{◌∙◌}
use lib.Pow.{shl_exact}
use Rattle.column_masks.proofs.bit.Goals as goal

pub returns : goal.returns
returns c = shl_exact 1 c.args.c 16 (omega arith) (omega arith) ∙ one-mul _

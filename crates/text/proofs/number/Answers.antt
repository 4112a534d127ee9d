-- `text::number` meets its contract: three digits are enough below a thousand.
use native.Mathlib.Omega.{arith}
use Rattle.text.proofs.TextLaws.{wrote_as}
use Rattle.text.proofs.DigitLaws.{three_digits}
use Rattle.text.proofs.number.Goals as goal

pub returns : goal.returns
returns c = wrote_as (three_digits c.args.n c.requires.0) (omega arith) c.number_of.ensures

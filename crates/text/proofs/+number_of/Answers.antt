-- The last digit stands alone, or behind those of the tenth part.
use native.Mathlib.Omega.{arith}
use mathlib.Core.Path.{◌≡◌}
use Rattle.text.proofs.TextLaws.{wrote_none, wrote_as, wrote_on}
use Rattle.text.proofs.DigitLaws.{digits_one, digits_more}
use Rattle.text.proofs.+number_of.Goals as goal

pub returns-then-k-eq0 : goal.returns-then-k-eq0
returns-then-k-eq0 t c =
    let e : c.args.k ≡ 0 = c.if-k-eq0.true in
    rw e (wrote_none _ _ (omega arith))

pub returns-then-n-lt10 : goal.returns-then-n-lt10
returns-then-n-lt10 t c = wrote_as (digits_one c.args.k c.args.n (omega arith) (omega arith)) (omega arith) c.digit.ensures

pub returns : goal.returns
returns t c =
    wrote_as (digits_more c.args.k c.args.n (omega arith) (omega arith)) (omega arith) (wrote_on c.number_of-last.ensures c.digit-2.ensures)

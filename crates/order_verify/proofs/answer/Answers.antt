-- The first bytes have the outcome of the whole files.
use Rattle.std.proofs.Common.{arith}
use Rattle.order_verify.proofs.VerdictLaws.{decides}
use Rattle.order_verify.proofs.answer.Goals as goal

pub returns : goal.returns
returns c = decides c.args.query.now c.args.table.now (omega arith) c.verify.ensures.value c.verdict.ensures

-- `query::bytes::body` meets its contract: the four bytes, and as many of them as are there.
use Prim.Native.Nat.{◌+◌, ◌*◌}
use native.Mathlib.Omega.{arith}
use Rattle.theory.specs.Limits.{query_sizes, body_width}
use Rattle.query.proofs.Bodies.{four_at}
use Rattle.query.proofs.bytes.body.Goals as goal

pub returns : goal.returns
returns c = let a = c.args in
    let at = query_sizes + c.item_count.result + a.i * body_width in
    record { order = cc (four_at a.query.now at c.min.result (omega arith)); short = omega arith }

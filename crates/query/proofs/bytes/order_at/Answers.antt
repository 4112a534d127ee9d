-- `query::bytes::order_at` meets its contract: as many of the four bytes as the head says.
use Rattle.query.proofs.bytes.order_at.Goals as goal

pub returns : goal.returns
returns c = rw (c.body.ensures.order, c.head.ensures) at c.front.ensures

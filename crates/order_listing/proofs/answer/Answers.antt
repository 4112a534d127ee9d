-- With room for every listing no refusal comes.
use Rattle.std.proofs.Common.{arith}
use Rattle.query_listing.proofs.RoomLaws.{room_granted, room_listed}
use Rattle.order_listing.proofs.ListsLaws.{lists}
use Rattle.order_listing.proofs.answer.Goals as goal

pub unwrap-requires : goal.unwrap-requires
unwrap-requires c =
    room_granted c.args.front.now c.args.text.now _ (omega arith) c.requires c.list.result c.list.ensures.value

pub returns : goal.returns
returns c =
    let e = c.list.ensures in
    lists c.args.front.now (room_listed c.args.front.now c.args.text.now _ (omega arith) c.requires e.value e.text_after c.unwrap.ensures)

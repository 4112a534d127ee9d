-- `table_rows::walk::visit` meets its contract: row i's two bytes are the pair that gives it.
use lib.ListN.{take}
use Rattle.theory.specs.Scratch.{held_part}
use Rattle.table_rows.specs.Walk.{sizes_of}
use Rattle.table_rows.proofs.TakingLaws.{taking_none}
use Rattle.table_rows.proofs.walk.visit.Goals as goal

pub take_sets-requires : goal.take_sets-requires
take_sets-requires c =
    let a = c.args in
    let r = c.row_pair-pair.ensures in
    (taking_none (sizes_of a.sizes) (take held_part a.work.now) c.requires.0 c.requires.1 r.order r.choice, c.requires.2)

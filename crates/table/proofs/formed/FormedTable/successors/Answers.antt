-- `FormedTable::successors` meets its contract: a state's row ends where the successors end, or before.
use native.Mathlib.Omega.{arith}
use Rattle.theory.specs.Table.{states_in}
use Rattle.byte_rows.proofs.RowLaws.{row_fits}
use Rattle.table.proofs.formed.FormedTable.successors.Goals as goal

pub row-requires : goal.row-requires
row-requires c =
    let formed = c.self.invariant in
    let state = rw (← c.self.view_is) at c.requires in
    rw (c.successors_base.ensures.0, c.sets.ensures.0) (row_fits _ _ {n = states_in c.self.inside.bytes.now} (omega (arith, formed.total)) state)

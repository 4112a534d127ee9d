-- `TwoTables::new` meets its contract: tables that can be compared have a table's form.
use Rattle.joint_states.proofs.TogetherLaws.{our_form, their_form}
use Rattle.joint_states.proofs.tables.TwoTables.new.Goals as goal

pub new-requires : goal.new-requires
new-requires c = our_form c.requires

pub new-requires-2 : goal.new-requires-2
new-requires-2 c = their_form c.requires

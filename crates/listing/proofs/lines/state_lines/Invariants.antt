use Prim.Native.Nat.{◌*◌}
use Rattle.theory.specs.Listing.{state_line}
use Rattle.text.specs.Text.{Wrote}
use Rattle.listing.specs.Lines.{longest_state, lines}
use Rattle.listing.proofs.lines.state_lines.Given as goal

abbrev pub invariant-loop-state : goal.invariant-loop-state
invariant-loop-state l = Wrote l.initial.text l.at (lines (state_line l.table) l.state) (l.state * longest_state) l.text l.end

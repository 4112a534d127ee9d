use Prim.Native.Nat.{◌*◌}
use Rattle.theory.specs.Listing.{start_line}
use Rattle.text.specs.Text.{Wrote}
use Rattle.listing.specs.Lines.{longest_start, lines}
use Rattle.listing.proofs.lines.start_lines.Given as goal

abbrev pub invariant-loop-p : goal.invariant-loop-p
invariant-loop-p l = Wrote l.initial.text l.at (lines (start_line l.table) l.p) (l.p * longest_start) l.text l.end

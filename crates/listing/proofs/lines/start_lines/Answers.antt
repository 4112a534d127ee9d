-- `listing::lines::start_lines` meets its contract. The loop's invariant: the first p lines are written, each of at most 14 bytes.
use native.Mathlib.Omega.{arith}
use mathlib.Core.Path.{◌≡◌, ◌∙◌, ap}
use mathlib.Core.List.{flatten}
use Rattle.theory.specs.Table.{produced_in}
use Rattle.theory.specs.Listing.{start_line}
use Rattle.text.proofs.TextLaws.{wrote_none, wrote_as, wrote_turn}
use Rattle.listing.specs.Lines.{lines}
use Rattle.listing.proofs.LineLaws.{lines_more}
use Rattle.listing.proofs.lines.start_lines.Goals.{After-produced-p-end}
use Rattle.listing.proofs.lines.start_lines.Goals as goal

-- the table's produced orders
produced : (c : After-produced-p-end) → c.produced-p-end.result ≡ produced_in c.args.table.now
produced c = c.produced-p-end.ensures.0 ∙ ap produced_in c.bytes.ensures.bytes

pub loop-p-init : goal.loop-p-init
unfolding flatten
loop-p-init c = wrote_none _ _ (omega arith)

pub start_line-end-requires : goal.start_line-end-requires
start_line-end-requires c =
    let all = produced (goal.at.start_line-end-requires c).After-produced-p-end in
    (omega (arith, all), omega (arith, all, c.bytes.ensures.formed.few_produced))

pub loop-p-preserved : goal.loop-p-preserved
loop-p-preserved c =
    let l = c.loop-p in
    wrote_turn l.p (lines_more (start_line c.args.table.now) l.p) l.invariant c.start_line-end.ensures

pub returns : goal.returns
returns c =
    let l = c.loop-p in
    let table = c.args.table.now in
    let all = produced (goal.at.returns c).After-produced-p-end in
    let end : l.p ≡ produced_in table = omega (arith, all) in
    wrote_as (ap (lines (start_line table)) end) (omega (arith, all, c.bytes.ensures.formed.few_produced)) l.invariant

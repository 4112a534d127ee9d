-- `listing::lines::state_lines` meets its contract. The loop's invariant: the first lines are written, one per state passed, each of at most 58 bytes.
use native.Mathlib.Omega.{arith}
use mathlib.Core.Path.{◌≡◌, ◌∙◌, ap}
use mathlib.Core.List.{flatten}
use Rattle.theory.specs.Table.{states_in}
use Rattle.theory.specs.Listing.{state_line}
use Rattle.text.proofs.TextLaws.{wrote_none, wrote_as, wrote_turn}
use Rattle.listing.specs.Lines.{lines}
use Rattle.listing.proofs.LineLaws.{lines_more}
use Rattle.listing.proofs.lines.state_lines.Goals.{After-states-state-end}
use Rattle.listing.proofs.lines.state_lines.Goals as goal

-- the table's states
states : (c : After-states-state-end) → c.states-state-end.result ≡ states_in c.args.table.now
states c = c.states-state-end.ensures.0 ∙ ap states_in c.bytes.ensures.bytes

pub loop-state-init : goal.loop-state-init
unfolding flatten
loop-state-init c = wrote_none _ _ (omega arith)

pub state_line-end-requires : goal.state_line-end-requires
state_line-end-requires c =
    let all = states (goal.at.state_line-end-requires c).After-states-state-end in
    (c.bytes.ensures.formed, omega (arith, all), omega (arith, all, c.bytes.ensures.formed.few_states))

pub loop-state-preserved : goal.loop-state-preserved
loop-state-preserved c =
    let l = c.loop-state in
    wrote_turn l.state (lines_more (state_line c.args.table.now) l.state) l.invariant c.state_line-end.ensures

pub returns : goal.returns
returns c =
    let l = c.loop-state in
    let table = c.args.table.now in
    let all = states (goal.at.returns c).After-states-state-end in
    let end : l.state ≡ states_in table = omega (arith, all) in
    wrote_as (ap (lines (state_line table)) end) (omega (arith, all, c.bytes.ensures.formed.few_states)) l.invariant

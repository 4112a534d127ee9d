-- `formed_lookup::take` meets its contract: the test of the state and the look-up in its row that led to each answer pick it.
use Prim.Native.Nat.{◌<◌, ◌≤◌}
use native.Mathlib.Omega.{arith}
use mathlib.Core.Path.{◌∙◌, ap}
use Rattle.std.proofs.lemmas.List.{get_or_read}
use Rattle.theory.specs.Query.{byte_at}
use Rattle.theory.specs.Table.{states_in, sets_in, take_in}
use Rattle.theory.proofs.Picks.{picks}
use Rattle.table.proofs.FormLaws.{form_passed}
use Rattle.formed_lookup.proofs.take.Goals as goal

pub returns-then-states-state : goal.returns-then-states-state
unfolding take_in
returns-then-states-state c =
    let h : states_in c.args.table.now ≤ c.args.state.0 = omega (arith, ap states_in c.bytes.ensures.bytes) in
    rw (form_passed c.bytes.ensures.formed) (search picks)

pub returns-in_default : goal.returns-in_default
unfolding take_in
returns-in_default c =
    let h : c.args.state.0 < states_in c.args.table.now = omega (arith, ap states_in c.bytes.ensures.bytes) in
    let k : sets_in c.args.table.now ≤ c.args.set.0 = omega (arith, c.successors.ensures.1, c.in_default.ensures.lookup.3) in
    rw (form_passed c.bytes.ensures.formed) (search picks)

pub returns : goal.returns
unfolding take_in
returns c =
    let found = c.in-Some.ensures.lookup in
    let h : c.args.state.0 < states_in c.args.table.now = omega (arith, ap states_in c.bytes.ensures.bytes) in
    let k : c.args.set.0 < sets_in c.args.table.now = omega (arith, c.successors.ensures.1, found.3.0) in
    let successor = get_or_read c.successors.result.now _ _ found.3.0 found.1 0 ∙ ap (λ row. byte_at row c.args.set.0) c.successors.ensures.0 in
    let granted = rw successor at c.granted.ensures in
    rw (form_passed c.bytes.ensures.formed) (search (picks, granted))

-- `formed_lookup::enter` meets its contract: the look-up among the starts that led to each answer picks it.
use Prim.Native.Nat.{◌<◌, ◌≤◌}
use native.Mathlib.Omega.{arith}
use mathlib.Core.Path.{◌∙◌}
use Rattle.std.proofs.lemmas.List.{get_or_read}
use Rattle.theory.specs.Table.{produced_in, enter}
use Rattle.theory.proofs.Picks.{picks}
use Rattle.table.proofs.FormLaws.{form_passed}
use Rattle.formed_lookup.proofs.enter.Goals as goal

pub returns-in_default : goal.returns-in_default
unfolding enter
returns-in_default c =
    let h : produced_in c.args.table.now ≤ c.args.order.0 = omega (arith, c.starts.ensures.length, c.in_default.ensures.lookup.3) in
    rw (form_passed c.starts.ensures.formed) (search picks)

pub returns : goal.returns
unfolding enter
returns c =
    let found = c.in-Some.ensures.lookup in
    let h : c.args.order.0 < produced_in c.args.table.now = omega (arith, c.starts.ensures.length, found.3.0) in
    let start = get_or_read c.starts.result.now _ _ found.3.0 found.1 0 ∙ c.starts.ensures.starts c.args.order.0 h in
    let granted = rw start at c.granted.ensures in
    rw (form_passed c.starts.ensures.formed) (search (picks, granted))

-- `replay::run` meets its contract. The loop's invariant: the bytes of the first i lookups are answers, and with the rest replayed from the mark they are the whole.
use Prim.Native.Nat.{◌+◌, ◌*◌, ◌<◌}
use native.Mathlib.Omega.{arith}
use mathlib.Core.Path.{◌≡◌, refl, sym, ◌∙◌, ap}
use mathlib.Core.List.{◌++◌}
use lib.ListN.{length, take, drop, length-drop, take-append-drop}
use borrow.Author.Rules.{rules}
use Rattle.replay.proofs.ReplayLaws.{replayed_turn, replayed_short}
use Rattle.replay.proofs.run.Goals as goal

pub loop-i-init : goal.loop-i-init
loop-i-init c = (search rules, refl)

pub loop-i-preserved : goal.loop-i-preserved
loop-i-preserved c =
    let l = c.loop-i in
    let table = c.args.table.now in
    let answered = c.answer.ensures in
    let next : 2 * (l.i + 1) ≡ 2 * l.i + 2 = omega arith in
    (search rules, rw (next, answered.state_value, answered.lookups_after) (replayed_turn table l.mark.state.0 l.lookups (2 * l.i) (omega arith) ∙ l.invariant.1))

pub returns : goal.returns
returns c =
    let l = c.loop-i in
    let table = c.args.table.now in
    let left : length (drop (2 * l.i) l.lookups) < 2 = rw length-drop (omega arith) in
    sym (take-append-drop (2 * l.i) l.lookups) ∙ ap (λ r. take (2 * l.i) l.lookups ++ r) (sym (replayed_short table l.mark.state.0 (drop (2 * l.i) l.lookups) left)) ∙ l.invariant.1

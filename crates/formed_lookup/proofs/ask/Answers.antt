-- `formed_lookup::ask` meets its contract: the state or the order is not in the table, or the order's bit is 1 or 0.
use Prim.Native.Nat.{◌/◌, ◌^◌, ◌≤◌}
use native.Mathlib.Omega.{arith}
use mathlib.Core.Path.{sym, ap}
use Rattle.theory.specs.Table.{states_in, produced_in, tested_in, ask}
use Rattle.theory.proofs.Picks.{picks}
use Rattle.theory.proofs.RowLaws.{bit_tested}
use Rattle.theory.proofs.LookupLaw.{ask_refused_is}
use Rattle.table.proofs.FormLaws.{form_passed}
use Rattle.formed_lookup.proofs.AskLaws.{ask_bit}
use Rattle.formed_lookup.proofs.ask.Goals as goal

pub returns-then-states-state-clause-result_value : goal.returns-then-states-state-clause-result_value
unfolding ask
returns-then-states-state-clause-result_value c =
    let h : states_in c.args.table.now ≤ c.args.state.0 = omega (arith, ap states_in c.bytes-bytes.ensures.bytes) in
    rw (form_passed c.bytes-bytes.ensures.formed) (search picks)

pub returns-then-produced-tested-clause-result_value : goal.returns-then-produced-tested-clause-result_value
returns-then-produced-tested-clause-result_value c =
    let same = c.bytes-bytes.ensures.bytes in
    sym (ask_refused_is _ (form_passed c.bytes-bytes.ensures.formed) _ c.args.order.0 (omega (arith, ap produced_in same, ap tested_in same)))

pub returns-clause-result_value : goal.returns-clause-result_value
returns-clause-result_value c =
    let same = c.bytes-bytes.ensures.bytes in
    ask_bit _ c.bytes-bytes.ensures.formed (omega (arith, ap states_in same)) (omega (arith, ap produced_in same, ap tested_in same)) c.held_word.ensures (sym (bit_tested (c.held_word.result / 2 ^ c.args.order.0)))

-- What the end of the test shows, in the query's words.
use Prim.Native.Nat.{ℕ, ◌+◌, ◌*◌, ◌<◌}
use native.Mathlib.Omega.{arith}
use mathlib.Core.Path.{◌≡◌, sym, ◌∙◌, ap, ap₂, subst}
use mathlib.Core.Bool.{Bool, not}
use mathlib.Core.List.Memᴰ
use mathlib.Core.List.{[], ◌++◌, append_assoc}
use lib.ListN.{length, drop, get_or, length-append}
use Rattle.std.specs.Prelude.{Option, None, Some, Result}
use Rattle.std.specs.Result.{IsErrAnd}
use Rattle.std.proofs.lemmas.Result.{err_from_is_err_and}
use Rattle.theory.specs.Tests.{bits_of}
use Rattle.theory.specs.Orders.{interesting}
use Rattle.theory.specs.Choices.{rules_under, sets_of}
use Rattle.theory.specs.Query.{Bytes, order_at, read_query}
use Rattle.theory.specs.Table.{grant, refuse}
use Rattle.theory.specs.Counterexamples.{Askable, standing, looked_for, rules_chosen, Shows, none, two_rows}
use Rattle.theory.proofs.Reflect.{says_true, says_false}
use Rattle.theory.proofs.ListLaws.{member_get_d}
use Rattle.theory.proofs.RangeLaws.{entry_of, entry_count}
use Rattle.theory.proofs.QueryLaws.{produced_count_lem, order_count_lem, set_count_lem}
use Rattle.theory.proofs.ReadLaws.{interesting_read, produced_at, query_formed}
use Rattle.theory.proofs.ConstructionLaws.{rules_below}
use Rattle.theory.proofs.TwoRows.{rules_chosen_lem, askable_exactly}
use Rattle.theory.specs.Placed.{placed}
use Rattle.theory.proofs.PlacedLaws.{placed_first}
use Rattle.numbers.specs.declared.refusals.Refusal.{Refusal}
use Rattle.numbers.specs.Refusals.{number_of}
use Rattle.settled.specs.declared.Stop.{Stop}
use Rattle.rules_in_force.specs.Rules.{rules_at}
use Rattle.settled.specs.Ends.{row_by, Ends}
use Rattle.counterexample.specs.Answers.{found_answer}

-- what a `?` passes on
pub passed_on_found : (r : Result Bool Refusal) (e : Refusal) → IsErrAnd r (λ y. y ≡ e) → found_answer r ≡ refuse (number_of e)
passed_on_found r e h = let p = err_from_is_err_and r h in rw (p.1, p.2)

-- two rows of n columns in the first bytes
both_first : (up : Bool) (settled class n : ℕ) (rows : Bytes)
    → placed 0 (row_by up settled class n ++ row_by (not up) settled class n) rows ≡ row_by up settled class n ++ (row_by (not up) settled class n ++ drop (2 * n) rows)
both_first up settled class n rows =
    let one = row_by up settled class n in
    let two = row_by (not up) settled class n in
    let long : length (one ++ two) ≡ 2 * n = length-append one two ∙ ap₂ ◌+◌ (entry_count _ 0 n) (entry_count _ 0 n) ∙ omega arith in
    placed_first (one ++ two) rows ∙ append_assoc one two (drop (length (one ++ two)) rows) ∙ ap (λ m. one ++ (two ++ drop m rows)) long

module _ (b : Bytes) (produced sets order : ℕ) {rows : Bytes} (k : Askable b produced sets order rows) where
  -- the test was made of the query's orders and rules
  ends_read : (r : Option Stop) → Ends (rules_at b sets) (order_at b produced) (order_at b order) r
      → Ends (rules_chosen (read_query b) sets) (standing (read_query b) produced) (looked_for (read_query b) order) r
  ends_read r e =
      let rules : rules_at b sets ≡ rules_chosen (read_query b) sets = ap (λ n. rules_under (read_query b) (bits_of n sets)) (sym (set_count_lem b)) ∙ rules_chosen_lem (read_query b) sets in
      let start = produced_at b produced [] (subst (λ n. produced < n) (produced_count_lem b) k.named.entered) in
      let goal : looked_for (read_query b) order ≡ order_at b order =
      ap (λ l. get_or l order []) (interesting_read b) ∙ entry_of (order_at b) _ order [] (subst (λ n. order < n) (order_count_lem b) k.named.looked_for_below) in
      subst (λ rs. Ends rs (standing (read_query b) produced) (looked_for (read_query b) order) r) rules
      (subst (λ p. Ends (rules_at b sets) p (looked_for (read_query b) order) r) (sym start) (subst (λ o. Ends (rules_at b sets) (order_at b produced) o r) (sym goal) e))

  -- the order is held
  pub held_shows : Ends (rules_at b sets) (order_at b produced) (order_at b order) None → Shows b produced sets order rows (grant 0) rows
  held_shows e = none k (says_true (askable_exactly b produced sets order k).derived (ends_read None e))

  -- the test stopped, and the two rows by its masks were written
  pub stop_shows : (stop : Stop) → Ends (rules_at b sets) (order_at b produced) (order_at b order) (Some stop)
      → (n : ℕ) → n ≡ (read_query b).columns → {after : Bytes} → after ≡ placed 0 (row_by stop.ascends stop.settled stop.class n ++ row_by (not stop.ascends) stop.settled stop.class n) rows
      → Shows b produced sets order rows (grant 1) after
  stop_shows stop e n same {after} wrote =
      let t = ends_read (Some stop) e in
      let formed = query_formed b k.checked in
      let row = λ (up : Bool) (m : ℕ). row_by up stop.settled stop.class m in
      let one = row stop.ascends (read_query b).columns in
      let two = row (not stop.ascends) (read_query b).columns in
      subst (λ l. Shows b produced sets order rows (grant 1) l)
      (sym (wrote ∙ ap (λ m. placed 0 (row stop.ascends m ++ row (not stop.ascends) m) rows) same ∙ both_first stop.ascends stop.settled stop.class (read_query b).columns rows))
      (two_rows k (says_false (askable_exactly b produced sets order k).derived t.0) one two
      (t.1 (read_query b).columns
      (formed.orders (standing (read_query b) produced) (Memᴰ.append_left (read_query b).tested (member_get_d (read_query b).produced produced [] k.named.entered))).below
      (formed.orders (looked_for (read_query b) order) (member_get_d (interesting (read_query b)) order [] k.named.looked_for_below)).below
      (rules_below (read_query b) formed (sets_of (read_query b).sets sets))))

-- What is answered: what was found; the query's own refusal; and, to a number that is no byte, that it is in no query.
use Prim.Native.Nat.{ℕ, ◌*◌, ◌≤◌}
use native.Mathlib.Nat.{le_refl}
use native.Mathlib.Omega.{arith}
use mathlib.Core.Path.{◌≡◌, sym, ◌∙◌, ap, subst}
use mathlib.Core.Logic.{◌≢◌}
use lib.ListN.{length, replicate}
use borrow.Author.Tests.{eq-eqb, ne_eqb}
use Rattle.theory.specs.Tests.{Says, holds, fails}
use Rattle.theory.specs.Limits.{max_columns, max_sets}
use Rattle.theory.specs.Refusals.{passed, handle_refused, first_refusal}
use Rattle.theory.specs.Query.{Bytes, column_count, read_query, query_refusal}
use Rattle.theory.specs.Table.{Answer, refuse}
use Rattle.theory.specs.Listing.{refused_line}
use Rattle.theory.specs.Counterexamples.{Named, Shows, query_refused, not_named, rows_short, none, two_rows}
use Rattle.theory.proofs.Reflect.{says_eqb}
use Rattle.theory.proofs.BitLaws.{low_bits}
use Rattle.theory.proofs.QueryLaws.{SizesFit, query_sizes_lem, column_count_lem, produced_count_lem, order_count_lem, set_count_lem}
use Rattle.std.proofs.Common.{Bool, true, false, Result, Ok, Err}
use Rattle.counterexample.specs.Answers.{found_answer}
use Rattle.numbers.specs.declared.refusals.Refusal.{Refusal}
use Rattle.numbers.specs.Refusals.{number_of}
use Rattle.numbers.proofs.RefusalLaws.{refused}
use Rattle.text.specs.Text.{Printed}
use Rattle.order_counterexample.specs.Evidence.{none_line, rows_text, answer_text, large_line, Small, Told, ToldOf}

-- where the answer is no refusal, the query passes its checks
answer_checked : {query : Bytes} {p s o : ℕ} {room : Bytes} {a : Answer} {rows : Bytes} → Shows query p s o room a rows → a.refusal ≡ passed → query_refusal query ≡ passed
answer_checked (query_refused h) e = e
answer_checked (not_named k n) e = k
answer_checked (rows_short k n l) e = k
answer_checked (none a d) e = a.checked
answer_checked (two_rows a d one two b) e = a.checked

-- the text of a refusal
pub refusal_text : (n : ℕ) (a : Answer) (rows : Bytes) → a.refusal ≢ passed → answer_text n a rows ≡ refused_line a.refusal
refusal_text n a rows h = rw (ne_eqb a.refusal passed h)

-- a pair is found in a query whose sizes are within their limits
pub rows_sizes : (query : Bytes) {p s o : ℕ} {room rows : Bytes} (r : Result Bool Refusal) → Shows query p s o room (found_answer r) rows → r ≡ Ok true → SizesFit query
rows_sizes query r shown e = query_sizes_lem query (answer_checked shown (ap (λ f. (found_answer f).refusal) e))

-- the numbers of a query are bytes
named_small : (query : Bytes) {p s o : ℕ} → query_refusal query ≡ passed → Named (read_query query) p s o → Small p s o
named_small query {p} {s} {o} e n =
    let sizes = query_sizes_lem query e in
    record {
      produced_small = omega (arith, n.entered, produced_count_lem query);
      sets_small = low_bits max_sets s (λ c t. omega (arith, n.chosen c t, set_count_lem query));
      order_small = omega (arith, n.looked_for_below, order_count_lem query);
    }

module _ {before after : Bytes} {count : ℕ} where
  -- what was found
  module _ (query : Bytes) {p s o : ℕ} (room : Bytes) {rows : Bytes} (r : Result Bool Refusal) (enough : 2 * max_columns ≤ length room) (shown : Shows query p s o room (found_answer r) rows) where
    told_found : (f : Result Bool Refusal) → r ≡ f → Printed before (answer_text (read_query query).columns (found_answer f) rows) after count → Told query p s o before after count
    told_found f e t =
        record {
          room = room;
          enough = enough;
          answer = found_answer f;
          rows = rows;
          shows = subst (λ x. Shows query p s o room (found_answer x) rows) e shown;
          text = t;
        }

    pub told_rows : (n : ℕ) → n ≡ column_count query → r ≡ Ok true → Printed before (rows_text n rows) after count → Told query p s o before after count
    told_rows n k e t = told_found (Ok true) e (subst (λ m. Printed before (rows_text m rows) after count) (k ∙ sym (column_count_lem query)) t)

    pub told_none : r ≡ Ok false → Printed before none_line after count → Told query p s o before after count
    told_none e t = told_found (Ok false) e t

    pub told_refusal : (n : Refusal) → r ≡ Err n → Printed before (refused_line (number_of n)) after count → Told query p s o before after count
    told_refusal n e t = told_found (Err n) e (rw (refusal_text (read_query query).columns (refuse (number_of n)) rows (refused n)) t)

  -- the query's own refusal
  pub told_refused : (query : Bytes) (p s o : ℕ) (room : Bytes) → 2 * max_columns ≤ length room → query_refusal query ≢ passed → Printed before (refused_line (query_refusal query)) after count
      → Told query p s o before after count
  told_refused query p s o room w h t =
      record {
        room = room;
        enough = w;
        answer = refuse (query_refusal query);
        rows = room;
        shows = query_refused h;
        text = rw (refusal_text (read_query query).columns (refuse (query_refusal query)) room h) t;
      }

  -- the line of a number that is no byte, behind the query's own checks
  pub large_refused : (query : Bytes) {r : ℕ} → r ≡ query_refusal query → r ≢ passed → Printed before (refused_line r) after count → Printed before (large_line query) after count
  large_refused query {r} e h t =
      subst (λ k. Printed before (refused_line (first_refusal k handle_refused)) after count) e (rw (ne_eqb r passed h) t)

  pub large_passed : (query : Bytes) {r : ℕ} → r ≡ query_refusal query → r ≡ passed → Printed before (refused_line handle_refused) after count → Printed before (large_line query) after count
  large_passed query {r} e h t =
      subst (λ k. Printed before (refused_line (first_refusal k handle_refused)) after count) e (rw (eq-eqb r passed h) t)

  -- a number that no query has
  pub told_large : (query : Bytes) (produced sets order : ℕ) → ¬ Small produced sets order → Printed before (large_line query) after count → ToldOf query produced sets order before after count
  told_large query produced sets order f t p s o ep es eo = go (says_eqb (query_refusal query) passed)
    where
      room : Bytes
      room = replicate (2 * max_columns) 0

      go : {b : Bool} → Says (query_refusal query ≡ passed) b → Told query p s o before after count
      go (fails h) = told_refused query p s o room (le_refl (2 * max_columns)) h (rw (ne_eqb (query_refusal query) passed h) at t)
      go (holds e) =
          record {
            room = room;
            enough = le_refl (2 * max_columns);
            answer = refuse handle_refused;
            rows = room;
            shows = not_named e (λ n. let small = named_small query e n in f (record { produced_small = omega arith; sets_small = omega arith; order_small = omega arith }));
            text = rw (eq-eqb (query_refusal query) passed e) at t;
          }

  -- a byte means itself alone
  pub told_small : {query : Bytes} {produced sets order : ℕ} → Small produced sets order → Told query produced sets order before after count → ToldOf query produced sets order before after count
  told_small {query} {produced} {sets} {order} small t p s o ep es eo =
      let p_same : produced ≡ p = omega arith in
      let s_same : sets ≡ s = omega arith in
      let o_same : order ≡ o = omega arith in
      subst (λ n. Told query p s n before after count) o_same (subst (λ n. Told query p n order before after count) s_same (subst (λ n. Told query n sets order before after count) p_same t))

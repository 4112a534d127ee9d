-- Every starred trial of document 01 comes out as expected, and so does every supplier's table on trial: one computed test over each table of trials, and one law that
-- turns it into what each means.
use Prim.Native.Nat.{ℕ}
use native.Mathlib.Omega.{arith}
use mathlib.Core.Path.{◌≡◌, refl, sym, ◌∙◌, ap, subst}
use mathlib.Core.Bool.{true, false≢true}
use mathlib.Core.List.{List, [], Memᴰ, flatten}
use lib.ListN.{length, get_or}
use Rattle.theory.specs.Limits.{scratch_length}
use Rattle.theory.specs.Tests.{Says, every}
use Rattle.theory.specs.Orders.{descends, column, Query, interesting, rules_of, After}
use Rattle.theory.specs.Machine.{numbered_within, agree}
use Rattle.theory.specs.Settled.{settled_columns, is_held}
use Rattle.theory.specs.Construction.{sizes_of_query, answers_of}
use Rattle.theory.specs.Refusals.{passed}
use Rattle.theory.specs.Query.{Bytes, read_query, sizes_refusal, body_refusal, order_refusal, dependency_refusal, item_refusal, twin_refusal, query_refusal}
use Rattle.theory.specs.Table.{table_of, walked_table, write_table, states_in, form_refusal, starts_refusal, successors_refusal, held_refusal, table_refusal}
use Rattle.theory.specs.Build.{Outcome, refused, built, construct, outcome}
use Rattle.theory.specs.Verification.{mismatch_refusal, answer_refusal, supplied_refusal, verify_refusal}
use Rattle.trials.specs.Trials.{Trial, Expectation, table, builds, refusal, so_many_states, after, same_row, verified, same_outcome, outcome_of, Builds, has_sizes, Run, is_run, row_after, OneRow, is_one_row, comes_out, passes, Meets, trials, supplied}
use Rattle.theory.proofs.Reflect.{says_true, says_every, says_by, says_as, says_and, says_eqb, says_ltb, decides_list, decides_number, decides_bool}
use Rattle.theory.proofs.ListLaws.{member_get_d}
use Rattle.theory.proofs.MachineLaws.{numbered_exactly, numbered_distinct}
use Rattle.theory.proofs.AnswerLaws.{decides_tree}
use Rattle.theory.proofs.ReadLaws.{query_formed}
use Rattle.theory.proofs.ConstructionLaws.{query_exactly}

-- the computed test of all trials
all_pass : every passes trials ≡ true
unfolding descends column flatten settled_columns is_held numbered_within read_query sizes_refusal body_refusal order_refusal dependency_refusal item_refusal twin_refusal query_refusal table_of write_table agree walked_table construct outcome comes_out
all_pass = refl

-- .. and of the suppliers' tables
all_supplied : every passes supplied ≡ true
unfolding descends column flatten settled_columns is_held numbered_within read_query sizes_refusal body_refusal order_refusal dependency_refusal item_refusal twin_refusal query_refusal table_of walked_table construct form_refusal starts_refusal successors_refusal held_refusal table_refusal agree mismatch_refusal answer_refusal supplied_refusal verify_refusal comes_out
all_supplied = refl

pub same_outcome_lem : (r o : Outcome) → same_outcome r o ≡ true → r ≡ o
same_outcome_lem (refused m) (refused n) e = ap refused (says_true (says_eqb m n) e)
same_outcome_lem (refused m) (built t) e = absurd (false≢true e)
same_outcome_lem (built s) (refused n) e = absurd (false≢true e)
same_outcome_lem (built s) (built t) e = ap built (says_true (decides_list decides_number s t) e)

-- what the tests of sizes, of rows, of a query and of a run say
has_sizes_lem : (query : Bytes) (m b : ℕ) (r : Outcome) → outcome_of query ≡ r → has_sizes r m b ≡ true → Builds query m b
has_sizes_lem query m b (refused k) g e = absurd (false≢true e)
has_sizes_lem query m b (built t) g e =
    let h = says_true (says_and (says_eqb (states_in t) m) (says_eqb (length t) b)) e in record { written = t; gives = g; rows_written = h.0; bytes_written = h.1 }

one_row : (query : Bytes) (p : ℕ) (ss rs : List ℕ) (r : Outcome) → outcome_of query ≡ r → is_one_row r p ss rs ≡ true → OneRow query p ss rs
one_row query p ss rs (refused k) g e = absurd (false≢true e)
one_row query p ss rs (built t) g e = record { written = t; gives = g; one = says_true (says_eqb (row_after t p ss) (row_after t p rs)) e }

says_run : (q : Query) (p : ℕ) (ss : List ℕ) → Says (Run q p ss) (is_run q p ss)
says_run q p ss =
    says_as (λ h. record { produced = h.0; sets = h.1 }) (λ r. (r.produced, r.sets)) (says_and (says_ltb p (length q.produced)) (says_every (λ s. says_ltb s q.sets) ss))

-- what each passed test means
meets : (query : Bytes) (x : Expectation) → comes_out query (read_query query) x ≡ true → Meets query x
unfolding comes_out
meets query (table b) e = same_outcome_lem (outcome_of query) (built b) e
meets query (builds m b) e = has_sizes_lem query m b (outcome_of query) refl e
meets query (refusal n) e = same_outcome_lem (outcome_of query) (refused n) e
meets query (so_many_states n) e =
    let q = read_query query in
    let h = says_true (says_and (says_eqb (query_refusal query) passed) (says_eqb (length (numbered_within (answers_of q) n (sizes_of_query q))) n)) e in (
      h.0,
      record {
        things = numbered_within (answers_of q) n (sizes_of_query q);
        different = numbered_distinct (answers_of q) (sizes_of_query q) decides_tree n;
        count = h.1;
        each = numbered_exactly (answers_of q) (sizes_of_query q) decides_tree n (omega (arith, h.1));
      },
    )
meets query (after p ss i held) e =
    let q = read_query query in
    let produced = get_or q.produced p [] in
    let order = get_or (interesting q) i [] in
    let h =
    says_true
    (says_and (says_eqb (query_refusal query) passed)
    (says_and (says_run q p ss) (says_and (says_ltb i (length (interesting q))) (decides_bool (is_held (rules_of q ss) produced order) held))))
    e in (
      h.0,
      h.1.0,
      h.1.1.0,
      subst (Says (After q produced ss order)) h.1.1.1
          (query_exactly q (query_formed query h.0) produced order ss (member_get_d q.produced p [] h.1.0.produced) (member_get_d (interesting q) i [] h.1.1.0)).derived,
    )
meets query (verified t n) e = says_true (says_eqb (verify_refusal query t scratch_length) n) e
meets query (same_row p ss rs) e =
    let q = read_query query in
    let r = outcome_of query in
    let h = says_true (says_and (says_run q p ss) (says_and (says_run q p rs) (says_by (is_one_row r p ss rs) (λ f. f) (λ f g. false≢true (sym f ∙ g))))) e in
    (h.0, h.1.0, one_row query p ss rs r refl h.1.1)

-- Every starred trial comes out as document 01 says, ..
all_meet : (ts : List Trial) → every passes ts ≡ true → (t : Trial) → Memᴰ t ts → Meets t.query t.expected
all_meet ts e t m = meets t.query t.expected (says_true (says_every (λ u. says_by (passes u) (λ e. e) (λ e k. false≢true (sym e ∙ k))) ts) e t m)

pub trials_theorem : (t : Trial) → Memᴰ t trials → Meets t.query t.expected
trials_theorem = all_meet trials all_pass

-- .. and every supplier's table as its trial says.
pub supplied_theorem : (t : Trial) → Memᴰ t supplied → Meets t.query t.expected
supplied_theorem = all_meet supplied all_supplied

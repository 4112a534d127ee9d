-- Every starred trial of a stepped build comes out as expected: one computed test over the table of trials, and one law that turns it into what each means.
use mathlib.Core.Path.{◌≡◌, refl, sym, ◌∙◌}
use mathlib.Core.Bool.{true, false≢true}
use mathlib.Core.List.{Memᴰ, flatten}
use Rattle.theory.specs.Tests.{every}
use Rattle.theory.specs.Orders.{descends, column}
use Rattle.theory.specs.Machine.{numbered_within, agree}
use Rattle.theory.specs.Settled.{settled_columns, is_held}
use Rattle.theory.specs.Refusals.{passed}
use Rattle.theory.specs.Query.{Bytes, read_query, sizes_refusal, body_refusal, order_refusal, dependency_refusal, item_refusal, twin_refusal, query_refusal}
use Rattle.theory.specs.Table.{table_of, walked_table, write_table}
use Rattle.theory.specs.Build.{built, construct, outcome}
use Rattle.trials.specs.Trials.{same_outcome}
use Rattle.trials.specs.StepTrials.{StepTrial, StepExpectation, pairs, merged, held_bytes_of, merged_of, step_comes_out, step_passes, StepMeets, step_trials}
use Rattle.theory.proofs.Reflect.{says_true, says_every, says_by, says_and, says_eqb, decides_list, decides_number}
use Rattle.trials.proofs.TrialsTheorem.{same_outcome_lem}

-- the computed test of all trials
all_pass : every step_passes step_trials ≡ true
unfolding descends column flatten settled_columns is_held numbered_within read_query sizes_refusal body_refusal order_refusal dependency_refusal item_refusal twin_refusal query_refusal table_of write_table agree walked_table construct outcome step_comes_out
all_pass = refl

-- what each passed test means
meets : (query : Bytes) (x : StepExpectation) → step_comes_out query (read_query query) x ≡ true → StepMeets query x
unfolding step_comes_out
meets query (pairs b) e = says_true (says_and (says_eqb (query_refusal query) passed) (decides_list decides_number (held_bytes_of (read_query query)) b)) e
meets query (merged b t) e =
    let h = says_true (says_and (says_eqb (query_refusal query) passed) (says_by (same_outcome (merged_of (read_query query) b) (built t)) (λ f. f) (λ f g. false≢true (sym f ∙ g)))) e in
    (h.0, same_outcome_lem (merged_of (read_query query) b) (built t) h.1)

pub step_trials_theorem : (t : StepTrial) → Memᴰ t step_trials → StepMeets t.query t.expected
step_trials_theorem t m = meets t.query t.expected (says_true (says_every (λ u. says_by (step_passes u) (λ e. e) (λ e k. false≢true (sym e ∙ k))) step_trials) all_pass t m)

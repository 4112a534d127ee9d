-- The starred trials of document 02's Req 08: the held bytes of a query's pairs, and what held bytes that lie in the scratch are merged to.
use Rattle.std.specs.Prelude.{suc, ◌≡◌, Bool, ◌&&◌, List, [], ◌∷◌, ◌++◌, map, eqb}
use mathlib.Core.List.{flatten}
use Rattle.theory.specs.Limits.{longest_table}
use Rattle.theory.specs.Tests.{same_list, up_from}
use Rattle.theory.specs.Orders.{Query}
use Rattle.theory.specs.Refusals.{passed}
use Rattle.theory.specs.Query.{Bytes, read_query, query_refusal}
use Rattle.theory.specs.Build.{Outcome, built, limited, delivered}
use Rattle.theory.specs.Steps.{pair_count, pair_bytes, count_bytes, merged_table}
use Rattle.trials.specs.Trials.{same_outcome, example, both_directions}

-- What is expected of a query.
pub data StepExpectation : Type 0 where
  -- these are the held bytes of its pairs, in their sequence
  pairs : Bytes → StepExpectation
  -- these held bytes, merged by the last call of a stepped build, give this table
  merged : Bytes → Bytes → StepExpectation

pub record StepTrial : Type 0 where
  pub query : Bytes
  pub expected : StepExpectation

-- The held bytes of all pairs, and what comes of held bytes behind the count of the last call, with room enough.
abbrev pub held_bytes_of : Query → Bytes
held_bytes_of q = flatten (map (pair_bytes q) (up_from 0 (pair_count q)))

abbrev pub merged_of : Query → Bytes → Outcome
merged_of q b = delivered (limited (merged_table q (count_bytes (suc (pair_count q)) ++ b))) longest_table

-- The trial comes out as expected: a test that computes, ..
unfoldable pub step_comes_out : Bytes → Query → StepExpectation → Bool
step_comes_out query q (pairs b) = eqb (query_refusal query) passed && same_list eqb (held_bytes_of q) b
step_comes_out query q (merged b t) = eqb (query_refusal query) passed && same_outcome (merged_of q b) (built t)

abbrev pub step_passes : StepTrial → Bool
step_passes t = step_comes_out t.query (read_query t.query) t.expected

-- .. and what it means.
abbrev pub StepMeaning : Bytes → Query → StepExpectation → Type 0
StepMeaning query q (pairs b) = (query_refusal query ≡ passed) × (held_bytes_of q ≡ b)
StepMeaning query q (merged b t) = (query_refusal query ≡ passed) × (merged_of q b ≡ built t)

abbrev pub StepMeets : Bytes → StepExpectation → Type 0
StepMeets query = StepMeaning query (read_query query)

abbrev pub step_trials : List StepTrial
step_trials =
    record { query = example; expected = pairs (1 ∷ 0 ∷ 5 ∷ 0 ∷ 1 ∷ 0 ∷ 5 ∷ 0 ∷ 2 ∷ 0 ∷ 2 ∷ 0 ∷ 10 ∷ 0 ∷ 10 ∷ 0 ∷ []) } ∷
    record { query = example; expected = merged (17 ∷ 0 ∷ 5 ∷ 0 ∷ 1 ∷ 128 ∷ 5 ∷ 0 ∷ 2 ∷ 255 ∷ 2 ∷ 0 ∷ 10 ∷ 0 ∷ 250 ∷ 0 ∷ []) (4 ∷ 2 ∷ 2 ∷ 2 ∷ 0 ∷ 1 ∷ 2 ∷ 0 ∷ 1 ∷ 3 ∷ 2 ∷ 2 ∷ 3 ∷ 3 ∷ 1 ∷ 0 ∷ 2 ∷ 0 ∷ 5 ∷ 0 ∷ 10 ∷ 0 ∷ []) } ∷
    record { query = example; expected = merged (0 ∷ 0 ∷ 0 ∷ 0 ∷ 0 ∷ 0 ∷ 0 ∷ 0 ∷ 0 ∷ 0 ∷ 0 ∷ 0 ∷ 0 ∷ 0 ∷ 0 ∷ 0 ∷ []) (1 ∷ 2 ∷ 2 ∷ 2 ∷ 0 ∷ 0 ∷ 0 ∷ 0 ∷ 0 ∷ 0 ∷ []) } ∷
    record { query = both_directions; expected = pairs (1 ∷ 0 ∷ 5 ∷ 0 ∷ 2 ∷ 0 ∷ 10 ∷ 0 ∷ []) } ∷
    []

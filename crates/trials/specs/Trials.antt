-- Document 01, "Trials at the edges", with those of document 02: the starred trials, as one table of queries and what is expected of each; and suppliers' tables on trial, as
-- another.
use Rattle.std.specs.Prelude.{ℕ, ◌<◌, ◌≡◌, Bool, true, false, ◌&&◌, List, [], ◌∷◌, eqb, ltb, length, get_or}
use Rattle.std.specs.Bool.{beq}
use Rattle.theory.specs.Limits.{scratch_length, longest_table}
use Rattle.theory.specs.Tests.{Says, every, same_list}
use Rattle.theory.specs.Orders.{Query, interesting, rules_of, After}
use Rattle.theory.specs.NumberingWalk.{Exactly}
use Rattle.theory.specs.Machine.{AllBelow, runs, numbered_within}
use Rattle.theory.specs.Settled.{is_held}
use Rattle.theory.specs.Construction.{sizes_of_query, answers_of, State}
use Rattle.theory.specs.Refusals.{passed}
use Rattle.theory.specs.Query.{Bytes, read_query, query_refusal}
use Rattle.theory.specs.Table.{states_in, machine_in}
use Rattle.theory.specs.Build.{Outcome, refused, built, outcome}
use Rattle.theory.specs.Verification.{verify_refusal}

-- What is expected of a query.
pub data Expectation : Type 0 where
  -- the build gives this table
  table : Bytes → Expectation
  -- the build gives a table of so many rows and so many bytes
  builds : ℕ → ℕ → Expectation
  -- the build is refused with this number
  refusal : ℕ → Expectation
  -- there are so many states
  so_many_states : ℕ → Expectation
  -- after a produced order, by number, and the sets an interesting order, by number, is held or not
  after : ℕ → List ℕ → ℕ → Bool → Expectation
  -- from a produced order, by number, two lists of sets lead to one row
  same_row : ℕ → List ℕ → List ℕ → Expectation
  -- the trial of a supplier's table comes to this number, 0 where it is accepted
  verified : Bytes → ℕ → Expectation

pub record Trial : Type 0 where
  pub query : Bytes
  pub expected : Expectation

abbrev pub same_outcome : Outcome → Outcome → Bool
same_outcome (refused m) (refused n) = eqb m n
same_outcome (refused m) (built t) = false
same_outcome (built s) (refused n) = false
same_outcome (built s) (built t) = same_list eqb s t

-- A trial's outcome, with room enough.
abbrev pub outcome_of : Bytes → Outcome
outcome_of query = outcome query scratch_length longest_table

-- The build gives a table of m rows and b bytes.
pub record Builds (query : Bytes) (m b : ℕ) : Type 0 where
  pub written : Bytes
  pub gives : outcome_of query ≡ built written
  pub rows_written : states_in written ≡ m
  pub bytes_written : length written ≡ b

abbrev pub has_sizes : Outcome → ℕ → ℕ → Bool
has_sizes (refused r) m b = false
has_sizes (built t) m b = eqb (states_in t) m && eqb (length t) b

-- The numbers of a produced order of the query and of its sets.
pub record Run (q : Query) (p : ℕ) (ss : List ℕ) : Type 0 where
  pub produced : p < length q.produced
  pub sets : AllBelow q.sets ss

abbrev pub is_run : Query → ℕ → List ℕ → Bool
is_run q p ss = ltb p (length q.produced) && every (λ s. ltb s q.sets) ss

-- The row of a table at which a run arrives, and that two runs arrive at one row of the table that the build gives.
abbrev pub row_after : Bytes → ℕ → List ℕ → ℕ
row_after t p ss = runs (machine_in t) ((machine_in t).start p) ss

pub record OneRow (query : Bytes) (p : ℕ) (ss rs : List ℕ) : Type 0 where
  pub written : Bytes
  pub gives : outcome_of query ≡ built written
  pub one : row_after written p ss ≡ row_after written p rs

abbrev pub is_one_row : Outcome → ℕ → List ℕ → List ℕ → Bool
is_one_row (refused r) p ss rs = false
is_one_row (built t) p ss rs = eqb (row_after t p ss) (row_after t p rs)

-- Derivation and states are spoken of only where the query passes checks 1 to 6.
-- The trial comes out as expected: a test that computes, ..
unfoldable pub comes_out : Bytes → Query → Expectation → Bool
comes_out query q (table b) = same_outcome (outcome_of query) (built b)
comes_out query q (builds m b) = has_sizes (outcome_of query) m b
comes_out query q (refusal n) = same_outcome (outcome_of query) (refused n)
comes_out query q (so_many_states n) = eqb (query_refusal query) passed && eqb (length (numbered_within (answers_of q) n (sizes_of_query q))) n
comes_out query q (after p ss i held) =
    eqb (query_refusal query) passed && (is_run q p ss && (ltb i (length (interesting q)) && beq (is_held (rules_of q ss) (get_or q.produced p []) (get_or (interesting q) i [])) held))
comes_out query q (verified t n) = eqb (verify_refusal query t scratch_length) n
comes_out query q (same_row p ss rs) = is_run q p ss && (is_run q p rs && is_one_row (outcome_of query) p ss rs)

abbrev pub passes : Trial → Bool
passes t = comes_out t.query (read_query t.query) t.expected

-- .. and what it means on the definitions.
abbrev pub Meaning : Bytes → Query → Expectation → Type 0
Meaning query q (table b) = outcome_of query ≡ built b
Meaning query q (builds m b) = Builds query m b
Meaning query q (refusal n) = outcome_of query ≡ refused n
Meaning query q (so_many_states n) = (query_refusal query ≡ passed) × Exactly n (State q)
Meaning query q (after p ss i held) =
    (query_refusal query ≡ passed) × Run q p ss × (i < length (interesting q)) × Says (After q (get_or q.produced p []) ss (get_or (interesting q) i [])) held
Meaning query q (verified t n) = verify_refusal query t scratch_length ≡ n
Meaning query q (same_row p ss rs) = Run q p ss × Run q p rs × OneRow query p ss rs

abbrev pub Meets : Bytes → Expectation → Type 0
Meets query = Meaning query (read_query query)

-- The example: produced (0), (1,0), tested (0,1), (2), sets {0 → 1}, {1 = 2}.
abbrev pub example : Bytes
example = 3 ∷ 2 ∷ 2 ∷ 2 ∷ 2 ∷ 1 ∷ 2 ∷ 2 ∷ 1 ∷ 16 ∷ 65 ∷ 0 ∷ 255 ∷ 255 ∷ 255 ∷ 1 ∷ 0 ∷ 255 ∷ 255 ∷ 0 ∷ 1 ∷ 255 ∷ 255 ∷ 2 ∷ 255 ∷ 255 ∷ 255 ∷ 0 ∷ 1 ∷ 255 ∷ 255 ∷ 1 ∷ 2 ∷ 255 ∷ 255 ∷ []

-- Produced (a), tested (a,x,b), sets {a → b}, {a → x}; a, b, x are 0, 1, 2.
abbrev pub both_ways : Bytes
both_ways = 3 ∷ 1 ∷ 1 ∷ 2 ∷ 2 ∷ 1 ∷ 3 ∷ 16 ∷ 17 ∷ 0 ∷ 255 ∷ 255 ∷ 255 ∷ 0 ∷ 2 ∷ 1 ∷ 255 ∷ 0 ∷ 1 ∷ 255 ∷ 255 ∷ 0 ∷ 2 ∷ 255 ∷ 255 ∷ []

-- Produced (a), tested (a,b,c), sets 0 {b → c}, 1 {a → b}.
abbrev pub in_force_together : Bytes
in_force_together = 3 ∷ 1 ∷ 1 ∷ 2 ∷ 2 ∷ 1 ∷ 3 ∷ 16 ∷ 17 ∷ 0 ∷ 255 ∷ 255 ∷ 255 ∷ 0 ∷ 1 ∷ 2 ∷ 255 ∷ 1 ∷ 2 ∷ 255 ∷ 255 ∷ 0 ∷ 1 ∷ 255 ∷ 255 ∷ []

-- Produced (), tested (k), set {constant k}.
abbrev pub constant : Bytes
constant = 1 ∷ 1 ∷ 1 ∷ 1 ∷ 1 ∷ 0 ∷ 1 ∷ 0 ∷ 255 ∷ 255 ∷ 255 ∷ 255 ∷ 0 ∷ 255 ∷ 255 ∷ 255 ∷ 0 ∷ 255 ∷ 255 ∷ 255 ∷ []

-- Produced (a), tested (b), set {a = b}.
abbrev pub equal_pair : Bytes
equal_pair = 2 ∷ 1 ∷ 1 ∷ 1 ∷ 1 ∷ 1 ∷ 1 ∷ 64 ∷ 0 ∷ 255 ∷ 255 ∷ 255 ∷ 1 ∷ 255 ∷ 255 ∷ 255 ∷ 0 ∷ 1 ∷ 255 ∷ 255 ∷ []

-- Produced (a), tested (b), set {a → b, b → a}.
abbrev pub fix_pair : Bytes
fix_pair = 2 ∷ 1 ∷ 1 ∷ 1 ∷ 2 ∷ 1 ∷ 1 ∷ 16 ∷ 16 ∷ 0 ∷ 255 ∷ 255 ∷ 255 ∷ 1 ∷ 255 ∷ 255 ∷ 255 ∷ 0 ∷ 1 ∷ 255 ∷ 255 ∷ 1 ∷ 0 ∷ 255 ∷ 255 ∷ []

-- The example with a third set, which is empty.
abbrev pub with_empty_set : Bytes
with_empty_set = 3 ∷ 2 ∷ 2 ∷ 3 ∷ 2 ∷ 1 ∷ 2 ∷ 2 ∷ 1 ∷ 16 ∷ 65 ∷ 0 ∷ 255 ∷ 255 ∷ 255 ∷ 1 ∷ 0 ∷ 255 ∷ 255 ∷ 0 ∷ 1 ∷ 255 ∷ 255 ∷ 2 ∷ 255 ∷ 255 ∷ 255 ∷ 0 ∷ 1 ∷ 255 ∷ 255 ∷ 1 ∷ 2 ∷ 255 ∷ 255 ∷ []

-- Produced (a), a fix a → b in each of seven sets for its own b, each (a,b) tested.
abbrev pub seven_sets : Bytes
seven_sets = 8 ∷ 1 ∷ 7 ∷ 7 ∷ 7 ∷ 1 ∷ 2 ∷ 2 ∷ 2 ∷ 2 ∷ 2 ∷ 2 ∷ 2 ∷ 16 ∷ 17 ∷ 18 ∷ 19 ∷ 20 ∷ 21 ∷ 22 ∷ 0 ∷ 255 ∷ 255 ∷ 255 ∷ 0 ∷ 1 ∷ 255 ∷ 255 ∷ 0 ∷ 2 ∷ 255 ∷ 255 ∷ 0 ∷ 3 ∷ 255 ∷ 255 ∷ 0 ∷ 4 ∷ 255 ∷ 255 ∷ 0 ∷ 5 ∷ 255 ∷ 255 ∷ 0 ∷ 6 ∷ 255 ∷ 255 ∷ 0 ∷ 7 ∷ 255 ∷ 255 ∷ 0 ∷ 1 ∷ 255 ∷ 255 ∷ 0 ∷ 2 ∷ 255 ∷ 255 ∷ 0 ∷ 3 ∷ 255 ∷ 255 ∷ 0 ∷ 4 ∷ 255 ∷ 255 ∷ 0 ∷ 5 ∷ 255 ∷ 255 ∷ 0 ∷ 6 ∷ 255 ∷ 255 ∷ 0 ∷ 7 ∷ 255 ∷ 255 ∷ []

-- The same with eight sets.
abbrev pub eight_sets : Bytes
eight_sets = 9 ∷ 1 ∷ 8 ∷ 8 ∷ 8 ∷ 1 ∷ 2 ∷ 2 ∷ 2 ∷ 2 ∷ 2 ∷ 2 ∷ 2 ∷ 2 ∷ 16 ∷ 17 ∷ 18 ∷ 19 ∷ 20 ∷ 21 ∷ 22 ∷ 23 ∷ 0 ∷ 255 ∷ 255 ∷ 255 ∷ 0 ∷ 1 ∷ 255 ∷ 255 ∷ 0 ∷ 2 ∷ 255 ∷ 255 ∷ 0 ∷ 3 ∷ 255 ∷ 255 ∷ 0 ∷ 4 ∷ 255 ∷ 255 ∷ 0 ∷ 5 ∷ 255 ∷ 255 ∷ 0 ∷ 6 ∷ 255 ∷ 255 ∷ 0 ∷ 7 ∷ 255 ∷ 255 ∷ 0 ∷ 8 ∷ 255 ∷ 255 ∷ 0 ∷ 1 ∷ 255 ∷ 255 ∷ 0 ∷ 2 ∷ 255 ∷ 255 ∷ 0 ∷ 3 ∷ 255 ∷ 255 ∷ 0 ∷ 4 ∷ 255 ∷ 255 ∷ 0 ∷ 5 ∷ 255 ∷ 255 ∷ 0 ∷ 6 ∷ 255 ∷ 255 ∷ 0 ∷ 7 ∷ 255 ∷ 255 ∷ 0 ∷ 8 ∷ 255 ∷ 255 ∷ []

-- Document 000's running query: produced (b), (a,b), tested (a,b,c), sets {b → c}, {b → d}; a, b, c, d are 0, 1, 2, 3.
abbrev pub running_query : Bytes
running_query = 4 ∷ 2 ∷ 1 ∷ 2 ∷ 2 ∷ 1 ∷ 2 ∷ 3 ∷ 16 ∷ 17 ∷ 1 ∷ 255 ∷ 255 ∷ 255 ∷ 0 ∷ 1 ∷ 255 ∷ 255 ∷ 0 ∷ 1 ∷ 2 ∷ 255 ∷ 1 ∷ 2 ∷ 255 ∷ 255 ∷ 1 ∷ 3 ∷ 255 ∷ 255 ∷ []

-- Order (a,a).
abbrev pub repeated_column : Bytes
repeated_column = 2 ∷ 1 ∷ 0 ∷ 0 ∷ 0 ∷ 2 ∷ 0 ∷ 0 ∷ 255 ∷ 255 ∷ []

-- Column N.
abbrev pub column_past_the_end : Bytes
column_past_the_end = 2 ∷ 1 ∷ 0 ∷ 0 ∷ 0 ∷ 1 ∷ 2 ∷ 255 ∷ 255 ∷ 255 ∷ []

-- Produced (a), tested (a,c), sets {a → b}, {b = c}.
abbrev pub through_an_equal : Bytes
through_an_equal = 3 ∷ 1 ∷ 1 ∷ 2 ∷ 2 ∷ 1 ∷ 2 ∷ 16 ∷ 65 ∷ 0 ∷ 255 ∷ 255 ∷ 255 ∷ 0 ∷ 2 ∷ 255 ∷ 255 ∷ 0 ∷ 1 ∷ 255 ∷ 255 ∷ 1 ∷ 2 ∷ 255 ∷ 255 ∷ []

-- Produced (a), tested (a,b,c,d), sets {c → d}, {b → c}, {a → b}.
abbrev pub three_in_force : Bytes
three_in_force = 4 ∷ 1 ∷ 1 ∷ 3 ∷ 3 ∷ 1 ∷ 4 ∷ 16 ∷ 17 ∷ 18 ∷ 0 ∷ 255 ∷ 255 ∷ 255 ∷ 0 ∷ 1 ∷ 2 ∷ 3 ∷ 2 ∷ 3 ∷ 255 ∷ 255 ∷ 1 ∷ 2 ∷ 255 ∷ 255 ∷ 0 ∷ 1 ∷ 255 ∷ 255 ∷ []

-- Produced (a,b,d), tested (a,d), set {a → m, m → b}; a, b, d, m are 0, 1, 2, 3.
abbrev pub settled_chain : Bytes
settled_chain = 4 ∷ 1 ∷ 1 ∷ 1 ∷ 2 ∷ 3 ∷ 2 ∷ 16 ∷ 16 ∷ 0 ∷ 1 ∷ 2 ∷ 255 ∷ 0 ∷ 2 ∷ 255 ∷ 255 ∷ 0 ∷ 3 ∷ 255 ∷ 255 ∷ 3 ∷ 1 ∷ 255 ∷ 255 ∷ []

-- Produced (time,axis,code), tested (time,code), set {time → axis}.
abbrev pub time_axis_code : Bytes
time_axis_code = 3 ∷ 1 ∷ 1 ∷ 1 ∷ 1 ∷ 3 ∷ 2 ∷ 16 ∷ 0 ∷ 1 ∷ 2 ∷ 255 ∷ 0 ∷ 2 ∷ 255 ∷ 255 ∷ 0 ∷ 1 ∷ 255 ∷ 255 ∷ []

-- Produced (), seven constants in one set, all in tested orders.
abbrev pub seven_constants : Bytes
seven_constants = 7 ∷ 1 ∷ 3 ∷ 1 ∷ 7 ∷ 0 ∷ 3 ∷ 3 ∷ 1 ∷ 0 ∷ 0 ∷ 0 ∷ 0 ∷ 0 ∷ 0 ∷ 0 ∷ 255 ∷ 255 ∷ 255 ∷ 255 ∷ 0 ∷ 1 ∷ 2 ∷ 255 ∷ 3 ∷ 4 ∷ 5 ∷ 255 ∷ 6 ∷ 255 ∷ 255 ∷ 255 ∷ 0 ∷ 255 ∷ 255 ∷ 255 ∷ 1 ∷ 255 ∷ 255 ∷ 255 ∷ 2 ∷ 255 ∷ 255 ∷ 255 ∷ 3 ∷ 255 ∷ 255 ∷ 255 ∷ 4 ∷ 255 ∷ 255 ∷ 255 ∷ 5 ∷ 255 ∷ 255 ∷ 255 ∷ 6 ∷ 255 ∷ 255 ∷ 255 ∷ []

-- Document 02, Req 07. Newest first: produced (time desc,code), tested (time desc), (time,code).
abbrev pub newest_first : Bytes
newest_first = 2 ∷ 1 ∷ 2 ∷ 0 ∷ 0 ∷ 2 ∷ 1 ∷ 2 ∷ 128 ∷ 1 ∷ 255 ∷ 255 ∷ 128 ∷ 255 ∷ 255 ∷ 255 ∷ 0 ∷ 1 ∷ 255 ∷ 255 ∷ []

-- Produced (a desc), tested (a).
abbrev pub descending_alone : Bytes
descending_alone = 1 ∷ 1 ∷ 1 ∷ 0 ∷ 0 ∷ 1 ∷ 1 ∷ 128 ∷ 255 ∷ 255 ∷ 255 ∷ 0 ∷ 255 ∷ 255 ∷ 255 ∷ []

-- Produced (), (a desc), tested (k), (k desc), (k desc,a desc), (k desc,a), set {constant k}; a, k are 0, 1.
abbrev pub either_constant : Bytes
either_constant = 2 ∷ 2 ∷ 4 ∷ 1 ∷ 1 ∷ 0 ∷ 1 ∷ 1 ∷ 1 ∷ 2 ∷ 2 ∷ 0 ∷ 255 ∷ 255 ∷ 255 ∷ 255 ∷ 128 ∷ 255 ∷ 255 ∷ 255 ∷ 1 ∷ 255 ∷ 255 ∷ 255 ∷ 129 ∷ 255 ∷ 255 ∷ 255 ∷ 129 ∷ 128 ∷ 255 ∷ 255 ∷ 129 ∷ 0 ∷ 255 ∷ 255 ∷ 1 ∷ 255 ∷ 255 ∷ 255 ∷ []

-- Produced (a desc), tested (b desc), (b), (a desc,b), (a desc,b desc), (b desc,a), (b,a desc), set {a = b}.
abbrev pub equal_direction : Bytes
equal_direction = 2 ∷ 1 ∷ 6 ∷ 1 ∷ 1 ∷ 1 ∷ 1 ∷ 1 ∷ 2 ∷ 2 ∷ 2 ∷ 2 ∷ 64 ∷ 128 ∷ 255 ∷ 255 ∷ 255 ∷ 129 ∷ 255 ∷ 255 ∷ 255 ∷ 1 ∷ 255 ∷ 255 ∷ 255 ∷ 128 ∷ 1 ∷ 255 ∷ 255 ∷ 128 ∷ 129 ∷ 255 ∷ 255 ∷ 129 ∷ 0 ∷ 255 ∷ 255 ∷ 1 ∷ 128 ∷ 255 ∷ 255 ∷ 0 ∷ 1 ∷ 255 ∷ 255 ∷ []

-- Produced (a desc,c), tested (a desc,b,c), (a desc,b desc,c), (a,b,c), (a desc,b,c desc), set {a → b}.
abbrev pub either_inserted : Bytes
either_inserted = 3 ∷ 1 ∷ 4 ∷ 1 ∷ 1 ∷ 2 ∷ 3 ∷ 3 ∷ 3 ∷ 3 ∷ 16 ∷ 128 ∷ 2 ∷ 255 ∷ 255 ∷ 128 ∷ 1 ∷ 2 ∷ 255 ∷ 128 ∷ 129 ∷ 2 ∷ 255 ∷ 0 ∷ 1 ∷ 2 ∷ 255 ∷ 128 ∷ 1 ∷ 130 ∷ 255 ∷ 0 ∷ 1 ∷ 255 ∷ 255 ∷ []

-- One produced order ascending and one descending: produced (a), (a desc), tested (b), (b desc), set {a = b}.
abbrev pub both_directions : Bytes
both_directions = 2 ∷ 2 ∷ 2 ∷ 1 ∷ 1 ∷ 1 ∷ 1 ∷ 1 ∷ 1 ∷ 64 ∷ 0 ∷ 255 ∷ 255 ∷ 255 ∷ 128 ∷ 255 ∷ 255 ∷ 255 ∷ 1 ∷ 255 ∷ 255 ∷ 255 ∷ 129 ∷ 255 ∷ 255 ∷ 255 ∷ 0 ∷ 1 ∷ 255 ∷ 255 ∷ []

-- Produced (time desc,axis desc,code), tested (time desc,code), (time desc,axis,code), (time,code), set {time → axis}.
abbrev pub descending_removed : Bytes
descending_removed = 3 ∷ 1 ∷ 3 ∷ 1 ∷ 1 ∷ 3 ∷ 2 ∷ 3 ∷ 2 ∷ 16 ∷ 128 ∷ 129 ∷ 2 ∷ 255 ∷ 128 ∷ 2 ∷ 255 ∷ 255 ∷ 128 ∷ 1 ∷ 2 ∷ 255 ∷ 0 ∷ 2 ∷ 255 ∷ 255 ∷ 0 ∷ 1 ∷ 255 ∷ 255 ∷ []

-- Order (a,a desc).
abbrev pub column_both_ways : Bytes
column_both_ways = 2 ∷ 1 ∷ 0 ∷ 0 ∷ 0 ∷ 2 ∷ 0 ∷ 128 ∷ 255 ∷ 255 ∷ []

-- Column N, descending.
abbrev pub descending_past_the_end : Bytes
descending_past_the_end = 2 ∷ 1 ∷ 0 ∷ 0 ∷ 0 ∷ 1 ∷ 130 ∷ 255 ∷ 255 ∷ 255 ∷ []

-- Produced (a), set {a → b} with 128 added to a.
abbrev pub descending_dependency : Bytes
descending_dependency = 2 ∷ 1 ∷ 0 ∷ 1 ∷ 1 ∷ 1 ∷ 16 ∷ 0 ∷ 255 ∷ 255 ∷ 255 ∷ 128 ∷ 1 ∷ 255 ∷ 255 ∷ []

-- A used byte of 255, in the order's second place.
abbrev pub used_255 : Bytes
used_255 = 2 ∷ 1 ∷ 0 ∷ 0 ∷ 0 ∷ 2 ∷ 0 ∷ 255 ∷ 255 ∷ 255 ∷ []

-- An unused byte of 128, behind a column that is not below N.
abbrev pub unused_128 : Bytes
unused_128 = 2 ∷ 1 ∷ 0 ∷ 0 ∷ 0 ∷ 1 ∷ 3 ∷ 128 ∷ 255 ∷ 255 ∷ []

-- Produced (a desc), tested (a desc).
abbrev pub descending_twins : Bytes
descending_twins = 1 ∷ 1 ∷ 1 ∷ 0 ∷ 0 ∷ 1 ∷ 1 ∷ 128 ∷ 255 ∷ 255 ∷ 255 ∷ 128 ∷ 255 ∷ 255 ∷ 255 ∷ []

-- Produced (time desc,code), tested (time,code), (code desc), set {constant time}.
abbrev pub direction_matters : Bytes
direction_matters = 2 ∷ 1 ∷ 2 ∷ 1 ∷ 1 ∷ 2 ∷ 2 ∷ 1 ∷ 0 ∷ 128 ∷ 1 ∷ 255 ∷ 255 ∷ 0 ∷ 1 ∷ 255 ∷ 255 ∷ 129 ∷ 255 ∷ 255 ∷ 255 ∷ 0 ∷ 255 ∷ 255 ∷ 255 ∷ []

-- The starred trials, in document 01's order, with the tables of document 02; behind them the running query, which has as many rows as its paper has states, three, and the
-- trials of document 02's Req 05 and 07.
abbrev pub trials : List Trial
trials =
    record { query = example; expected = table (4 ∷ 2 ∷ 2 ∷ 2 ∷ 0 ∷ 1 ∷ 2 ∷ 0 ∷ 1 ∷ 3 ∷ 2 ∷ 2 ∷ 3 ∷ 3 ∷ 1 ∷ 0 ∷ 2 ∷ 0 ∷ 5 ∷ 0 ∷ 10 ∷ 0 ∷ []) } ∷
    record { query = both_ways; expected = after 0 (0 ∷ 1 ∷ []) 1 true } ∷
    record { query = both_ways; expected = after 0 (1 ∷ 0 ∷ []) 1 true } ∷
    record { query = in_force_together; expected = after 0 (0 ∷ 1 ∷ []) 1 true } ∷
    record { query = in_force_together; expected = after 0 (1 ∷ 0 ∷ []) 1 true } ∷
    record { query = in_force_together; expected = after 0 (0 ∷ 1 ∷ 0 ∷ []) 1 true } ∷
    record { query = constant; expected = after 0 [] 1 false } ∷
    record { query = constant; expected = after 0 (0 ∷ []) 1 true } ∷
    record { query = equal_pair; expected = after 0 (0 ∷ []) 1 true } ∷
    record { query = fix_pair; expected = after 0 (0 ∷ []) 1 false } ∷
    record { query = example; expected = same_row 0 (0 ∷ 0 ∷ []) (0 ∷ []) } ∷
    record { query = example; expected = same_row 1 (1 ∷ 1 ∷ []) (1 ∷ []) } ∷
    record { query = with_empty_set; expected = same_row 0 (2 ∷ []) [] } ∷
    record { query = with_empty_set; expected = same_row 1 (1 ∷ 2 ∷ []) (1 ∷ []) } ∷
    record { query = seven_sets; expected = so_many_states 128 } ∷
    record { query = seven_sets; expected = builds 128 1157 } ∷
    record { query = eight_sets; expected = so_many_states 256 } ∷
    record { query = eight_sets; expected = refusal 8 } ∷
    record { query = repeated_column; expected = refusal 5 } ∷
    record { query = column_past_the_end; expected = refusal 4 } ∷
    record { query = running_query; expected = table (3 ∷ 2 ∷ 1 ∷ 2 ∷ 0 ∷ 1 ∷ 0 ∷ 0 ∷ 2 ∷ 1 ∷ 2 ∷ 2 ∷ 1 ∷ 0 ∷ 2 ∷ 0 ∷ 6 ∷ 0 ∷ []) } ∷
    record { query = settled_chain; expected = after 0 [] 1 false } ∷
    record { query = settled_chain; expected = after 0 (0 ∷ []) 1 true } ∷
    record { query = time_axis_code; expected = after 0 [] 1 false } ∷
    record { query = time_axis_code; expected = after 0 (0 ∷ []) 1 true } ∷
    record { query = seven_constants; expected = table (2 ∷ 1 ∷ 3 ∷ 1 ∷ 0 ∷ 1 ∷ 1 ∷ 1 ∷ 0 ∷ 15 ∷ 0 ∷ []) } ∷
    record { query = newest_first; expected = after 0 [] 0 true } ∷
    record { query = newest_first; expected = after 0 [] 1 true } ∷
    record { query = newest_first; expected = after 0 [] 2 false } ∷
    record { query = descending_alone; expected = after 0 [] 1 false } ∷
    record { query = either_constant; expected = after 0 [] 3 false } ∷
    record { query = either_constant; expected = after 0 (0 ∷ []) 2 true } ∷
    record { query = either_constant; expected = after 0 (0 ∷ []) 3 true } ∷
    record { query = either_constant; expected = after 1 (0 ∷ []) 4 true } ∷
    record { query = either_constant; expected = after 1 (0 ∷ []) 5 false } ∷
    record { query = equal_direction; expected = after 0 (0 ∷ []) 1 true } ∷
    record { query = equal_direction; expected = after 0 (0 ∷ []) 2 false } ∷
    record { query = equal_direction; expected = after 0 (0 ∷ []) 3 true } ∷
    record { query = equal_direction; expected = after 0 (0 ∷ []) 5 true } ∷
    record { query = equal_direction; expected = after 0 (0 ∷ []) 6 false } ∷
    record { query = either_inserted; expected = after 0 (0 ∷ []) 1 true } ∷
    record { query = either_inserted; expected = after 0 (0 ∷ []) 2 true } ∷
    record { query = either_inserted; expected = after 0 (0 ∷ []) 3 false } ∷
    record { query = either_inserted; expected = after 0 (0 ∷ []) 4 false } ∷
    record { query = both_directions; expected = table (4 ∷ 2 ∷ 2 ∷ 1 ∷ 0 ∷ 1 ∷ 2 ∷ 3 ∷ 2 ∷ 3 ∷ 1 ∷ 0 ∷ 2 ∷ 0 ∷ 5 ∷ 0 ∷ 10 ∷ 0 ∷ []) } ∷
    record { query = descending_removed; expected = after 0 (0 ∷ []) 1 true } ∷
    record { query = descending_removed; expected = after 0 (0 ∷ []) 2 true } ∷
    record { query = descending_removed; expected = after 0 (0 ∷ []) 3 false } ∷
    record { query = column_both_ways; expected = refusal 5 } ∷
    record { query = descending_past_the_end; expected = refusal 4 } ∷
    record { query = descending_dependency; expected = refusal 4 } ∷
    record { query = used_255; expected = refusal 4 } ∷
    record { query = unused_128; expected = refusal 3 } ∷
    record { query = descending_twins; expected = refusal 6 } ∷
    []

-- Document 02, Req 01: suppliers' tables on trial. Accepted: our own, with directions too, one with a row for each pair of a produced order and sets in force, one with other state numbers, one with two rows
-- that behave alike twice over, one with a row that no start reaches. Refused: one with another number of tested orders; one that claims (b) from (a) by a pair of fixes; one made with the prefix test; one that is wrong only
-- after three sets; one made without the step that takes a settled column out; one that ignores direction.
abbrev pub supplied : List Trial
supplied =
    record { query = example; expected = verified (4 ∷ 2 ∷ 2 ∷ 2 ∷ 0 ∷ 1 ∷ 2 ∷ 0 ∷ 1 ∷ 3 ∷ 2 ∷ 2 ∷ 3 ∷ 3 ∷ 1 ∷ 0 ∷ 2 ∷ 0 ∷ 5 ∷ 0 ∷ 10 ∷ 0 ∷ []) 0 } ∷
    record { query = example; expected = verified (8 ∷ 2 ∷ 2 ∷ 2 ∷ 0 ∷ 1 ∷ 2 ∷ 3 ∷ 4 ∷ 5 ∷ 2 ∷ 6 ∷ 6 ∷ 3 ∷ 4 ∷ 7 ∷ 7 ∷ 5 ∷ 6 ∷ 6 ∷ 7 ∷ 7 ∷ 1 ∷ 0 ∷ 2 ∷ 0 ∷ 5 ∷ 0 ∷ 1 ∷ 0 ∷ 2 ∷ 0 ∷ 10 ∷ 0 ∷ 5 ∷ 0 ∷ 10 ∷ 0 ∷ []) 0 } ∷
    record { query = example; expected = verified (4 ∷ 2 ∷ 2 ∷ 2 ∷ 2 ∷ 0 ∷ 0 ∷ 1 ∷ 1 ∷ 1 ∷ 3 ∷ 2 ∷ 3 ∷ 3 ∷ 2 ∷ 0 ∷ 10 ∷ 0 ∷ 1 ∷ 0 ∷ 5 ∷ 0 ∷ []) 0 } ∷
    record { query = example; expected = verified (6 ∷ 2 ∷ 2 ∷ 2 ∷ 0 ∷ 1 ∷ 2 ∷ 0 ∷ 1 ∷ 3 ∷ 2 ∷ 4 ∷ 5 ∷ 3 ∷ 4 ∷ 4 ∷ 3 ∷ 5 ∷ 1 ∷ 0 ∷ 2 ∷ 0 ∷ 5 ∷ 0 ∷ 10 ∷ 0 ∷ 5 ∷ 0 ∷ 10 ∷ 0 ∷ []) 0 } ∷
    record { query = constant; expected = verified (3 ∷ 1 ∷ 1 ∷ 1 ∷ 0 ∷ 2 ∷ 0 ∷ 2 ∷ 1 ∷ 0 ∷ 2 ∷ 0 ∷ 3 ∷ 0 ∷ []) 0 } ∷
    record { query = example; expected = verified (3 ∷ 2 ∷ 1 ∷ 2 ∷ 0 ∷ 1 ∷ 2 ∷ 0 ∷ 1 ∷ 1 ∷ 2 ∷ 2 ∷ 1 ∷ 0 ∷ 2 ∷ 0 ∷ 5 ∷ 0 ∷ []) 12 } ∷
    record { query = fix_pair; expected = verified (2 ∷ 1 ∷ 1 ∷ 1 ∷ 0 ∷ 1 ∷ 1 ∷ 1 ∷ 0 ∷ 3 ∷ 0 ∷ []) 13 } ∷
    record { query = through_an_equal; expected = verified (1 ∷ 1 ∷ 1 ∷ 2 ∷ 0 ∷ 0 ∷ 0 ∷ 1 ∷ 0 ∷ []) 13 } ∷
    record { query = three_in_force; expected = verified (4 ∷ 1 ∷ 1 ∷ 3 ∷ 0 ∷ 0 ∷ 0 ∷ 1 ∷ 1 ∷ 2 ∷ 1 ∷ 3 ∷ 2 ∷ 2 ∷ 3 ∷ 3 ∷ 3 ∷ 1 ∷ 0 ∷ 1 ∷ 0 ∷ 1 ∷ 0 ∷ 3 ∷ 0 ∷ []) 13 } ∷
    record { query = time_axis_code; expected = verified (1 ∷ 1 ∷ 1 ∷ 1 ∷ 0 ∷ 0 ∷ 1 ∷ 0 ∷ []) 13 } ∷
    record { query = both_directions; expected = verified (4 ∷ 2 ∷ 2 ∷ 1 ∷ 0 ∷ 1 ∷ 2 ∷ 3 ∷ 2 ∷ 3 ∷ 1 ∷ 0 ∷ 2 ∷ 0 ∷ 5 ∷ 0 ∷ 10 ∷ 0 ∷ []) 0 } ∷
    record { query = direction_matters; expected = verified (2 ∷ 1 ∷ 2 ∷ 1 ∷ 0 ∷ 1 ∷ 1 ∷ 3 ∷ 0 ∷ 7 ∷ 0 ∷ []) 13 } ∷
    []

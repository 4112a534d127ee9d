-- A *joint state* is a state of one table with a state of another. Joint states as numbers, sets of them, and what is known of a set while it grows to all that are reached: those to which
-- some run leads in both tables.
use Rattle.std.specs.Prelude.{ℕ, ◌+◌, ◌*◌, ◌/◌, ◌%◌, ◌≤◌, ◌<◌, ◌≡◌, Bool, true, false, ◌⊎◌, length}
use mathlib.Core.List.{List, map, Memᴰ}
use Rattle.theory.specs.Tests.{up_from}
use Rattle.theory.specs.Limits.{max_states, max_joint_states}
use Rattle.theory.specs.Machine.{Reached, both}
use Rattle.theory.specs.Refusals.{passed}
use Rattle.theory.specs.Scratch.{joint_states_length}
use Rattle.theory.specs.Query.{Bytes}
use Rattle.theory.specs.Table.{produced_in, tested_in, sets_in, sizes_in, start_in, successor_in, machine_in, table_refusal, bit}
use Rattle.bit_sets.specs.BitSets.{in_bits, bits_below}

-- The number of a joint state, and the states of the joint state with a number.
abbrev pub joint_number : ℕ → ℕ → ℕ
joint_number x y = max_states * x + y

abbrev pub our_state : ℕ → ℕ
our_state i = i / max_states

abbrev pub their_state : ℕ → ℕ
their_state i = i % max_states

-- Two tables: ours, and the one beside it.
pub record Tables : Type 0 where
  pub ours : Bytes
  pub theirs : Bytes

-- Two tables that pass the table check and have the same sizes.
pub record Comparable (a b : Bytes) : Type 0 where
  pub ours : table_refusal a ≡ passed
  pub theirs : table_refusal b ≡ passed
  pub produced : produced_in b ≡ produced_in a
  pub tested : tested_in b ≡ tested_in a
  pub sets : sets_in b ≡ sets_in a

-- The joint state of the starts of a produced order, and the joint state that taking a set leads to.
abbrev pub start_joint_state : Bytes → Bytes → ℕ → ℕ
start_joint_state a b p = joint_number (start_in a p) (start_in b p)

abbrev pub next_joint_state : Bytes → Bytes → ℕ → ℕ → ℕ
next_joint_state a b i s = joint_number (successor_in a (our_state i) s) (successor_in b (their_state i) s)

abbrev pub next_joint_states : Bytes → Bytes → ℕ → List ℕ
next_joint_states a b i = map (next_joint_state a b i) (up_from 0 (sets_in a))

-- The joint state with a number is reached: some run leads to its states in the two tables.
abbrev pub Together : Bytes → Bytes → ℕ → Type 0
Together a b i = Reached (both (machine_in a) (machine_in b)) (sizes_in a) (our_state i, their_state i)

-- A set of joint states, each of which is reached.
pub record JointWalking (a b m : Bytes) : Type 0 where
  pub comparable : Comparable a b
  pub long : length m ≡ joint_states_length
  pub sound : (i : ℕ) → in_bits m i ≡ true → Together a b i

-- How many joint states are in a set.
unfoldable pub joint_state_count : Bytes → ℕ
joint_state_count m = bits_below max_joint_states m

-- The joint states xs were put into the set m, which became m'. Where r is true, one of them was not there; where it is false, none of those that were not there has a number below
-- `bound`.
pub record Added (bound : ℕ) (xs : List ℕ) (m m' : Bytes) (r : Bool) : Type 0 where
  pub long : length m' ≡ length m
  pub keeps : (j : ℕ) → in_bits m j ≡ true → in_bits m' j ≡ true
  pub has : (j : ℕ) → Memᴰ j xs → in_bits m' j ≡ true
  pub only : (j : ℕ) → in_bits m' j ≡ true → Memᴰ j xs ⊎ (in_bits m j ≡ true)
  pub counted : bit r + joint_state_count m ≤ joint_state_count m'
  pub behind : r ≡ false → (j : ℕ) → j < bound → in_bits m' j ≡ true → in_bits m j ≡ true

-- The joint states with the numbers from `from` to below `to` had their turn, from the set m to the set m'. Where r is true, a joint state was added; where it is false, none that was
-- added has a number below `from`, and all that the joint states that had their turn lead to is there.
pub record JointVisited (a b : Bytes) (from to : ℕ) (m m' : Bytes) (r : Bool) : Type 0 where
  pub walking : JointWalking a b m'
  pub keeps : (j : ℕ) → in_bits m j ≡ true → in_bits m' j ≡ true
  pub counted : bit r + joint_state_count m ≤ joint_state_count m'
  pub behind : r ≡ false → (j : ℕ) → j < from → in_bits m' j ≡ true → in_bits m j ≡ true
  pub closed : r ≡ false → (i : ℕ) → from ≤ i → i < to → in_bits m' i ≡ true → (j : ℕ) → Memᴰ j (next_joint_states a b i) → in_bits m' j ≡ true

-- A set that is closed: all that its joint states lead to is there. It has what the set m had.
pub record JointClosed (a b m m' : Bytes) : Type 0 where
  pub walking : JointWalking a b m'
  pub keeps : (j : ℕ) → in_bits m j ≡ true → in_bits m' j ≡ true
  pub closed : (i : ℕ) → in_bits m' i ≡ true → (j : ℕ) → Memᴰ j (next_joint_states a b i) → in_bits m' j ≡ true

-- The set has exactly the joint states that are reached.
pub record AllTogether (a b m : Bytes) : Type 0 where
  pub walking : JointWalking a b m
  pub complete : (x : ℕ × ℕ) → Reached (both (machine_in a) (machine_in b)) (sizes_in a) x → in_bits m (joint_number x.0 x.1) ≡ true

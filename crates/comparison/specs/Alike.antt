-- Joint states whose two states hold the same orders.
use Rattle.std.specs.Prelude.{ℕ, ◌≤◌, ◌<◌, ◌≡◌, true}
use Rattle.theory.specs.Query.{Bytes}
use Rattle.theory.specs.Table.{held_orders}
use Rattle.bit_sets.specs.BitSets.{in_bits}
use Rattle.joint_states.specs.JointStates.{our_state, their_state}

-- The two states of each joint state of the set, with a number from `from` to below `to`, hold the same orders.
pub record AlikeFrom (a b m : Bytes) (from to : ℕ) : Type 0 where
  pub alike : (i : ℕ) → from ≤ i → i < to → in_bits m i ≡ true → held_orders a (our_state i) ≡ held_orders b (their_state i)

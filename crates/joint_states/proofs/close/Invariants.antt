use Prim.Native.Nat.{ℕ, ◌-◌}
use mathlib.Core.Path.{◌≡◌}
use mathlib.Core.Bool.{true}
use Rattle.theory.specs.Limits.{max_joint_states}
use Rattle.bit_sets.specs.BitSets.{in_bits}
use Rattle.joint_states.specs.JointStates.{JointWalking, joint_state_count}
use Rattle.joint_states.proofs.close.Given as goal

abbrev pub invariant-loop : goal.invariant-loop
invariant-loop l = record {
  walking : JointWalking l.tables.ours l.tables.theirs l.reached;
  keeps : (j : ℕ) → in_bits l.initial.reached j ≡ true → in_bits l.reached j ≡ true;
}

abbrev pub decreases-loop : goal.decreases-loop
decreases-loop l = max_joint_states - joint_state_count l.reached

-- `verify::verify` meets its contract: the build is refused, or its table is put beside the supplier's.
use mathlib.Core.List.{◌++◌}
use lib.ListN.{length, take, drop}
use Rattle.theory.specs.Scratch.{joint_states_length}
use Prim.Native.Nat.{◌≤◌}
use lib.Seq.{length-take-le}
use native.Mathlib.Omega.{arith}
use mathlib.Core.Path.{sym, ◌∙◌, ap}
use Rattle.numbers.proofs.RefusalLaws.{passed_on}
use Rattle.verify.proofs.OwnLaws.{Granted, build_refused, build_granted, joint_cleared}
use borrow.Author.Rules.{rules}
use Rattle.verify.proofs.verify.Goals.{In_ok-length}
use Rattle.verify.proofs.verify.Goals as goal

pub returns-in_err-length : goal.returns-in_err-length
returns-in_err-length c = let e = c.in_err-length.ensures in record {
  value = passed_on c.from_residual.result _ c.from_residual.ensures.1 ∙ build_refused c.args.query.now c.args.scratch.now _ e.value c.args.table.now;
  scratch_after = e.scratch_after;
}

-- what is known where the build gave a table
granted : (c : In_ok-length) → let k = c.in_ok-length in let a = c.args in (k.length ≤ length c.build.new.output) × Granted a.query.now a.scratch.now (take k.length c.build.new.output)
granted c = let e = c.in_ok-length.ensures in let a = c.args in build_granted a.query.now a.scratch.now e.value e.output_after

pub slice_bounds-ours-end : goal.slice_bounds-ours-end
slice_bounds-ours-end c = (granted (goal.at.slice_bounds-ours-end c).In_ok-length).0

pub slice_bounds-supplied_cleared-end : goal.slice_bounds-supplied_cleared-end
slice_bounds-supplied_cleared-end c = sym (length-take-le _ _ (granted (goal.at.slice_bounds-supplied_cleared-end c).In_ok-length).0)

pub slice_bounds-supplied_cleared-end-2 : goal.slice_bounds-supplied_cleared-end-2
slice_bounds-supplied_cleared-end-2 c = let g = (granted (goal.at.slice_bounds-supplied_cleared-end-2 c).In_ok-length).1.room in omega arith

pub slice_bounds-supplied_cleared-end-3 : goal.slice_bounds-supplied_cleared-end-3
slice_bounds-supplied_cleared-end-3 c = let g = (granted (goal.at.slice_bounds-supplied_cleared-end-3 c).In_ok-length).1.room in sym (length-take-le joint_states_length c.build.new.scratch (omega arith))

pub supplied_cleared-requires : goal.supplied_cleared-requires
supplied_cleared-requires c = let g = (granted (goal.at.supplied_cleared-requires c).In_ok-length).1 in let l = g.room in (g.own, length-take-le joint_states_length c.build.new.scratch (omega arith))

pub returns : goal.returns
returns c = let g = (granted (goal.at.returns c).In_ok-length).1 in let a = c.args in let k = c.build in let e = c.supplied_cleared.ensures in
    record {
      value = e.0 ∙ g.goes_on a.table.now;
      scratch_after = ap (λ p. p ++ drop joint_states_length k.new.scratch) e.1 ∙ joint_cleared a.scratch.now k.new.scratch g.room (c.in_ok-length.ensures.scratch_after ∙ g.cleared) (search rules) ∙ sym g.cleared;
    }

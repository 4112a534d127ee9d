-- What a continuing call answers and leaves in the lent buffers: where it is refused, where it settles a pair, and where it ends the build.
use Prim.Native.Nat.{suc, ◌-◌, ◌≤◌, ◌<◌}
use native.Mathlib.Omega.{arith}
use mathlib.Core.Path.{◌≡◌, refl, sym, ◌∙◌, ap, subst}
use mathlib.Core.Bool.{Bool}
use mathlib.Core.Logic.{◌≢◌, inl, inr}
use lib.ListN.{length, take}
use lib.Seq.{take-take}
use Rattle.theory.specs.Tests.{Says, holds, fails}
use Rattle.theory.specs.Limits.{scratch_length}
use Rattle.theory.specs.Construction.{sizes_of_query}
use Rattle.theory.specs.Refusals.{passed}
use Rattle.theory.specs.Query.{Bytes, read_query}
use Rattle.theory.specs.Table.{refuse}
use Rattle.std.proofs.Common.{ℕ, Option, None, Some, Result, Ok, Err, ◌↔◌}
use Rattle.theory.specs.Scratch.{held_part, rows_table}
use Rattle.theory.specs.Build.{Outcome, limited, delivered, zeroed, written}
use Rattle.theory.specs.Steps.{pair_count, count_in, begin_refusal, count_refusal, continue_refusal, settled_pair, merged_table, pair_settled, as_build, continued, continued_output, continued_scratch, Lent}
use Rattle.theory.proofs.Reflect.{says_eqb, says_ltb}
use Rattle.theory.proofs.RefusalLaws.{or_passed}
use Rattle.theory.proofs.DemandThree.{query_limited}
use Rattle.theory.proofs.StepLaws.{begin_lent, count_fails, refused_call, refused_scratch, settles_call, settles_scratch, last_call, last_scratch, output_by}
use Rattle.table_rows.proofs.WordTables.{rows_front}
use Rattle.numbers.specs.declared.refusals.Refusal.{Refusal}
use Rattle.numbers.specs.Refusals.{number_of}
use Rattle.numbers.proofs.RefusalLaws.{refused}
use Rattle.builder.specs.Built.{built_answer, Done}
use Rattle.steps.specs.Continued.{step_answer, continued_answer}

-- What is known where a continuing call is not refused.
pub record Called (query scratch : Bytes) : Type 0 where
  pub lent : Lent query scratch
  pub some : 1 ≤ count_in scratch
  pub few : count_in scratch ≤ suc (pair_count (read_query query))

pub called : (query scratch : Bytes) → continue_refusal query scratch ≡ passed → Called query scratch
unfolding continue_refusal
called query scratch e =
    let pairs = pair_count (read_query query) in
    let both = or_passed (begin_refusal query (length scratch)) (count_refusal pairs (count_in scratch)) e in
    go (begin_lent query scratch both.0) both.1 (says_eqb (count_in scratch) 0) (says_ltb (suc pairs) (count_in scratch))
  where
    go : Lent query scratch → count_refusal (pair_count (read_query query)) (count_in scratch) ≡ passed → {a b : Bool} → Says (count_in scratch ≡ 0) a →
        Says (suc (pair_count (read_query query)) < count_in scratch) b → Called query scratch
    go l d (holds h) _ = let f : ⊥ = omega (arith, d, count_fails (pair_count (read_query query)) (count_in scratch) (inl h)) in absurd f
    go l d (fails h) (holds k) = let f : ⊥ = omega (arith, d, count_fails (pair_count (read_query query)) (count_in scratch) (inr k)) in absurd f
    go l d (fails h) (fails k) = record { lent = l; some = omega arith; few = omega arith }

-- what `go_on` promises, in one piece: its answer, whether a pair was settled, and the buffers
pub record CallDone (b scratch output scratch' output' : Bytes) (r : Result (Option ℕ) Refusal) : Type 0 where
  pub value : step_answer r ≡ continued_answer (continued b scratch (length output))
  pub settled : (r ≡ Ok None) ↔ (continued b scratch (length output) ≡ pair_settled)
  pub output_after : output' ≡ continued_output b scratch output
  pub scratch_after : scratch' ≡ continued_scratch b scratch

module _ (b s o : Bytes) where
  from_build : {p : Outcome} {s' o' : Bytes} {r : Result (Option ℕ) Refusal} → continued b s (length o) ≡ as_build p → step_answer r ≡ built_answer p → ¬ (r ≡ Ok None)
      → o' ≡ written p o → s' ≡ continued_scratch b s → CallDone b s o s' o' r
  from_build {p} e a n w h =
      record {
        value = a ∙ ap continued_answer (sym e);
        settled = (λ k. absurd (n k), λ k. absurd (never p (sym e ∙ k)));
        output_after = w ∙ sym (output_by b s o e);
        scratch_after = h;
      }
    where
      never : (p : Outcome) → ¬ (as_build p ≡ pair_settled)
      never p k = cc

  pub call_refused : (r : Refusal) → number_of r ≡ continue_refusal b s → CallDone b s o s o (Err r)
  call_refused r a =
      let n = subst (λ k. k ≢ passed) a (refused r) in
      from_build (refused_call b s n (length o)) (ap refuse a) (λ k. cc) refl (sym (refused_scratch b s n))

  module _ (e : passed ≡ continue_refusal b s) where
    passes : continue_refusal b s ≡ passed
    passes = sym e

    pub call_settled : {s' : Bytes} → count_in s ≤ pair_count (read_query b) → s' ≡ settled_pair (read_query b) (count_in s - 1) s → CallDone b s o s' o (Ok None)
    call_settled l h =
        let k = settles_call b s passes l (length o) in
        record {
          value = ap continued_answer (sym k);
          settled = (λ x. k, λ x. refl);
          output_after = sym (output_by b s o k);
          scratch_after = h ∙ sym (settles_scratch b s passes l);
        }

    -- the words lie in the zeroed part
    merged_front : merged_table (read_query b) (take scratch_length s) ≡ merged_table (read_query b) s
    merged_front =
        let z = sizes_of_query (read_query b) in
        let limits = query_limited b (called b s passes).lent.checked in
        sym (rows_front z (take scratch_length s) limits.few_produced limits.few_sets)
        ∙ ap (rows_table z) (take-take held_part scratch_length s (omega arith))
        ∙ rows_front z s limits.few_produced limits.few_sets

    abbrev last : Outcome
    last = delivered (limited (merged_table (read_query b) s)) (length o)

    ended : {o' : Bytes} {r : Result ℕ Refusal} → Done (delivered (limited (merged_table (read_query b) (take scratch_length s))) (length o)) o o' r → Done last o o' r
    ended {o'} {r} d = subst (λ t. Done (delivered (limited t) (length o)) o o' r) merged_front d

    module _ {s' o' : Bytes} (l : pair_count (read_query b) < count_in s) (h : s' ≡ zeroed scratch_length s) where
      pub call_refused_last : (r : Refusal) → Done (delivered (limited (merged_table (read_query b) (take scratch_length s))) (length o)) o o' (Err r) → CallDone b s o s' o' (Err r)
      call_refused_last r d = let x = ended d in from_build (last_call b s passes l (length o)) x.answer (λ k. cc) x.output (h ∙ sym (last_scratch b s passes l))

      pub call_last : (n : ℕ) → Done (delivered (limited (merged_table (read_query b) (take scratch_length s))) (length o)) o o' (Ok n) → CallDone b s o s' o' (Ok (Some n))
      call_last n d = let x = ended d in from_build (last_call b s passes l (length o)) x.answer (λ k. cc) x.output (h ∙ sym (last_scratch b s passes l))

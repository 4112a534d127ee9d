-- A build before the trial: its refusal is the trial's, or its table is the query's own; then the table's checks beside it.
use Prim.Native.Nat.{ℕ, ◌≤◌, ◌<◌}
use native.Mathlib.Omega.{arith}
use mathlib.Core.Path.{◌≡◌, refl, sym, ◌∙◌, ap, ap₂, subst}
use mathlib.Core.Logic.{◌≢◌}
use mathlib.Core.Bool.{Bool, true, false}
use mathlib.Core.List.{◌++◌}
use lib.Dec.{ltb}
use lib.ListN.{length, take, drop, replicate, length-append}
use lib.Seq.{take_at}
use borrow.Author.Tests.{eq-eqb, ne_eqb, lt-ltb, le-ltb, le-leb}
use Rattle.theory.specs.Tests.{pick, Says, holds, fails}
use Rattle.theory.specs.Limits.{scratch_length, longest_table}
use Rattle.theory.specs.Machine.{SameAnswers}
use Rattle.theory.specs.Orders.{WellFormed}
use Rattle.theory.specs.Construction.{sizes_of_query}
use Rattle.theory.specs.Scratch.{joint_states_length}
use Rattle.theory.specs.Refusals.{passed, states_refused, space_refused, mismatch_refused, answer_refused}
use Rattle.theory.specs.Query.{Bytes, read_query, query_refusal}
use Rattle.theory.specs.Table.{Answer, grant, refuse, numbers_of, write_table, machine_in, sizes_in, table_refusal}
use Rattle.theory.specs.Build.{Constructed, too_many, table, construct, Constructs, Outcome, refused, built, delivered, outcome, written, output_after, scratch_after, zeroed}
use Rattle.theory.specs.Verification.{SameSizes, same_sizes, mismatch_refusal, answer_refusal, supplied_refusal, verified_with, verify_refusal}
use Rattle.theory.proofs.Reflect.{says_one, says_as, says_true, true_says, false_says, says_eqb, says_ltb}
use Rattle.theory.proofs.RefusalLaws.{refused_else}
use Rattle.theory.proofs.ReadLaws.{query_formed}
use Rattle.theory.proofs.JointLaws.{same_sym, same_trans}
use Rattle.theory.proofs.MachineTable.{Limited, bytes_answer}
use Rattle.theory.proofs.BuildLaws.{construct_means}
use Rattle.theory.proofs.ConstructionLaws.{Made, made, made_sized, made_numbered, made_passes, made_faithful, made_sizes}
use Rattle.theory.proofs.DemandThree.{query_limited}
use Rattle.theory.proofs.VerificationLaws.{sizes_are, says_sizes, answers_say}
use Rattle.theory.proofs.SuppliedTables.{faithful_sizes}
use Rattle.theory.proofs.ClearLaws.{zeroed_part, zeroed_again}
use Rattle.numbers.specs.declared.refusals.Refusal.{Refusal}
use Rattle.numbers.specs.Refusals.{number_of}
use Rattle.numbers.proofs.RefusalLaws.{refused as refusal_given, first_refuses, first_passes}
use Rattle.builder.specs.Built.{built_answer}
use Rattle.builder.proofs.AnswerLaws.{table_room}
use Rattle.joint_states.specs.JointStates.{Comparable}
use Rattle.verify.specs.Own.{Own}

-- A build with room for every table, and what the trial's outcome is by it.
pub data AfterBuild (query : Bytes) (scratch : ℕ) : Outcome → Type 0 where
  no_table : {n : ℕ} → n ≢ passed → ((t : Bytes) → n ≡ verify_refusal query t scratch) → AfterBuild query scratch (refused n)
  own_table : {ours : Bytes} → scratch_length ≤ scratch → Own query ours → ((t : Bytes) → verified_with (read_query query) (construct (read_query query)) t ≡ verify_refusal query t scratch) →
      AfterBuild query scratch (built ours)

module _ (query : Bytes) (scratch : ℕ) where
  module _ (c : query_refusal query ≡ passed) where
    module _ (s : scratch_length ≤ scratch) where
      past : (t : Bytes) → verified_with (read_query query) (construct (read_query query)) t ≡ verify_refusal query t scratch
      unfolding verify_refusal
      past t = rw (eq-eqb (query_refusal query) passed c, le-ltb scratch scratch_length s, verify_refusal)

      delivered_after : (k : Constructed) → construct (read_query query) ≡ k → Constructs (read_query query) k → AfterBuild query scratch (delivered k longest_table)
      delivered_after too_many e d = no_table {n = states_refused} (λ z. omega arith) (λ t. ap (λ k. verified_with (read_query query) k t) (sym e) ∙ past t)
      delivered_after (table k) e d =
          rw (le-ltb longest_table (length (write_table k)) (table_room query c d), delivered)
          (own_table s (record { checked = c; contents = k; constructed = e; bytes = refl }) past)

    short_after : {s : Bool} → Says (scratch < scratch_length) s → AfterBuild query scratch (elim s [ true ↦ refused space_refused | false ↦ delivered (construct (read_query query)) longest_table ])
    unfolding verify_refusal
    short_after (holds h) = no_table {n = space_refused} (λ e. omega arith) (λ t. rw (eq-eqb (query_refusal query) passed c, lt-ltb scratch scratch_length h, verify_refusal))
    short_after (fails h) = delivered_after (omega arith) (construct (read_query query)) refl (construct_means (read_query query))

  query_after : {b : Bool} → Says (query_refusal query ≡ passed) b →
      AfterBuild query scratch (elim b [ true ↦ elim (ltb scratch scratch_length) [ true ↦ refused space_refused | false ↦ delivered (construct (read_query query)) longest_table ] | false ↦ refused (query_refusal query) ])
  unfolding verify_refusal
  query_after (holds c) = short_after c (says_ltb scratch scratch_length)
  query_after (fails n) = no_table n (λ t. rw (ne_eqb (query_refusal query) passed n, verify_refusal))

  pub after_build : AfterBuild query scratch (outcome query scratch longest_table)
  unfolding outcome
  after_build = query_after (says_eqb (query_refusal query) passed)

-- What is known where the build gave a table: the bytes are the query's own table, the trial goes on from there, and the scratch is cleared.
pub record Granted (query scratch ours : Bytes) : Type 0 where
  pub room : scratch_length ≤ length scratch
  pub own : Own query ours
  pub goes_on : (t : Bytes) → verified_with (read_query query) (construct (read_query query)) t ≡ verify_refusal query t (length scratch)
  pub cleared : scratch_after query scratch ≡ zeroed scratch_length scratch

scratch_cleared : (query scratch : Bytes) → query_refusal query ≡ passed → scratch_length ≤ length scratch → scratch_after query scratch ≡ zeroed scratch_length scratch
unfolding scratch_after
scratch_cleared query scratch c h = rw (eq-eqb (query_refusal query) passed c, le-leb scratch_length (length scratch) h, scratch_after)

-- the room that the trial lends to the build
abbrev lent : Bytes
lent = replicate longest_table 0

module _ (query scratch : Bytes) where
  -- the build's refusal is the trial's, ..
  pub build_refused : (r : Refusal) → refuse (number_of r) ≡ built_answer (outcome query (length scratch) (length lent)) → (t : Bytes) → number_of r ≡ verify_refusal query t (length scratch)
  build_refused r a t = go (after_build query (length scratch)) a
    where
      go : {o : Outcome} → AfterBuild query (length scratch) o → refuse (number_of r) ≡ built_answer o → number_of r ≡ verify_refusal query t (length scratch)
      go (no_table _ f) e = ap (λ (x : Answer). x.refusal) e ∙ f t
      go (own_table _ _ _) e = absurd (refusal_given r (ap (λ (x : Answer). x.refusal) e))

  -- .. or its table is the query's own
  pub build_granted : {n : ℕ} {output : Bytes} → grant n ≡ built_answer (outcome query (length scratch) (length lent)) → output ≡ output_after query (length scratch) lent →
      (n ≤ length output) × Granted query scratch (take n output)
  unfolding output_after
  build_granted {n} {output} a w = go (after_build query (length scratch)) a w
    where
      go : {o : Outcome} → AfterBuild query (length scratch) o → grant n ≡ built_answer o → output ≡ written o lent → (n ≤ length output) × Granted query scratch (take n output)
      go (no_table h _) e w = absurd (h (sym (ap (λ (x : Answer). x.refusal) e)))
      go (own_table {ours} s o p) e w =
          let long = ap (λ (x : Answer). x.value) e in
          let same : take n output ≡ ours = ap₂ take long w ∙ take_at ours (drop (length ours) lent) (length ours) refl in
          (rw (w, length-append) (omega arith), rw same (record { room = s; own = o; goes_on = p; cleared = scratch_cleared query scratch o.checked s }))

-- clearing the joint states leaves the scratch as the build left it
pub joint_cleared : (scratch d : Bytes) → scratch_length ≤ length scratch → d ≡ zeroed scratch_length scratch → length d ≡ length scratch →
    zeroed (length (take joint_states_length d)) (take joint_states_length d) ++ drop joint_states_length d ≡ zeroed scratch_length scratch
joint_cleared scratch d h e l = zeroed_part joint_states_length d (omega arith) ∙ ap (zeroed joint_states_length) e ∙ zeroed_again joint_states_length scratch_length scratch (omega arith)

-- the two outcomes of check 12
pub sizes_differ : (query t : Bytes) → ¬ SameSizes (read_query query) t → mismatch_refused ≡ mismatch_refusal (read_query query) t
unfolding mismatch_refusal
sizes_differ query t n = rw (false_says (says_sizes (read_query query) t) n)

pub sizes_agree : (query t : Bytes) → SameSizes (read_query query) t → passed ≡ mismatch_refusal (read_query query) t
unfolding mismatch_refusal
sizes_agree query t s = rw (true_says (says_sizes (read_query query) t) s)

-- the table's checks beside the query's own table
module _ {query ours : Bytes} (o : Own query ours) (t : Bytes) where
  abbrev pub OutcomeIs : ℕ → Type 0
  OutcomeIs r = r ≡ verified_with (read_query query) (construct (read_query query)) t

  facts : Made (read_query query) o.contents
  facts = made (read_query query) (subst (Constructs (read_query query)) o.constructed (construct_means (read_query query)))

  limits : Limited (sizes_of_query (read_query query))
  limits = query_limited query o.checked

  formed : WellFormed (read_query query)
  formed = query_formed query o.checked

  by_checks : {r : ℕ} → r ≡ supplied_refusal (read_query query) o.contents t → OutcomeIs r
  by_checks e = e ∙ ap (λ k. verified_with (read_query query) k t) (sym o.constructed)

  pub form_fails : (r : Refusal) → number_of r ≡ table_refusal t → OutcomeIs (number_of r)
  unfolding supplied_refusal
  form_fails r e = by_checks (first_refuses r _ e)

  module _ (passes : table_refusal t ≡ passed) where
    pub sizes_fail : (r : Refusal) → number_of r ≡ mismatch_refusal (read_query query) t → OutcomeIs (number_of r)
    unfolding supplied_refusal
    sizes_fail r e = by_checks (first_passes (sym passes) (first_refuses r _ e))

    module _ (sizes : mismatch_refusal (read_query query) t ≡ passed) where
      same_sizes_lem : SameSizes (read_query query) t
      unfolding mismatch_refusal
      same_sizes_lem = says_true (says_sizes (read_query query) t) (refused_else (same_sizes (read_query query) t) sizes (omega arith)).0

      own_sizes : SameSizes (read_query query) ours
      own_sizes = subst (SameSizes (read_query query)) (sym o.bytes) (faithful_sizes (made_faithful limits facts formed))

      pub comparable : Comparable ours t
      comparable =
          record {
            ours = subst (λ k. table_refusal k ≡ passed) (sym o.bytes) (made_passes limits facts);
            theirs = passes;
            produced = same_sizes_lem.produced ∙ sym own_sizes.produced;
            tested = same_sizes_lem.tested ∙ sym own_sizes.tested;
            sets = same_sizes_lem.sets ∙ sym own_sizes.sets;
          }

      -- our bytes answer as our numbers do
      own_same : SameAnswers (sizes_of_query (read_query query)) (machine_in ours) (numbers_of o.contents)
      own_same =
          subst (λ b. SameAnswers (sizes_of_query (read_query query)) (machine_in b) (numbers_of o.contents)) (sym o.bytes)
          (subst (λ z. SameAnswers z (machine_in (write_table o.contents)) (numbers_of o.contents)) (made_sizes limits facts)
          (bytes_answer o.contents (made_sized limits facts) (made_numbered limits facts)))

      pub answers_decide : {r : Bool} → Says (SameAnswers (sizes_in ours) (machine_in ours) (machine_in t)) r → OutcomeIs (pick r passed answer_refused)
      unfolding supplied_refusal answer_refusal
      answers_decide {r} s =
          let z = sizes_of_query (read_query query) in
          let m = machine_in ours in
          let n = numbers_of o.contents in
          let k = machine_in t in
          let told = subst (λ y. Says (SameAnswers y m k) r) (sizes_are (read_query query) ours own_sizes) s in
          let same = says_one (says_as (same_trans z n m k (same_sym z m n own_same)) (same_trans z m n k own_same) told) (answers_say formed limits facts t passes same_sizes_lem) in
          by_checks (rw (passes, sizes) (ap (λ b. pick b passed answer_refused) same))

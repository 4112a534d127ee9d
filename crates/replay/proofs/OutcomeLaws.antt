-- From a build's answer to its outcome, and demand 3 of the lookups answered on the table that it wrote.
use Prim.Native.Nat.{ℕ, ◌≤◌}
use native.Mathlib.Omega.{arith}
use mathlib.Core.Path.{◌≡◌, refl, sym, ap, subst}
use mathlib.Core.Logic.{◌≢◌}
use lib.ListN.{length, take, drop, length-append}
use lib.Seq.{take-append_seam}
use Rattle.theory.specs.Refusals.{passed}
use Rattle.theory.specs.Query.{Bytes}
use Rattle.theory.specs.Table.{Answer}
use Rattle.theory.specs.Build.{Outcome, refused, built, outcome, written, output_after}
use Rattle.theory.proofs.DemandThree.{demand_three}
use Rattle.builder.specs.Built.{built_answer}
use Rattle.builder.proofs.AnswerLaws.{granted}
use Rattle.replay.specs.Replay.{replayed, lookups_after, Modelled}
use Rattle.replay.proofs.ReplayLaws.{answers_run}

-- A refused build keeps the lookups' bytes.
kept : (o : Outcome) (lookups : Bytes) → (built_answer o).refusal ≢ passed → lookups ≡ lookups_after o lookups
kept (refused n) lookups h = refl
kept (built t) lookups h = absurd (h refl)

-- The table of an unrefused build is the output's first bytes.
record TableFirst (o : Outcome) (output : Bytes) : Type 0 where
  pub room : (built_answer o).value ≤ length (written o output)
  pub replays : (lookups : Bytes) → replayed (take (built_answer o).value (written o output)) 0 lookups ≡ lookups_after o lookups

table_first : {o : Outcome} (output : Bytes) → (t : Bytes) × (o ≡ built t) → TableFirst o output
table_first output (t, e) =
    subst (λ o. TableFirst o output) (sym e)
    (record {
      room = rw length-append (omega arith);
      replays = λ lookups. ap (λ u. replayed u 0 lookups) (take-append_seam t (drop (length t) output));
    })

-- Demand 3: the bytes handed back hold the plain model's answers.
pub modelled : (query : Bytes) (scratch output : ℕ) (before : Bytes) {after : Bytes} → after ≡ lookups_after (outcome query scratch output) before → Modelled query scratch output before after
modelled query scratch output before k =
    record {
      answers = λ {t} e {h} {ls} f l p ss. rw (k, e, answers_run, f) (demand_three query scratch output t e h l ls p ss 0);
    }

-- What a caller of the builder knows of the table, from the answer r and the output afterwards.
module _ (query : Bytes) (scratch : ℕ) (output : Bytes) {r : Answer} (e : r ≡ built_answer (outcome query scratch (length output))) where
  pub lookups_kept : (lookups : Bytes) → r.refusal ≢ passed → lookups ≡ lookups_after (outcome query scratch (length output)) lookups
  lookups_kept lookups h = kept (outcome query scratch (length output)) lookups (rw e at h)

  module _ {after : Bytes} (w : after ≡ output_after query scratch output) (h : r.refusal ≡ passed) where
    first : TableFirst (outcome query scratch (length output)) output
    first = table_first output (granted query scratch (length output) (rw e at h))

    pub table_room : r.value ≤ length after
    unfolding output_after
    table_room = rw (e, w) first.room

    pub lookups_replayed : (lookups : Bytes) → replayed (take r.value after) 0 lookups ≡ lookups_after (outcome query scratch (length output)) lookups
    unfolding output_after
    lookups_replayed lookups = rw (e, w) (first.replays lookups)

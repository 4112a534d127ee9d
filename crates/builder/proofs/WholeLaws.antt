-- The checks before the construction: what a build answers and leaves in the lent buffers.
use Rattle.std.specs.Prelude.{Result}
use Prim.Native.Nat.{ℕ, ◌≤◌, ◌<◌}
use mathlib.Core.Path.{◌≡◌, refl, sym, ◌∙◌, subst}
use mathlib.Core.Logic.{◌≢◌}
use lib.ListN.{length}
use borrow.Author.Tests.{lt-ltb, le-ltb, le-leb, lt-leb, eq-eqb, ne_eqb}
use Rattle.theory.specs.Limits.{scratch_length}
use Rattle.theory.specs.Refusals.{passed, space_refused}
use Rattle.theory.specs.Query.{Bytes, read_query, query_refusal}
use Rattle.theory.specs.Build.{Outcome, refused, construct, delivered, outcome, output_after, scratch_after, zeroed}
use Rattle.theory.specs.Table.{refuse}
use Rattle.numbers.specs.declared.refusals.Refusal.{Refusal}
use Rattle.numbers.specs.Refusals.{answer_in}
use Rattle.builder.specs.Built.{built_answer, Done}
use Rattle.builder.proofs.DeliverLaws.{done_refused}

-- what `build` promises, in one piece
abbrev pub BuildDone : Bytes → (scratch output scratch' output' : Bytes) → Result ℕ Refusal → Type 0
BuildDone b s o s' o' r = (answer_in r ≡ built_answer (outcome b (length s) (length o))) × ((o' ≡ output_after b (length s) o) × (s' ≡ scratch_after b s))

module _ (b s o : Bytes) where
  from_outcome : {p : Outcome} {s' o' : Bytes} {r : Result ℕ Refusal} → outcome b (length s) (length o) ≡ p → Done p o o' r → s' ≡ scratch_after b s → BuildDone b s o s' o' r
  unfolding output_after
  from_outcome {s'} {o'} {r} e d h = let x = subst (λ p. Done p o o' r) (sym e) d in (x.answer, (x.output, h))

  pub whole_refused : (r : Result ℕ Refusal) → query_refusal b ≢ passed → answer_in r ≡ refuse (query_refusal b) → BuildDone b s o s o r
  unfolding outcome scratch_after
  whole_refused r n a =
      let e = ne_eqb (query_refusal b) passed n in
      from_outcome {p = refused (query_refusal b)} (rw (e, outcome)) (done_refused (query_refusal b) refl a) (rw (e, scratch_after))

  module _ (c : query_refusal b ≡ passed) where
    pub whole_short : (r : Result ℕ Refusal) → length s < scratch_length → answer_in r ≡ refuse space_refused → BuildDone b s o s o r
    unfolding outcome scratch_after
    whole_short r h a =
        let e = eq-eqb (query_refusal b) passed c in
        from_outcome {p = refused space_refused} (rw (e, lt-ltb (length s) scratch_length h, outcome)) (done_refused space_refused refl a)
        (rw (e, lt-leb scratch_length (length s) h, scratch_after))

    pub whole_built : {s' o' : Bytes} {r : Result ℕ Refusal} → scratch_length ≤ length s → Done (delivered (construct (read_query b)) (length o)) o o' r → s' ≡ zeroed scratch_length s → BuildDone b s o s' o' r
    unfolding outcome scratch_after
    whole_built h d z =
        let e = eq-eqb (query_refusal b) passed c in
        from_outcome {p = delivered (construct (read_query b)) (length o)} (rw (e, le-ltb (length s) scratch_length h, outcome)) d
        (z ∙ rw (e, le-leb scratch_length (length s) h, scratch_after))

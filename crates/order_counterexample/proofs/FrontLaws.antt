-- What is answered to the first bytes of a query is answered to the whole.
use Prim.Native.Nat.{ℕ, ◌≤◌, ◌<◌}
use native.Mathlib.Omega.{arith}
use mathlib.Core.Path.{◌≡◌, sym, ◌∙◌, ap, subst}
use mathlib.Core.Bool.{Bool}
use lib.ListN.{length, take}
use lib.Seq.{take_all}
use Rattle.theory.specs.Tests.{Says, holds, fails}
use Rattle.theory.specs.Limits.{query_front}
use Rattle.theory.specs.Query.{Bytes, read_query, query_refusal}
use Rattle.theory.specs.Table.{Answer}
use Rattle.theory.specs.Listing.{refused_line}
use Rattle.theory.proofs.Reflect.{says_ltb}
use Rattle.theory.proofs.TwoRows.{query_answered}
use Rattle.query_check.proofs.FrontLaws.{query_front_lem, long_unpassed}
use Rattle.text.specs.Text.{Printed}
use Rattle.order_counterexample.specs.Evidence.{Told, ToldOf, EvidencePrinted}
use Rattle.order_counterexample.proofs.EvidenceLaws.{refusal_text, told_refused}

module _ {before after : Bytes} {count : ℕ} where
  -- what is answered to the first 256 bytes of a longer query is its refusal
  told_front : (whole : Bytes) → query_front < length whole → {p s o : ℕ} → Told (take query_front whole) p s o before after count → Told whole p s o before after count
  told_front whole h {p} {s} {o} t =
      let same = query_front_lem whole (omega arith) in
      let refused = long_unpassed whole (omega arith) in
      let kept : t.answer.refusal ≡ query_refusal whole = ap (λ (a : Answer). a.refusal) (query_answered (take query_front whole) p s o t.shows (λ e. refused (sym same ∙ e))) ∙ same in
      let line = refusal_text (read_query (take query_front whole)).columns t.answer t.rows (λ e. refused (sym kept ∙ e)) ∙ ap refused_line kept in
      told_refused whole p s o t.room t.enough refused (subst (λ l. Printed before l after count) line t.text)

  pub told_longer : (whole : Bytes) {p s o : ℕ} → Told (take query_front whole) p s o before after count → Told whole p s o before after count
  told_longer whole {p} {s} {o} t = go (says_ltb query_front (length whole))
    where
      go : {b : Bool} → Says (query_front < length whole) b → Told whole p s o before after count
      go (holds h) = told_front whole h t
      go (fails h) = subst (λ b. Told b p s o before after count) (take_all query_front whole (omega arith)) t

  pub tells : {query : Bytes} {produced sets order : ℕ} → count ≤ length before → ToldOf query produced sets order before after count → EvidencePrinted query produced sets order before after count
  tells {produced} {sets} {order} h t =
      record {
        fits = h;
        own = t;
        longer = λ whole e p s o ep es eo. told_longer whole (subst (λ b. Told b p s o before after count) (sym e) (t p s o ep es eo));
      }

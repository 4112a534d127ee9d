-- What is known of a table that the builder wrote, and where the listing is that of the table or of a refusal.
use Prim.Native.Nat.{ℕ, ◌≤◌}
use native.Mathlib.Omega.{arith}
use mathlib.Core.Path.{◌≡◌, refl, sym, ◌∙◌, ap, ap₂, subst}
use mathlib.Core.Logic.{◌≢◌}
use mathlib.Core.List.{◌++◌}
use lib.ListN.{length, take, drop, replicate, length-append}
use lib.Seq.{take_at}
use borrow.Author.Tests.{ne_eqb}
use Rattle.theory.specs.Limits.{scratch_length, longest_table}
use Rattle.theory.specs.Refusals.{passed}
use Rattle.theory.specs.Query.{Bytes, query_refusal}
use Rattle.theory.specs.Table.{Answer, grant, refuse}
use Rattle.theory.specs.Build.{Outcome, refused, built, outcome, written, output_after}
use Rattle.theory.specs.Listing.{refused_line, table_listing, listed, listing}
use Rattle.theory.proofs.DemandThree.{built_facts}
use Rattle.theory.proofs.PlacedLaws.{placed_length}
use Rattle.numbers.specs.declared.refusals.Refusal.{Refusal}
use Rattle.numbers.specs.Refusals.{number_of}
use Rattle.numbers.proofs.RefusalLaws.{refused as number_refused}
use Rattle.table.specs.Form.{Formed}
use Rattle.text.specs.Text.{Printed}
use Rattle.query_listing.specs.Listed.{Listing}
use Rattle.builder.specs.Built.{built_answer}
use Rattle.builder.proofs.AnswerLaws.{granted, built_formed}

-- the line of a refusal
refused_line_lem : (e : Refusal) (o : Outcome) → refuse (number_of e) ≡ built_answer o → refused_line (number_of e) ≡ listed o
refused_line_lem e (refused n) a = ap (λ (x : Answer). refused_line x.refusal) a
refused_line_lem e (built t) a = absurd (number_refused e (ap (λ (x : Answer). x.refusal) a))

-- the listing of a query that checks 1 to 6 refuse is its refusal's line
pub unpassed_listing : (query : Bytes) → query_refusal query ≢ passed → refused_line (query_refusal query) ≡ listing query
unfolding listing outcome
unpassed_listing query h = rw (ne_eqb (query_refusal query) passed h, outcome)

-- A table as the listing takes it, the first n bytes: in its form, and its listing is the query's.
pub record Shown (query after : Bytes) (n : ℕ) : Type 0 where
  pub form : Formed (take n after)
  pub fits : n ≤ length after
  pub same : table_listing (take n after) ≡ listing query

-- A build with room for every table.
abbrev room : Bytes
room = replicate longest_table 0

module _ (query work : Bytes) (w : length work ≡ scratch_length) where
  -- with a refusal, the listing is its line ..
  pub refused_listing : (e : Refusal) → refuse (number_of e) ≡ built_answer (outcome query (length work) (length room)) → refused_line (number_of e) ≡ listing query
  unfolding listing
  refused_listing e a = refused_line_lem e (outcome query scratch_length longest_table) (rw w at a)

  -- .. and with none it is that of the table
  pub table_listing_lem : {n : ℕ} {after : Bytes} → grant n ≡ built_answer (outcome query (length work) (length room)) → after ≡ output_after query (length work) room → Shown query after n
  unfolding listing output_after
  table_listing_lem {n} {after} a f = go (granted query scratch_length longest_table (sym (ap (λ (x : Answer). x.refusal) answer)))
    where
      answer : grant n ≡ built_answer (outcome query scratch_length longest_table)
      answer = rw w at a

      go : (t : Bytes) × (outcome query scratch_length longest_table ≡ built t) → Shown query after n
      go (t, e) =
          let long : n ≡ length t = ap (λ (x : Answer). x.value) (answer ∙ ap built_answer e) in
          let y : after ≡ t ++ drop (length t) room = (rw w at f) ∙ ap (λ p. written p room) e in
          let d : take n after ≡ t = ap₂ take long y ∙ take_at t (drop (length t) room) (length t) refl in
          record {
            form = subst Formed (sym d) (built_formed (built_facts query scratch_length longest_table t e));
            fits = rw (y, length-append) (omega (arith, long));
            same = ap table_listing d ∙ ap listed (sym e);
          }

-- What was printed is the listing, and the memory keeps its length.
pub printed : {k l before after : Bytes} {n m : ℕ} → k ≡ l → length before ≡ m → Printed before k after n → Listing l after n × (length after ≡ m)
printed {k} {before = before} {after = after} {m = m} e h p =
    let s : length after ≡ length before = ap length p.text ∙ placed_length 0 k before (omega arith) in
    (record { first = p.first ∙ e; counted = p.counted ∙ ap length e; fits = omega arith }, s ∙ h)

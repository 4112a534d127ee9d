-- The numbers that stand for the answers of a build, of a continuing call and of a listing: their values are far below 65,536.
use Prim.Native.Nat.{ℕ, ◌≤◌, ◌<◌}
use native.Mathlib.Omega.{arith}
use mathlib.Core.Bool.{Bool, true, false}
use lib.Dec.{eqb}
use lib.ListN.{length}
use Rattle.theory.specs.Tests.{pick}
use Rattle.theory.specs.Refusals.{passed}
use mathlib.Core.Path.{◌≡◌, refl, sym, ◌∙◌, ap, subst}
use native.Mathlib.Nat.{mul-le-mul}
use borrow.Author.Tests.{ltb-false}
use Rattle.theory.specs.Limits.{max_states, longest_table}
use Rattle.theory.specs.Construction.{sizes_of_query}
use Rattle.theory.specs.Query.{Bytes, read_query}
use Rattle.theory.specs.Table.{Table, Sized, write_table, Answer}
use Rattle.theory.specs.Scratch.{rows_table}
use Rattle.theory.specs.Steps.{Continued, pair_settled, as_build, merged_table, continued, Continues}
use Rattle.theory.specs.Steps as steps
use Rattle.theory.proofs.Reflect.{false_says}
use Rattle.theory.proofs.TableLaws.{written_length}
use Rattle.theory.proofs.MergedTables.{rows_many, rows_sized}
use Rattle.theory.proofs.StepLaws.{continue_means}
use Rattle.steps.specs.Continued.{continued_answer}
use Rattle.theory.specs.Build.{Outcome, refused, built, outcome}
use Rattle.theory.proofs.DemandThree.{built_facts, query_limited}
use Rattle.table.proofs.FormLaws.{formed_short}
use Rattle.builder.specs.Built.{built_answer}
use Rattle.builder.proofs.AnswerLaws.{built_formed}
use Rattle.theory.specs.Listing.{listing}
use Rattle.query_listing.specs.Listed as listed
use Rattle.query_listing.proofs.LengthLaws.{listing_short}
use Rattle.answer_codes.specs.Codes.{answer_code}
use Rattle.order_tables.specs.Codes.{build_code, continue_code}

-- no table is longer than 1,292 bytes
table_short : (t : Table) → Sized t → length (write_table t) ≤ longest_table
table_short t sized =
    let rows = mul-le-mul {n₂ = max_states} sized.few_states sized.few_sets in
    omega (arith, written_length t sized, rows, sized.few_states, sized.few_produced)

-- a build's answer
build_code_lem : (o : Outcome) → answer_code (built_answer o) ≡ build_code o
build_code_lem (refused n) = refl
build_code_lem (built t) = omega arith

module _ (query : Bytes) (scratch output : ℕ) {r : Answer} (a : r ≡ built_answer (outcome query scratch output)) where
  pub build_short : r.value < 65536
  build_short = subst (λ b. b.value < 65536) (sym a) (go (outcome query scratch output) refl)
    where
      go : (o : Outcome) → outcome query scratch output ≡ o → (built_answer o).value < 65536
      go (refused n) e = omega arith
      go (built t) e = omega (arith, formed_short (built_formed (built_facts query scratch output t e)))

  pub build_number : {code : ℕ} → code ≡ answer_code r → code ≡ build_code (outcome query scratch output)
  build_number e = e ∙ ap answer_code a ∙ build_code_lem (outcome query scratch output)

-- a continuing call's answer
merged_short : (query scratch output : Bytes) {o : Continued} {s w : Bytes} → Continues query scratch output o s w → (continued_answer o).value < 65536
merged_short query scratch output (steps.Continues.query_refused _) = omega arith
merged_short query scratch output (steps.Continues.scratch_short _ _) = omega arith
merged_short query scratch output (steps.Continues.no_such_count _ _) = omega arith
merged_short query scratch output (steps.Continues.settles _ _ _ _) = omega arith
merged_short query scratch output (steps.Continues.too_many_rows _ _ _) = omega arith
merged_short query scratch output (steps.Continues.output_short _ _ _ _) = omega arith
merged_short query scratch output (steps.Continues.merges lent _ m _) =
    let z = sizes_of_query (read_query query) in
    let few = ltb-false max_states (rows_table z scratch).state_count (false_says (rows_many z scratch) m) in
    let sized = rows_sized z scratch (query_limited query lent.checked) few in
    omega (arith, table_short (merged_table (read_query query) scratch) sized)

continue_code_lem : (o : Continued) → answer_code (continued_answer o) ≡ continue_code o
continue_code_lem pair_settled = omega arith
continue_code_lem (as_build o) = build_code_lem o

module _ (query scratch output : Bytes) {r : Answer} (a : r ≡ continued_answer (continued query scratch (length output))) where
  pub continue_short : r.value < 65536
  continue_short = subst (λ b. b.value < 65536) (sym a) (merged_short query scratch output (continue_means query scratch output))

  pub continue_number : {code : ℕ} → code ≡ answer_code r → code ≡ continue_code (continued query scratch (length output))
  continue_number e = e ∙ ap answer_code a ∙ continue_code_lem (continued query scratch (length output))

-- a listing's answer
pub list_short : (query : Bytes) (refusal : ℕ) → (listed.listed_answer (listing query) refusal).value < 65536
list_short query refusal = go (eqb refusal passed)
  where
    go : (b : Bool) → pick b (length (listing query)) 0 < 65536
    go true = omega (arith, listing_short query)
    go false = omega arith

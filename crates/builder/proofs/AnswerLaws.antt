-- What a caller of the builder knows of the table, from an answer without refusal.
use Prim.Native.Nat.{ℕ, ◌≤◌}
use native.Mathlib.Omega.{arith}
use mathlib.Core.Path.{◌≡◌, refl}
use lib.ListN.{length}
use Rattle.theory.specs.Limits.{longest_table}
use Rattle.theory.specs.Refusals.{passed}
use Rattle.theory.specs.Query.{Bytes, read_query, query_refusal}
use Rattle.theory.specs.Table.{Table, write_table}
use Rattle.theory.specs.Build.{Constructs, table, Outcome, built, outcome, OutcomeMeans, query_refused, scratch_short, not_constructed, output_short, table_built}
use Rattle.theory.proofs.BuildLaws.{outcome_means}
use Rattle.theory.proofs.ConstructionLaws.{made}
use Rattle.theory.proofs.DemandThree.{Built, built_faithful}
use Rattle.table.specs.Form.{Formed}
use Rattle.table.proofs.FormLaws.{formed, formed_short}
use Rattle.builder.specs.Built.{built_answer}

answered : {query : Bytes} {scratch output : ℕ} {o : Outcome} → OutcomeMeans query scratch output o → (built_answer o).refusal ≡ passed → (t : Bytes) × (o ≡ built t)
answered (query_refused h) e = absurd (h e)
answered (scratch_short _ _) e = absurd (omega arith)
answered (not_constructed _ _ _) e = absurd (omega arith)
answered (output_short _ _ _ _) e = absurd (omega arith)
answered (table_built _ _ _ _) e = (_, refl)

-- a refusal's number is never 0: where the answer has none, a table was built ..
pub granted : (query : Bytes) (scratch output : ℕ) → (built_answer (outcome query scratch output)).refusal ≡ passed → (t : Bytes) × (outcome query scratch output ≡ built t)
granted query scratch output = answered (outcome_means query scratch output)

-- .. and it has a table's form
pub built_formed : {query t : Bytes} → Built query t → Formed t
built_formed {t} b = formed t (built_faithful b).form

-- no table is longer than 1,292 bytes: a build with so much room is not refused for it
pub table_room : (query : Bytes) {t : Table} → query_refusal query ≡ passed → Constructs (read_query query) (table t) → length (write_table t) ≤ longest_table
table_room query {t} c d =
    let b : Built query (write_table t) = record { checked = c; contents = t; made = made (read_query query) d; bytes_are = refl } in
    formed_short (built_formed b)

-- The first 256 bytes of a query and the first 1,293 of a table decide the outcome of a trial.
use Prim.Native.Nat.{ℕ, ◌<◌}
use native.Mathlib.Omega.{arith}
use mathlib.Core.Path.{◌≡◌, refl, sym, ◌∙◌, ap}
use mathlib.Core.Bool.{Bool}
use mathlib.Core.Logic.{◌≢◌}
use lib.Dec.{ltb}
use lib.ListN.{length, take}
use lib.Seq.{take_all}
use borrow.Author.Tests.{ne_eqb}
use Rattle.theory.specs.Limits.{scratch_length, query_front, table_front}
use Rattle.theory.specs.Tests.{pick, Says, holds, fails}
use Rattle.theory.specs.Orders.{Query}
use Rattle.theory.specs.Refusals.{passed, space_refused, first_refusal}
use Rattle.theory.specs.Query.{Bytes, read_query, query_refusal}
use Rattle.theory.specs.Table.{Table}
use Rattle.theory.specs.Build.{Constructed, too_many, table, construct}
use Rattle.theory.specs.Verification.{supplied_refusal, verified_with, verify_refusal}
use Rattle.theory.proofs.Reflect.{says_ltb}
use Rattle.query_check.proofs.FrontLaws.{query_front_lem, long_unpassed}
use Rattle.table.proofs.FrontLaws.{table_front_lem, table_unpassed}

-- a first check that refuses hides those behind it
refused_alike : {a b : ℕ} (x y : ℕ) → a ≡ b → b ≢ passed → first_refusal a x ≡ first_refusal b y
refused_alike {a} {b} x y e h = rw (ne_eqb a passed (λ k. h (sym e ∙ k)), ne_eqb b passed h) e

-- Of every table, also the shorter ones, the first 1,293 bytes have its outcome ..
supplied_front : (q : Query) (ours : Table) (t : Bytes) → supplied_refusal q ours (take table_front t) ≡ supplied_refusal q ours t
unfolding supplied_refusal
supplied_front q ours t = go (says_ltb table_front (length t))
  where
    go : {b : Bool} → Says (table_front < length t) b → supplied_refusal q ours (take table_front t) ≡ supplied_refusal q ours t
    go (fails h) = ap (supplied_refusal q ours) (take_all table_front t (omega arith))
    go (holds h) = refused_alike _ _ (table_front_lem t) (table_unpassed t h)

verified_front : (q : Query) (c : Constructed) (t : Bytes) → verified_with q c (take table_front t) ≡ verified_with q c t
verified_front q too_many t = refl
verified_front q (table ours) t = supplied_front q ours t

tables_front : (query t : Bytes) (scratch : ℕ) → verify_refusal query (take table_front t) scratch ≡ verify_refusal query t scratch
unfolding verify_refusal
tables_front query t scratch = ap (λ n. first_refusal (query_refusal query) (pick (ltb scratch scratch_length) space_refused n)) (verified_front (read_query query) (construct (read_query query)) t)

-- .. and of every query the first 256.
queries_front : (query t : Bytes) (scratch : ℕ) → verify_refusal (take query_front query) t scratch ≡ verify_refusal query t scratch
unfolding verify_refusal
queries_front query t scratch = go (says_ltb query_front (length query))
  where
    go : {b : Bool} → Says (query_front < length query) b → verify_refusal (take query_front query) t scratch ≡ verify_refusal query t scratch
    go (fails h) = ap (λ b. verify_refusal b t scratch) (take_all query_front query (omega arith))
    go (holds h) = refused_alike _ _ (query_front_lem query (omega arith)) (long_unpassed query (omega arith))

-- So the first bytes of both have the outcome of the two.
pub verify_front : (query t : Bytes) (scratch : ℕ) → verify_refusal (take query_front query) (take table_front t) scratch ≡ verify_refusal query t scratch
verify_front query t scratch = queries_front query (take table_front t) scratch ∙ tables_front query t scratch

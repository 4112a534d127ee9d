-- What constructing leaves: refusal 8, or the table of the words that lie in the scratch.
use Prim.Native.Nat.{ℕ, ◌<◌, ◌≤◌}
use native.Mathlib.Omega.{arith}
use mathlib.Core.Path.{◌≡◌, refl, sym, ◌∙◌, ap, subst}
use mathlib.Core.Bool.{Bool, true, false}
use Rattle.std.specs.Prelude.{Option, Some, None, Ok, Err, ok_or}
use Rattle.numbers.specs.declared.refusals.Refusal.TheVariants.{States}
use borrow.Author.Tests.{lt-ltb, le-ltb}
use Rattle.theory.specs.Tests.{Says, holds, fails}
use Rattle.theory.specs.Limits.{max_states}
use Rattle.theory.specs.Refusals.{passed}
use Rattle.theory.specs.Orders.{Query}
use Rattle.theory.specs.Construction.{sizes_of_query}
use Rattle.theory.specs.Query.{Bytes, produced_count, tested_count, set_count, read_query}
use Rattle.theory.specs.Table.{Table, grant}
use Rattle.theory.specs.Scratch.{Stored}
use Rattle.theory.specs.Build.{too_many, table, limited, construct}
use Rattle.theory.specs.Build as theory
use Rattle.theory.specs.Steps.{merged_table}
use Rattle.theory.proofs.MergedTables.{merged_query}
use Rattle.theory.proofs.Reflect.{says_ltb}
use Rattle.theory.proofs.QueryLaws.{produced_count_lem, tested_count_lem, set_count_lem}
use Rattle.choices.specs.Words.{WordsAre}
use Rattle.table_rows.specs.Rows.{RowsFound}
use Rattle.query_sizes.specs.declared.Sizes as given
use Rattle.table_rows.specs.Walk.{sizes_of}
use Rattle.construction.specs.Constructed.{constructed_answer, Leaves}

-- the table that was constructed, or another
contents : Table → theory.Constructed → Table
contents other too_many = other
contents other (table t) = t

-- a table past the limit and one within it
limited_many : (t : Table) → max_states < t.state_count → limited t ≡ too_many
limited_many t h = ap (λ b. elim b as (λ (c : Bool). theory.Constructed) [ true ↦ too_many | false ↦ table t ]) (lt-ltb max_states t.state_count h)

pub limited_few : (t : Table) → t.state_count ≤ max_states → limited t ≡ table t
limited_few t h = ap (λ b. elim b as (λ (c : Bool). theory.Constructed) [ true ↦ too_many | false ↦ table t ]) (le-ltb max_states t.state_count h)

-- the rows that are numbered from the words are those of their table
module _ (b work : Bytes) where
  abbrev q : Query
  q = read_query b

  abbrev merged : Table
  merged = merged_table q work

  found_left : {after : Bytes} (r : Option ℕ) → RowsFound (sizes_of_query q) work after r → Leaves (limited merged) after (ok_or r States)
  unfolding contents
  found_left {after} None many =
      subst (λ o. Leaves o after (Err States)) (sym (limited_many merged many))
      (record { answer = refl; stored = λ t e. let f : ⊥ = cc in absurd f })
  found_left {after} (Some r) found =
      subst (λ o. Leaves o after (Ok r)) (sym (limited_few merged (omega (arith, found.few, found.all))))
      (record { answer = ap grant found.all; stored = λ t e. subst (λ k. Stored k after) (ap (contents merged) e) found.stored })

  pub rows_left : {after : Bytes} (r : Option ℕ) (sizes : given.Sizes) → sizes.produced ≡ produced_count b → sizes.tested ≡ tested_count b → sizes.sets ≡ set_count b →
      RowsFound (sizes_of sizes) work after r → Leaves (limited merged) after (ok_or r States)
  rows_left {after} r sizes ep et es found =
      let same : sizes_of sizes ≡ sizes_of_query q = (λ i. record {
        produced = (ep ∙ sym (produced_count_lem b)) i;
        tested = (et ∙ sym (tested_count_lem b)) i;
        sets = (es ∙ sym (set_count_lem b)) i;
      }) in
      found_left r (subst (λ z. RowsFound z work after r) same found)

-- where the answer has no refusal, the table is within the limit
pub granted_table : (t : Table) → (constructed_answer (limited t)).refusal ≡ passed → t.state_count ≤ max_states
granted_table t e = go (says_ltb max_states t.state_count)
  where
    go : {past : Bool} → Says (max_states < t.state_count) past → t.state_count ≤ max_states
    go (holds h) = let f : ⊥ = omega (arith, e, ap (λ o. (constructed_answer o).refusal) (limited_many t h)) in absurd f
    go (fails h) = omega arith

-- words of the query's pairs give its table
pub constructed_words : (b work : Bytes) → WordsAre b work → limited (merged_table (read_query b) work) ≡ construct (read_query b)
unfolding construct
constructed_words b work words = ap limited (merged_query (read_query b) work words)

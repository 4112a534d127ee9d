-- The constructed table goes from the scratch into the output, or that is shorter.
use Prim.Native.Nat.{ℕ, ◌+◌, ◌*◌, ◌≤◌, ◌<◌}
use native.Mathlib.Omega.{arith}
use mathlib.Core.Path.{◌≡◌, refl, sym, ◌∙◌, ap, subst}
use mathlib.Core.List.{map, append_assoc, flatten}
use Rattle.std.specs.Prelude.{Result, Ok, Err}
use lib.ListN.{length}
use borrow.Author.Tests.{lt-ltb, le-ltb}
use Rattle.theory.specs.Limits.{table_sizes, held_width}
use Rattle.theory.specs.Machine.{Sizes}
use Rattle.theory.specs.Construction.{sizes_of_query}
use Rattle.theory.specs.Refusals.{states_refused, space_refused}
use Rattle.theory.specs.Query.{Bytes, produced_count, tested_count, set_count, read_query}
use Rattle.theory.specs.Table.{Table, Answer, grant, refuse, held_bytes, write_table}
use Rattle.theory.specs.Build as theory
use Rattle.theory.specs.Build.{too_many, table, limited, Outcome, refused, built, delivered}
use Rattle.theory.specs.Steps.{merged_table}
use Rattle.theory.proofs.QueryLaws.{produced_count_lem, tested_count_lem, set_count_lem}
use Rattle.theory.proofs.TableLaws.{written_length}
use Rattle.theory.proofs.MergedTables.{rows_sized, rows_sizes}
use Rattle.theory.proofs.MachineTable.{Limited}
use Rattle.theory.specs.Placed.{placed}
use Rattle.theory.proofs.PlacedLaws.{placed_first}
use Rattle.numbers.specs.declared.refusals.Refusal.{Refusal}
use Rattle.numbers.specs.declared.refusals.Refusal.TheVariants.{Space}
use Rattle.numbers.specs.Refusals.{number_of, answer_in}
use Rattle.numbers.proofs.RefusalLaws.{refused as number_refused}
use Rattle.query_sizes.specs.declared.Sizes as given
use Rattle.construction.specs.Constructed as construction
use Rattle.construction.specs.Constructed.{Leaves}
use Rattle.construction.proofs.LeavesLaws.{limited_few, granted_table}
use Rattle.builder.specs.Written.{stored_table}
use Rattle.builder.specs.Built.{Done, Holding}

-- an outcome that is known by another name
done_as : {o p : Outcome} {before after : Bytes} {r : Result ℕ Refusal} → o ≡ p → Done p before after r → Done o before after r
done_as {before} {after} {r} e d = subst (λ x. Done x before after r) (sym e) d

pub done_refused : {o : Outcome} {before : Bytes} {r : Result ℕ Refusal} (n : ℕ) → o ≡ refused n → answer_in r ≡ refuse n → Done o before before r
done_refused n e a = done_as e (record { answer = a; output = refl })

-- what is done with the table that was constructed
pub done_constructed : {k : theory.Constructed} {t : Table} → k ≡ table t → {before after : Bytes} {r : Result ℕ Refusal} → Done (delivered (table t) (length before)) before after r →
    Done (delivered k (length before)) before after r
done_constructed e {before} d = done_as (ap (λ o. delivered o (length before)) e) d

-- where constructing is refused, so is the build
pub merging_refused : {o : theory.Constructed} {work d : Bytes} (e : Refusal) (r : Result ℕ Refusal) → Leaves o work (Err e) → answer_in r ≡ refuse (number_of e) → Done (delivered o (length d)) d d r
merging_refused {o} {work} {d} e r l p = go o l.answer
  where
    go : (o : theory.Constructed) → answer_in (Err e) ≡ construction.constructed_answer o → Done (delivered o (length d)) d d r
    go too_many a = done_refused states_refused refl (p ∙ a)
    go (table t) a = absurd (number_refused e (ap (λ (x : Answer). x.refusal) a))

-- where it is not refused, the scratch has the table of the words that lay there
pub holding : (b before : Bytes) {work : Bytes} (n : ℕ) (sizes : given.Sizes) → 1 ≤ sizes.produced → Leaves (limited (merged_table (read_query b) before)) work (Ok n) →
    sizes.produced ≡ produced_count b → sizes.tested ≡ tested_count b → sizes.sets ≡ set_count b →
    (limited (merged_table (read_query b) before) ≡ table (merged_table (read_query b) before)) × Holding (merged_table (read_query b) before) work n sizes.produced sizes.tested sizes.sets
holding b before {work} n sizes some l ep ee es =
    let z = sizes_of_query (read_query b) in
    let t = merged_table (read_query b) before in
    let produced = produced_count_lem b ∙ sym ep in
    let tested = tested_count_lem b ∙ sym ee in
    let sets = set_count_lem b ∙ sym es in
    let within : Limited z = record {
      some_produced = omega (arith, some, produced);
      few_produced = omega (arith, sizes.few_produced, produced);
      few_tested = omega (arith, sizes.few_tested, tested);
      few_sets = omega (arith, sizes.few_sets, sets);
    } in
    let few = granted_table t (ap (λ (x : Answer). x.refusal) (sym l.answer)) in
    let same = limited_few t few in
    let counts = rows_sizes z before in (
      same,
      record {
        sized = rows_sized z before within few;
        stored = l.stored t same;
        states = sym (ap (λ (x : Answer). x.value) (l.answer ∙ ap construction.constructed_answer same));
        produced = ap (λ (k : Sizes). k.produced) counts ∙ produced;
        tested = ap (λ (k : Sizes). k.tested) counts ∙ tested;
        sets = ap (λ (k : Sizes). k.sets) counts ∙ sets;
      },
    )

module _ {t : Table} {work : Bytes} {q p e s : ℕ} (h : Holding t work q p e s) where
  -- the table's length from the sizes
  size_is : table_sizes + p + q * s + q * held_width ≡ length (write_table t)
  size_is =
      let eq = h.states in
      let ep = h.produced in
      let es = h.sets in
      let same : table_sizes + p + q * s + q * held_width ≡ table_sizes + t.produced_count + t.state_count * t.set_count + t.state_count * held_width = cc in
      same ∙ sym (written_length t h.sized)

  -- what lies in the scratch is the table
  table_in : stored_table work q p e s ≡ write_table t
  unfolding stored_table write_table
  table_in =
      let eq = h.states in
      let ep = h.produced in
      let ee = h.tested in
      let es = h.sets in
      let starts = h.stored.starts in
      let next = h.stored.successors in
      let words = h.stored.held in
      cc (append_assoc t.starts (flatten t.successors) (flatten (map held_bytes t.held)))

  pub deliver_short : (d : Bytes) → length d < table_sizes + p + q * s + q * held_width → Done (delivered (table t) (length d)) d d (Err Space)
  deliver_short d l = done_refused space_refused (rw (lt-ltb (length d) (length (write_table t)) (subst (λ m. length d < m) size_is l), delivered)) refl

  pub deliver_whole : (d after : Bytes) {size : ℕ} → size ≡ table_sizes + p + q * s + q * held_width → size ≤ length d → after ≡ placed 0 (stored_table work q p e s) d →
      Done (delivered (table t) (length d)) d after (Ok size)
  deliver_whole d after {size} same l w =
      let long : size ≡ length (write_table t) = same ∙ size_is in
      done_as {p = built (write_table t)} (rw (le-ltb (length d) (length (write_table t)) (subst (λ m. m ≤ length d) long l), delivered))
      (record { answer = ap grant long; output = w ∙ ap (λ x. placed 0 x d) table_in ∙ placed_first (write_table t) d })

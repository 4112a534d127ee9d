-- A table's form: the code's way to the refusal, and what is known of a table that passes.
use Prim.Native.Nat.{ℕ, zero, suc, ◌+◌, ◌*◌, ◌<◌, ◌≤◌}
use native.Mathlib.Nat.{mul-le-mul}
use native.Mathlib.Omega.{arith}
use mathlib.Core.Path.{◌≡◌, refl, ap}
use mathlib.Core.Bool.{Bool, true, false}
use mathlib.Core.Logic.{◌⊎◌, inl, inr}
use lib.Dec.{ltb}
use lib.ListN.{length, take, drop}
use lib.Seq.{get_or-take, get_or-drop}
use borrow.Author.Tests.{le-ltb, ltb-false, eqb-true, eq-eqb}
use Rattle.theory.specs.Tests.{pick}
use Rattle.theory.specs.Query.{Bytes, byte_at, outside}
use Rattle.theory.specs.Limits.{max_states, max_produced, max_tested, max_sets, table_sizes, longest_table}
use Rattle.theory.specs.Refusals.{passed, first_of}
use Rattle.theory.specs.Table.{states_in, produced_in, tested_in, sets_in, successors_base, start_in, table_length, form_refusal, state_refusal, starts_refusal, successors_refusal}
use Rattle.theory.proofs.Reflect.{says_false, says_or, says_ltb}
use Rattle.table.specs.Form.{Formed, table_sizes_refusal, run_refusal}

-- past the first check, the form is decided by the sizes and the number of bytes
pub form_sizes : (t : Bytes) → table_sizes ≤ length t → table_sizes_refusal (states_in t) (produced_in t) (tested_in t) (sets_in t) (length t) ≡ form_refusal t
unfolding form_refusal table_sizes_refusal
form_sizes t h = rw (le-ltb (length t) table_sizes h)

-- a check that comes before others passes, and so do they
past : (refused : Bool) (r rest : ℕ) → pick refused (suc r) rest ≡ passed → (refused ≡ false) × (rest ≡ passed)
past true r rest e = absurd (omega arith)
past false r rest e = (refl, e)

-- the last check passes
met : (test : Bool) (r : ℕ) → pick test passed (suc r) ≡ passed → test ≡ true
met true r e = refl
met false r e = absurd (omega arith)

-- a size that is not outside its limits
within : (low high n : ℕ) → outside low high n ≡ false → (low ≤ n) × (n ≤ high)
within low high n e =
    let f : ¬ ((n < low) ⊎ (high < n)) = says_false (says_or (says_ltb n low) (says_ltb high n)) e in
    let below : ¬ (n < low) = λ l. f (inl l) in
    let above : ¬ (high < n) = λ l. f (inr l) in
    (omega arith, omega arith)

-- what is known of a table whose form passes ..
pub formed : (t : Bytes) → form_refusal t ≡ passed → Formed t
unfolding form_refusal
formed t e =
    let (l, e₁) = past (ltb (length t) table_sizes) 0 _ e in
    let (q, e₂) = past (outside 1 max_states (states_in t)) 1 _ e₁ in
    let (p, e₃) = past (outside 1 max_produced (produced_in t)) 1 _ e₂ in
    let (n, e₄) = past (ltb max_tested (tested_in t)) 1 _ e₃ in
    let (s, e₅) = past (ltb max_sets (sets_in t)) 1 _ e₄ in
    record {
      long = ltb-false (length t) table_sizes l;
      some_states = (within 1 max_states (states_in t) q).0;
      few_states = (within 1 max_states (states_in t) q).1;
      some_produced = (within 1 max_produced (produced_in t) p).0;
      few_produced = (within 1 max_produced (produced_in t) p).1;
      few_tested = ltb-false max_tested (tested_in t) n;
      few_sets = ltb-false max_sets (sets_in t) s;
      total = eqb-true (length t) (table_length t) (met _ 0 e₅);
    }

-- .. and that it passes where that holds
pub form_passed : {t : Bytes} → Formed t → form_refusal t ≡ passed
unfolding form_refusal
form_passed {t} f =
    simp (le-ltb, f.long, f.some_states, f.few_states, f.some_produced, f.few_produced, f.few_tested, f.few_sets, eq-eqb (length t) (table_length t) f.total)

-- no table is longer than the longest
pub formed_short : {t : Bytes} → Formed t → length t ≤ longest_table
formed_short {t} f =
    omega (arith, f.total, f.few_produced, f.few_states, mul-le-mul f.few_states f.few_sets)

-- a run of state numbers is refused as they are refused where they stand
first_alike : (f g : ℕ → ℕ) (n : ℕ) → ((i : ℕ) → i < n → f i ≡ g i) → first_of f n ≡ first_of g n
first_alike f g zero h = refl
first_alike f g (suc n) h = rw (first_alike f g n (λ i l. h i (omega arith)), h n (omega arith))

run_alike : (t run : Bytes) (at : ℕ → ℕ) (n : ℕ) → length run ≡ n → ((i : ℕ) → i < n → byte_at run i ≡ at i) → run_refusal t run ≡ first_of (λ i. state_refusal t (at i)) n
unfolding run_refusal
run_alike t run at n e h = rw e (first_alike _ _ n (λ i l. ap (state_refusal t) (h i l)))

-- the starts and the successors are two such runs
pub starts_run : (t starts : Bytes) → length starts ≡ produced_in t → ((p : ℕ) → p < produced_in t → byte_at starts p ≡ start_in t p) → run_refusal t starts ≡ starts_refusal t
unfolding starts_refusal
starts_run t starts = run_alike t starts (start_in t) (produced_in t)

pub successors_run : (t successors : Bytes) → length successors ≡ states_in t * sets_in t → successors ≡ take (states_in t * sets_in t) (drop (successors_base t) t) → run_refusal t successors ≡ successors_refusal t
unfolding successors_refusal
successors_run t successors e h =
    run_alike t successors (λ i. byte_at t (successors_base t + i)) (states_in t * sets_in t) e
    (λ i l. rw (h, get_or-take {A = ℕ} (states_in t * sets_in t) _ i 0 l, get_or-drop (successors_base t) t i 0))

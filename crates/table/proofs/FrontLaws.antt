-- No table has more than 1,292 bytes: of a longer one, its first 1,293 bytes have the same refusal.
use Prim.Native.Nat.{ℕ, ◌+◌, ◌*◌, ◌≤◌, ◌<◌}
use native.Mathlib.Nat.{mul-le-mul}
use native.Mathlib.Omega.{arith}
use mathlib.Core.Path.{◌≡◌, sym, ◌∙◌, ap}
use mathlib.Core.Bool.{Bool}
use mathlib.Core.Logic.{◌≢◌}
use lib.Dec.{eqb, ltb}
use lib.ListN.{length, take, length-take}
use lib.Seq.{take_all, get_or-take}
use borrow.Author.Tests.{ltb-false, ne_eqb}
use Rattle.theory.specs.Limits.{max_states, max_produced, max_tested, max_sets, table_sizes, held_width, longest_table, table_front}
use Rattle.theory.specs.Tests.{pick, Says, holds, fails}
use Rattle.theory.specs.Refusals.{passed, length_refused, size_refused}
use Rattle.theory.specs.Query.{Bytes, outside}
use Rattle.theory.specs.Table.{states_in, produced_in, tested_in, sets_in, form_refusal, table_refusal}
use Rattle.theory.proofs.Reflect.{says_ltb}
use Rattle.theory.proofs.RefusalLaws.{pick_alike, neither, or_passed}
use Rattle.table.specs.Form.{table_sizes_refusal}
use Rattle.table.proofs.FormLaws.{form_sizes, formed, formed_short}

-- no sizes imply more bytes than the longest table has: all numbers of bytes from there on are refused alike
sizes_long : (q p t s x y : ℕ) → longest_table < x → longest_table < y → table_sizes_refusal q p t s x ≡ table_sizes_refusal q p t s y
unfolding table_sizes_refusal
sizes_long q p t s x y hx hy =
    pick_alike (outside 1 max_states q) size_refused
    (λ eq. pick_alike (outside 1 max_produced p) size_refused
    (λ ep. pick_alike (ltb max_tested t) size_refused
    (λ _. pick_alike (ltb max_sets s) size_refused
    (λ es. last (ltb-false max_states q (neither (ltb q 1) (ltb max_states q) eq).1) (ltb-false max_produced p (neither (ltb p 1) (ltb max_produced p) ep).1) (ltb-false max_sets s es)))))
  where
    implied : ℕ
    implied = table_sizes + p + q * s + q * held_width

    last : q ≤ max_states → p ≤ max_produced → s ≤ max_sets → pick (eqb x implied) passed length_refused ≡ pick (eqb y implied) passed length_refused
    last hq hp hs =
        let m = mul-le-mul hq hs in
        rw (ne_eqb x implied (λ e. omega arith), ne_eqb y implied (λ e. omega arith))

long_refused : (t : Bytes) → longest_table < length t → form_refusal t ≢ passed
long_refused t h e = let f = formed_short (formed t e) in omega arith

module _ (t : Bytes) (h : table_front < length t) where
  front_long : length (take table_front t) ≡ table_front
  front_long = rw length-take (omega arith)

  form_front : form_refusal (take table_front t) ≡ form_refusal t
  form_front =
      let f = front_long in
      sym (form_sizes (take table_front t) (omega arith))
      ∙ rw (get_or-take table_front t 0 0 (omega arith), get_or-take table_front t 1 0 (omega arith), get_or-take table_front t 2 0 (omega arith), get_or-take table_front t 3 0 (omega arith))
      (sizes_long (states_in t) (produced_in t) (tested_in t) (sets_in t) (length (take table_front t)) (length t) (omega arith) (omega arith))
      ∙ form_sizes t (omega arith)

  long_front : table_refusal (take table_front t) ≡ table_refusal t
  unfolding table_refusal
  long_front =
      let f = front_long in
      rw (ne_eqb (form_refusal (take table_front t)) passed (long_refused (take table_front t) (omega arith)), ne_eqb (form_refusal t) passed (long_refused t (omega arith))) form_front

  -- A table of more bytes than these is refused.
  pub table_unpassed : table_refusal t ≢ passed
  unfolding table_refusal
  table_unpassed e = long_refused t (omega arith) (or_passed (form_refusal t) _ e).0

-- Of every table, also the shorter ones, the first 1,293 bytes are refused as the whole is.
pub table_front_lem : (t : Bytes) → table_refusal (take table_front t) ≡ table_refusal t
table_front_lem t = go (says_ltb table_front (length t))
  where
    go : {b : Bool} → Says (table_front < length t) b → table_refusal (take table_front t) ≡ table_refusal t
    go (fails h) = ap table_refusal (take_all table_front t (omega arith))
    go (holds h) = long_front t h

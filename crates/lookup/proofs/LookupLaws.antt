-- The numbers of refusals, and what it shows that a move or a read of a state is refused.
use Prim.Native.Nat.{ℕ, zero, suc, ◌<◌, ◌≤◌}
use native.Mathlib.Omega.{arith}
use mathlib.Core.Path.{◌≡◌, refl, ◌∙◌}
use mathlib.Core.Bool.{Bool}
use mathlib.Core.Logic.{◌⊎◌, inl, inr, ⊎_elim}
use mathlib.Core.List.{[]}
use lib.Dec.{eqb}
use borrow.Author.Tests.{leb-true, ne_eqb}
use Rattle.theory.specs.Tests.{pick, Says, holds, fails}
use Rattle.theory.specs.Query.{Bytes}
use Rattle.theory.specs.Refusals.{passed, length_refused, size_refused, handle_refused}
use Rattle.theory.specs.Table as theory
use Rattle.theory.specs.Table.{Answer, refuse, form_refusal, read_refusal, states_in}
use Rattle.theory.proofs.Reflect.{says_eqb, says_ltb}
use Rattle.theory.proofs.RefusalLaws.{pick_either}
use Rattle.formed_lookup.specs.Answers.{ReadRefusal}
use Rattle.lookup.specs.Answers.{MoveRefusal}

form_few : (t : Bytes) → form_refusal t ≤ 2
unfolding form_refusal
form_few t = search (pick_either (λ n. n ≤ 2), leb-true) depth 12

one_or_two : (n : ℕ) → n ≤ 2 → (n ≡ passed → ⊥) → (n ≡ length_refused) ⊎ (n ≡ size_refused)
one_or_two zero h f = absurd (f refl)
one_or_two (suc zero) h f = inl refl
one_or_two (suc (suc zero)) h f = inr refl
one_or_two (suc (suc (suc n))) h f = absurd (omega arith)

-- the form is refused with 1 or 2
pub form_listed : (t : Bytes) → (form_refusal t ≡ passed → ⊥) → (form_refusal t ≡ length_refused) ⊎ (form_refusal t ≡ size_refused)
form_listed t f = one_or_two (form_refusal t) (form_few t) f

-- so that it refuses an ask and a word with a number of theirs
pub form_read : (t : Bytes) {n : ℕ} → n ≡ form_refusal t → (n ≡ passed → ⊥) → ReadRefusal n
form_read t e f = rw e (⊎_elim inl (λ k. inr (inl k)) (form_listed t (λ p. f (e ∙ p))))

-- a form that is refused refuses the lookup, whatever it would have answered
pub form_refuses : (t : Bytes) (a : Answer) {n : ℕ} → n ≡ form_refusal t → (n ≡ passed → ⊥) → refuse n ≡ theory.formed t a
form_refuses t a {n} e f = rw (← e, ne_eqb n passed f)

-- and so does a read that is refused
pub read_refuses : (t : Bytes) (state : ℕ) (a : Answer) {n : ℕ} → n ≡ read_refusal t state → (n ≡ passed → ⊥) → refuse n ≡ pick (eqb (read_refusal t state) passed) a (refuse (read_refusal t state))
read_refuses t state a {n} e f = rw (← e, ne_eqb n passed f)

-- and then there is no row
pub row_refuses : (t : Bytes) (state : ℕ) (part : Bytes) {n : ℕ} → n ≡ read_refusal t state → (n ≡ passed → ⊥) → [] ≡ pick (eqb (read_refusal t state) passed) part []
row_refuses t state part {n} e f = rw (← e, ne_eqb n passed f)

-- the number of a refusal is not 0, and it is a byte
pub refusal_some : (n : ℕ) → MoveRefusal n → (0 < n) × (n < 256)
refusal_some n (inl e) = omega arith
refusal_some n (inr (inl e)) = omega arith
refusal_some n (inr (inr (inl e))) = omega arith
refusal_some n (inr (inr (inr e))) = omega arith

-- where a read of a state is refused, its number is 1, 2 or 10
pub read_listed : (t : Bytes) (state : ℕ) {n : ℕ} → n ≡ read_refusal t state → (n ≡ passed → ⊥) → ReadRefusal n
unfolding read_refusal
read_listed t state {n} e f = go (says_eqb (form_refusal t) passed) (says_ltb state (states_in t)) e
  where
    go : {a b : Bool} → Says (form_refusal t ≡ passed) a → Says (state < states_in t) b → n ≡ pick a (pick b passed handle_refused) (form_refusal t) → ReadRefusal n
    go (holds p) (holds l) h = absurd (f h)
    go (holds p) (fails l) h = inr (inr h)
    go (fails p) s h = form_read t h f

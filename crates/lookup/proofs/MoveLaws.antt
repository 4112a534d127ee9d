-- The answers of an entry and a take: each is granted a state, which is a byte, or refused with one of their numbers.
use Prim.Native.Nat.{ℕ, ◌<◌}
use native.Mathlib.Omega.{arith}
use mathlib.Core.Path.{◌≡◌, refl, ap}
use mathlib.Core.Bool.{Bool}
use mathlib.Core.Logic.{◌⊎◌, inl, inr, ⊎_elim}
use lib.Dec.{ltb}
use Rattle.std.proofs.Common.{Result, Ok, Err}
use Rattle.theory.specs.Tests.{pick, Says, holds, fails}
use Rattle.theory.specs.Query.{Bytes}
use Rattle.theory.specs.Refusals.{passed, handle_refused, row_refused}
use Rattle.theory.specs.Table as theory
use Rattle.theory.specs.Table.{Answer, grant, refuse, grant_state, form_refusal, states_in, produced_in, sets_in, start_in, successor_in, enter, take_in}
use Rattle.theory.proofs.Reflect.{says_eqb, says_ltb}
use Rattle.theory.proofs.RefusalLaws.{pick_either}
use Rattle.table.specs.Form.{Formed}
use Rattle.table.proofs.FormLaws.{formed}
use Rattle.numbers.specs.declared.refusals.Refusal.{Refusal}
use Rattle.numbers.proofs.RefusalLaws as numbers
use Rattle.lookup.specs.declared.Mark.{Mark}
use Rattle.lookup.specs.Answers.{moved_answer, MoveRefusal, ListedMove}
use Rattle.lookup.proofs.LookupLaws.{form_listed}

-- a state, which is a byte, or a refusal with 1, 2, 10 or 11, whose value is 0
pub data Plain : Answer → Type 0 where
  granted : (n : ℕ) → n < 256 → Plain (grant n)
  refused : (n : ℕ) → MoveRefusal n → Plain (refuse n)

plain_handle : Plain (refuse handle_refused)
plain_handle = refused handle_refused (inr (inr (inl refl)))

plain_formed : (t : Bytes) {a : Answer} → (Formed t → Plain a) → Plain (theory.formed t a)
plain_formed t {a} p = go (says_eqb (form_refusal t) passed)
  where
    go : {b : Bool} → Says (form_refusal t ≡ passed) b → Plain (pick b a (refuse (form_refusal t)))
    go (holds e) = p (formed t e)
    go (fails f) = refused (form_refusal t) (⊎_elim inl (λ e. inr (inl e)) (form_listed t f))

plain_state : (t : Bytes) (state : ℕ) → Formed t → Plain (grant_state t state)
plain_state t state f = go (says_ltb state (states_in t))
  where
    go : {b : Bool} → Says (state < states_in t) b → Plain (pick b (grant state) (refuse row_refused))
    go (holds l) = granted state (omega (arith, l, f.few_states))
    go (fails n) = refused row_refused (inr (inr (inr refl)))

pub plain_enter : (t : Bytes) (p : ℕ) → Plain (enter t p)
unfolding enter
plain_enter t p = plain_formed t (λ f. pick_either Plain (ltb p (produced_in t)) (plain_state t (start_in t p) f) plain_handle)

pub plain_take : (t : Bytes) (state s : ℕ) → Plain (take_in t state s)
unfolding take_in
plain_take t state s =
    plain_formed t (λ f. pick_either Plain (ltb state (states_in t)) (pick_either Plain (ltb s (sets_in t)) (plain_state t (successor_in t state s) f) plain_handle) plain_handle)

-- so it is no refusal, or one of those
pub plain_listed : {a : Answer} → Plain a → (a.refusal ≡ passed) ⊎ MoveRefusal a.refusal
plain_listed (granted n b) = inl refl
plain_listed (refused n m) = inr m

-- and a move that answers so is refused with one of those
pub move_listed : (r : Result Mark Refusal) {a : Answer} → (a.refusal ≡ passed) ⊎ MoveRefusal a.refusal → moved_answer r ≡ a → ListedMove r
move_listed (Ok mark) p e = tt
move_listed (Err r) p e = let same = ap (λ (x : Answer). x.refusal) e in ⊎_elim (λ z. absurd (numbers.refused r (rw z at same))) (λ m. rw same m) p

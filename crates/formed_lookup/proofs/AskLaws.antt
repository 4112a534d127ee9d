-- An ask answers by the word that is handed back for its state; and in every table of bytes, damaged or not, it answers by bit i % 8 of the state's held byte i / 8.
use Prim.Native.Nat.{ℕ, ◌+◌, ◌*◌, ◌/◌, ◌%◌, ◌^◌, ◌<◌}
use native.Mathlib.Omega.{arith}
use mathlib.Core.Path.{◌≡◌, refl, ap}
use mathlib.Core.Bool.{Bool}
use lib.Dec.{ltb}
use lib.Seq.{get_or-take, get_or-drop}
use borrow.Author.Tests.{lt-ltb}
use Rattle.theory.specs.Tests.{pick, Says, holds, fails}
use Rattle.theory.specs.Limits.{held_width}
use Rattle.theory.specs.Query.{Bytes, byte_at}
use Rattle.theory.specs.Refusals.{passed, handle_refused}
use Rattle.theory.specs.Table as theory
use Rattle.theory.specs.Table.{Answer, grant, refuse, form_refusal, read_refusal, states_in, produced_in, tested_in, held_base, held_in, word_in, held_bit, ask, word}
use Rattle.theory.proofs.Reflect.{says_eqb, says_ltb}
use Rattle.theory.proofs.LookupLaw.{ask_granted_is}
use Rattle.theory.proofs.WordLaws.{word_bit}
use Rattle.table.specs.Form.{Formed}
use Rattle.table.proofs.FormLaws.{formed, form_passed}

-- an ask by the word w that was read for its state
pub ask_bit : {t : Bytes} {state i w : ℕ} (bit : ℕ) → Formed t → state < states_in t → i < produced_in t + tested_in t → w ≡ word_in t state → bit ≡ w / 2 ^ i % 2 → grant bit ≡ ask t state i
ask_bit bit f l h e same = rw (ask_granted_is _ (form_passed f) _ _ l h, ← e) (ap grant same)

module _ (t : Bytes) (state i : ℕ) where
  abbrev orders : ℕ
  orders = produced_in t + tested_in t

  -- the answer of an ask whose bit is x
  abbrev answered : ℕ → Answer
  answered x = theory.formed t (pick (ltb state (states_in t)) (pick (ltb i orders) (grant x) (refuse handle_refused)) (refuse handle_refused))

  -- what is asked for without refusal is in the table
  asked : (x : ℕ) → (answered x).refusal ≡ passed → Formed t × (state < states_in t) × (i < orders)
  asked x = go (says_eqb (form_refusal t) passed) (says_ltb state (states_in t)) (says_ltb i orders)
    where
      go : {a b c : Bool} → Says (form_refusal t ≡ passed) a → Says (state < states_in t) b → Says (i < orders) c →
          (pick a (pick b (pick c (grant x) (refuse handle_refused)) (refuse handle_refused)) (refuse (form_refusal t))).refusal ≡ passed → Formed t × (state < states_in t) × (i < orders)
      go (holds f) (holds l) (holds h) e = (formed t f, l, h)
      go (holds f) (holds l) (fails h) e = absurd (omega arith)
      go (holds f) (fails l) s e = absurd (omega arith)
      go (fails f) r s e = absurd (f e)

  -- An ask that is not refused: the state's word is handed back, and the answer, 1 for held and 0 for not held, is the order's bit in it.
  pub ask_word : (ask t state i).refusal ≡ passed → ((word t state).refusal ≡ passed) × ((ask t state i).value ≡ (word t state).value / 2 ^ i % 2)
  unfolding ask word read_refusal
  ask_word e =
      let (f, l, h) = asked (held_bit t state i) e in
      (rw (form_passed f, lt-ltb state (states_in t) l), rw (ask_granted_is t (form_passed f) state i l h, form_passed f, lt-ltb state (states_in t) l))

  -- The word's bit is the byte's: with either, every ask has the same answer and the same refusal.
  pub ask_bytes : ((k : ℕ) → byte_at t k < 256) → ask t state i ≡ answered (byte_at (held_in t state) (i / 8) / 2 ^ (i % 8) % 2)
  unfolding ask
  ask_bytes bytes = go (says_eqb (form_refusal t) passed) (says_ltb i orders)
    where
      low : byte_at (held_in t state) 0 < 256
      low = rw (get_or-take {A = ℕ} held_width _ 0 0 (omega arith), get_or-drop (held_base t + state * held_width) t 0 0) (bytes _)

      go : {a c : Bool} → Says (form_refusal t ≡ passed) a → Says (i < orders) c →
          pick a (pick (ltb state (states_in t)) (pick c (grant (held_bit t state i)) (refuse handle_refused)) (refuse handle_refused)) (refuse (form_refusal t))
          ≡ pick a (pick (ltb state (states_in t)) (pick c (grant (byte_at (held_in t state) (i / 8) / 2 ^ (i % 8) % 2)) (refuse handle_refused)) (refuse handle_refused)) (refuse (form_refusal t))
      go (holds p) (holds h) =
          let f = formed t p in
          ap (λ x. pick (ltb state (states_in t)) (grant x) (refuse handle_refused)) (word_bit t state low i (omega (arith, f.few_produced, f.few_tested)))
      go (holds p) (fails h) = refl
      go (fails p) s = refl

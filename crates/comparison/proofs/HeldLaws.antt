-- Two states hold the same orders exactly when their held words are the same; and joint states, some after others, whose states hold the same.
use Prim.Native.Nat.{ℕ, ◌+◌, ◌<◌, ◌≤◌}
use native.Mathlib.Omega.{arith}
use mathlib.Core.Path.{◌≡◌, sym, ◌∙◌, ap, subst}
use mathlib.Core.Bool.{Bool, true, false, not, true≢false, false≢true}
use lib.Dec.{eqb}
use Rattle.theory.specs.Tests.{Says, holds, fails}
use Rattle.theory.specs.Query.{Bytes}
use Rattle.theory.specs.Table.{states_in, produced_in, tested_in, word_in, held_orders}
use Rattle.theory.proofs.Reflect.{says_as, says_eqb, says_ltb}
use Rattle.theory.proofs.Faithfulness.{table_checked}
use Rattle.theory.proofs.WordLaws.{word_orders, orders_word}
use Rattle.bit_sets.specs.BitSets.{in_bits}
use Rattle.joint_states.specs.JointStates.{our_state, their_state, Comparable}
use Rattle.comparison.specs.Alike.{AlikeFrom}

module _ {a b : Bytes} (c : Comparable a b) {x y : ℕ} (h : x < states_in a) (k : y < states_in b) where
  same : produced_in b + tested_in b ≡ produced_in a + tested_in a
  same = omega (arith, c.produced, c.tested)

  pub words_say : {v w : ℕ} → v ≡ word_in a x → w ≡ word_in b y → Says (held_orders a x ≡ held_orders b y) (eqb v w)
  words_say {v} {w} ev ew =
      says_as (λ e. word_orders a b x y same (sym ev ∙ e ∙ ew))
      (λ o. ev ∙ orders_word a b x y same ((table_checked a c.ours).words x h) ((table_checked b c.theirs).words y k) o ∙ sym ew) (says_eqb v w)

module _ {a b m : Bytes} where
  -- no joint state that is in the set, one that is, and one that is not
  pub alike_skip : {from to : ℕ} → ((i : ℕ) → from ≤ i → i < to → in_bits m i ≡ false) → AlikeFrom a b m from to
  alike_skip none = record { alike = λ i f t k. absurd (false≢true (sym (none i f t) ∙ k)) }

  pub alike_none : {from to : ℕ} → to ≤ from → AlikeFrom a b m from to
  alike_none h = alike_skip (λ i f t. absurd (omega arith))

  pub alike_one : {i : ℕ} → in_bits m i ≡ true → {r : Bool} → Says (held_orders a (our_state i) ≡ held_orders b (their_state i)) r → Says (AlikeFrom a b m i (i + 1)) r
  alike_one {i} e =
      says_as (λ s. record { alike = λ j f t k. let one : i ≡ j = omega arith in subst (λ n. held_orders a (our_state n) ≡ held_orders b (their_state n)) one s })
      (λ all. all.alike i (omega arith) (omega arith) e)

  pub alike_over : {i : ℕ} → in_bits m i ≡ false → Says (AlikeFrom a b m i (i + 1)) true
  alike_over {i} e = holds (alike_skip (λ j f t. let one : j ≡ i = omega arith in ap (in_bits m) one ∙ e))

  -- some joint states after others: they are alike too, or not
  pub alike_more : {from mid to last : ℕ} → last ≡ to → AlikeFrom a b m from mid → {r : Bool} → Says (AlikeFrom a b m mid to) r → not r ≡ false → AlikeFrom a b m from last
  alike_more {from} {mid} {to} {last} e s (fails n) z = absurd (true≢false z)
  alike_more {from} {mid} {to} {last} e s (holds u) z = record { alike = λ i f t k. go i f t k (says_ltb i mid) }
    where
      go : (i : ℕ) → from ≤ i → i < last → in_bits m i ≡ true → {r : Bool} → Says (i < mid) r → held_orders a (our_state i) ≡ held_orders b (their_state i)
      go i f t k (holds l) = s.alike i f l k
      go i f t k (fails l) = u.alike i (omega arith) (omega arith) k

  pub unlike : {from mid to last : ℕ} → from ≤ mid → to ≤ last → {r : Bool} → Says (AlikeFrom a b m mid to) r → not r ≡ true → Says (AlikeFrom a b m from last) false
  unlike h l (holds u) z = absurd (false≢true z)
  unlike h l (fails n) z = fails (λ all. n (record { alike = λ i f t. all.alike i (omega arith) (omega arith) }))

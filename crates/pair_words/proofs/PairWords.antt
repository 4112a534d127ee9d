-- The places of the pairs' words: each lies before the rows, and no two share a byte. So a word that is written reads back, and writing elsewhere changes no word.
use Prim.Native.Nat.{ℕ, suc, ◌+◌, ◌*◌, ◌/◌, ◌%◌, ◌^◌, ◌≤◌, ◌<◌}
use native.Mathlib.Nat.{add-zero, mul-le-mul}
use native.Mathlib.Numerals.{add-one}
use native.Mathlib.Omega.{arith}
use mathlib.Core.Path.{◌≡◌, sym, ◌∙◌, ap, ap₂}
use mathlib.Core.Bool.{Bool}
use mathlib.Core.List.{[], ◌∷◌}
use lib.ListN.{length, take, set}
use lib.Seq.{get_or-take}
use lib.Pow.{pow_mono, high, low}
use Rattle.theory.specs.Tests.{Says, holds, fails}
use Rattle.theory.specs.Limits.{max_produced, max_sets}
use Rattle.theory.specs.Query.{Bytes, byte_at}
use Rattle.theory.specs.Scratch.{pair_at, word_at, held_part}
use Rattle.theory.proofs.Reflect.{says_ltb}
use Rattle.theory.specs.Placed.{placed}
use Rattle.theory.proofs.PlacedLaws.{placed_one, placed_store, byte_placed, byte_before, byte_behind}

-- there are at most 256 choices, and a pair's number is below 2,048
pub choice_few : (sets : ℕ) → sets ≤ max_sets → 2 ^ sets ≤ 256
choice_few sets h = pow_mono h

pub rows_few : (p n : ℕ) → p < max_produced → n ≤ 256 → p * n ≤ 1792
rows_few p n h few = mul-le-mul {n₂ = 7} (omega arith) few

pub pair_number : (sets p x : ℕ) → p < max_produced → sets ≤ max_sets → x < 2 ^ sets → p * 2 ^ sets + x < 2048
pair_number sets p x h few l =
    omega (arith, choice_few sets few, rows_few p (2 ^ sets) h (choice_few sets few))

-- two stores, one behind the other, are one write
pub placed_two : (at a b : ℕ) (d : Bytes) → at + 2 ≤ length d → set (set d at a) (at + 1) b ≡ placed at (a ∷ b ∷ []) d
placed_two at a b d h =
    ap (λ l. set l (at + 1) b) (placed_one at a d (omega arith)) ∙ placed_store at (at + 1) (a ∷ []) b d (omega arith) (omega arith)

module _ (sets p x : ℕ) (h : p < max_produced) (few : sets ≤ max_sets) (l : x < 2 ^ sets) where
  abbrev at : ℕ
  at = pair_at sets p x

  -- a pair's word lies before the rows
  pub pair_fits : pair_at sets p x + 2 ≤ held_part
  pair_fits = omega (arith, pair_number sets p x h few l)

  -- bytes that begin with the same words have the same word
  pub word_same : (work other : Bytes) → take held_part work ≡ take held_part other → word_at sets work p x ≡ word_at sets other p x
  word_same work other e = ap₂ (λ a b. a + 256 * b) (byte at (omega (arith, pair_fits))) (byte (suc at) (omega (arith, pair_fits)))
    where
      byte : (k : ℕ) → k < held_part → byte_at work k ≡ byte_at other k
      byte k b = sym (get_or-take held_part work k 0 b) ∙ ap (λ d. byte_at d k) e ∙ get_or-take held_part other k 0 b

  -- a word that is written reads back, ..
  pub word_written : (word : ℕ) (work : Bytes) → held_part ≤ length work → word_at sets (placed (pair_at sets p x) (word % 256 ∷ word / 256 ∷ []) work) p x ≡ word
  word_written word work long =
      let bytes = word % 256 ∷ word / 256 ∷ [] in
      let room : at ≤ length work = omega (arith, pair_fits) in
      ap₂ (λ a b. a + 256 * b) (ap (byte_at (placed at bytes work)) (sym (add-zero at)) ∙ byte_placed at 0 bytes work (omega arith) room)
      (ap (byte_at (placed at bytes work)) (sym (add-one at)) ∙ byte_placed at 1 bytes work (omega arith) room)
      ∙ omega arith

  -- .. and every other pair's word reads as before
  pub word_other : (q y : ℕ) → q < max_produced → y < 2 ^ sets → (q ≡ p → y ≡ x → ⊥) → (a b : ℕ) (work : Bytes) → held_part ≤ length work →
      word_at sets (placed (pair_at sets p x) (a ∷ b ∷ []) work) q y ≡ word_at sets work q y
  word_other q y hq ly n a b work long = go (says_ltb (q * 2 ^ sets + y) (p * 2 ^ sets + x))
    where
      room : at ≤ length work
      room = omega (arith, pair_fits)

      go : {c : Bool} → Says (q * 2 ^ sets + y < p * 2 ^ sets + x) c → word_at sets (placed at (a ∷ b ∷ []) work) q y ≡ word_at sets work q y
      go (holds less) =
          ap₂ (λ a c. a + 256 * c) (byte_before (pair_at sets q y) at (a ∷ b ∷ []) work (omega arith) room) (byte_before (suc (pair_at sets q y)) at (a ∷ b ∷ []) work (omega arith) room)
      go (fails more) =
          let apart : q * 2 ^ sets + y ≡ p * 2 ^ sets + x → ⊥ =
          λ e. n (sym (high q sets ly) ∙ ap (λ k. k / 2 ^ sets) e ∙ high p sets l) (sym (low q sets ly) ∙ ap (λ k. k % 2 ^ sets) e ∙ low p sets l) in
          ap₂ (λ a c. a + 256 * c) (byte_behind (pair_at sets q y) at (a ∷ b ∷ []) work (omega arith) room) (byte_behind (suc (pair_at sets q y)) at (a ∷ b ∷ []) work (omega arith) room)

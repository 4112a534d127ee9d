-- The open sets in their part of the scratch, found choice by choice from the largest down, and produced order by produced order.
use Prim.Native.Nat.{ℕ, suc, ◌+◌, ◌*◌, ◌^◌, ◌≤◌, ◌<◌}
use native.Mathlib.Nat.{suc-mul, mul-le-mul_right, eq-or-lt_of_le}
use native.Mathlib.Omega.{arith}
use mathlib.Core.Path.{◌≡◌, sym, ◌∙◌, ap, ap₂, subst}
use mathlib.Core.Bool.{false, true≢false}
use mathlib.Core.Logic.{⊎_elim}
use lib.Bits.{bit_or, or_lt}
use lib.ListN.{length, take, set}
use lib.Pow.{pow-lt}
use lib.Seq.{take-set-le, get_or-set_same, get_or-set_other}
use Rattle.theory.specs.Tests.{in_mask}
use Rattle.theory.specs.Limits.{max_produced, max_sets}
use Rattle.theory.specs.Query.{Bytes}
use Rattle.theory.specs.Scratch.{held_part, open_at, open_in, work_length}
use Rattle.theory.proofs.BitLaws.{or_more, raised_has}
use Rattle.pair_words.proofs.PairWords.{pair_number}
use Rattle.row_pairs.specs.RowPairs.{cut_word}
use Rattle.open_sets.specs.Open.{OpenSets, Opened, Gathered, next_open, NextOpened}
use Rattle.open_sets.proofs.OpenLaws.{gathered_same, gathered_other}

-- those of produced order p under the choices from m on lie in their places
abbrev pub OpenFrom : (bits sets : ℕ) → Bytes → Bytes → (p m : ℕ) → Type 0
OpenFrom bits sets words work p m = (k : ℕ) → m ≤ k → k < 2 ^ sets → OpenSets bits sets words p k (open_in sets work p k)

-- a choice with a set more is larger
larger : (m t : ℕ) → in_mask m t ≡ false → m < bit_or m (2 ^ t)
larger m t out = ⊎_elim (λ e. absurd (true≢false (sym (raised_has m t) ∙ ap (λ x. in_mask x t) (sym e) ∙ out))) (λ h. h) (eq-or-lt_of_le (or_more m (2 ^ t)))

pub next_opened : (bits sets p m : ℕ) (words work : Bytes) → take held_part work ≡ words → m < 2 ^ sets → OpenFrom bits sets words work p (m + 1) → NextOpened bits sets work p m
next_opened bits sets p m words work e h from t l out =
    subst (λ w. OpenSets bits sets w p (bit_or m (2 ^ t)) (open_in sets work p (bit_or m (2 ^ t)))) (sym e)
    (from (bit_or m (2 ^ t)) (omega (arith, larger m t out)) (or_lt sets m (2 ^ t) h (pow-lt l)))

-- set s, which is not in force, is looked at: x is what is open behind it, v the word with it and w the one without
module _ (bits sets p m s r : ℕ) (work : Bytes) {q k x v w : ℕ} (order : q ≡ p) (next : k ≡ bit_or m (2 ^ s)) (behind : x ≡ open_in sets work q k) (with_it : v ≡ cut_word bits sets (take held_part work) q k)
    (without : w ≡ cut_word bits sets (take held_part work) p m) (outside : in_mask m s ≡ false) (h : s < sets) (opened : NextOpened bits sets work p m)
    (g : Gathered bits sets (take held_part work) (next_open sets work p m) p m s r) where
  open_behind : x ≡ next_open sets work p m s
  open_behind = behind ∙ ap₂ (open_in sets work) order next

  word_with : v ≡ cut_word bits sets (take held_part work) p (bit_or m (2 ^ s))
  word_with = with_it ∙ ap₂ (cut_word bits sets (take held_part work)) order next

  pub looked_same : v ≡ w → Gathered bits sets (take held_part work) (next_open sets work p m) p m (s + 1) (bit_or r x)
  looked_same e =
      subst (λ y. Gathered bits sets (take held_part work) (next_open sets work p m) p m (s + 1) (bit_or r y)) (sym open_behind)
      (gathered_same bits sets (take held_part work) (next_open sets work p m) p m s r outside (opened s h outside).low (sym word_with ∙ e ∙ without) g)

  pub looked_other : (v ≡ w → ⊥) → Gathered bits sets (take held_part work) (next_open sets work p m) p m (s + 1) (bit_or (bit_or r x) (2 ^ s))
  looked_other n =
      subst (λ y. Gathered bits sets (take held_part work) (next_open sets work p m) p m (s + 1) (bit_or (bit_or r y) (2 ^ s))) (sym open_behind)
      (gathered_other bits sets (take held_part work) (next_open sets work p m) p m s r h outside (opened s h outside).low (λ e. n (word_with ∙ e ∙ sym without)) g)

-- where all choices are gone through, the produced order is
pub opened_more : (bits sets p : ℕ) (words work : Bytes) → Opened p bits sets words work → OpenFrom bits sets words work p 0 → Opened (p + 1) bits sets words work
opened_more bits sets p words work earlier own q m h l =
    ⊎_elim (λ e. subst (λ k. OpenSets bits sets words k m (open_in sets work k m)) (sym (same e)) (own m (omega arith) l)) (λ k. earlier q m (omega arith) l) (eq-or-lt_of_le h)
  where
    same : suc q ≡ p + 1 → q ≡ p
    same e = omega arith

-- those of one pair are written
module _ (sets p m v : ℕ) (work : Bytes) (order : p < max_produced) (few : sets ≤ max_sets) (low : m < 2 ^ sets) (long : work_length ≤ length work) where
  abbrev after : Bytes
  after = set work (open_at sets p m) v

  room : open_at sets p m < length work
  room = omega (arith, pair_number sets p m order few low)

  -- the words stay, ..
  pub written_words : take held_part (set work (open_at sets p m) v) ≡ take held_part work
  written_words = take-set-le held_part work (open_at sets p m) v (omega arith)

  -- .. and so do those of the produced orders before, and of the larger choices
  module _ (bits : ℕ) (words : Bytes) where
    pub written_earlier : Opened p bits sets words work → Opened p bits sets words (set work (open_at sets p m) v)
    written_earlier o q k h l =
        let before : suc q * 2 ^ sets ≤ p * 2 ^ sets = mul-le-mul_right (2 ^ sets) h in
        subst (OpenSets bits sets words q k) (sym (get_or-set_other work (open_at sets p m) (open_at sets q k) v 0 (omega (arith, before, suc-mul q (2 ^ sets))))) (o q k h l)

    pub written_from : OpenSets bits sets words p m v → OpenFrom bits sets words work p (m + 1) → OpenFrom bits sets words (set work (open_at sets p m) v) p m
    written_from own from k h l =
        ⊎_elim
        (λ e. subst (λ j. OpenSets bits sets words p j (open_in sets after p j)) e (subst (OpenSets bits sets words p m) (sym (get_or-set_same work (open_at sets p m) v 0 room)) own))
        (λ more. subst (OpenSets bits sets words p k) (sym (get_or-set_other work (open_at sets p m) (open_at sets p k) v 0 (omega arith))) (from k (omega arith) l)) (eq-or-lt_of_le h)

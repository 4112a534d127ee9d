-- The open sets of a pair: how those of its successors give them, that a state has one set of them, and the whole choice that gives the state too.
use Prim.Native.Nat.{ℕ, zero, suc, ◌+◌, ◌-◌, ◌^◌, ◌≤◌, ◌<◌}
use native.Mathlib.Nat.{zero-div, one-mul, pow-succ', not-suc-le-zero}
use native.Mathlib.Omega.{arith}
use mathlib.Core.Path.{◌≡◌, refl, sym, ◌∙◌, ap, subst}
use mathlib.Core.Bool.{Bool, true, false, not, true≢false, false≢true}
use mathlib.Core.Logic.{◌⊎◌, inl, inr, ⊎_elim}
use lib.Arith.{lt-one}
use lib.Bits.{bit_or, or_comm, or_zero_r, or_lt, or_shifted_r}
use lib.Pow.{pow_pos, pow-lt}
use Rattle.theory.specs.Tests.{Says, holds, fails, in_mask, Inside}
use Rattle.theory.specs.AnswerTree.{AnswerTree, take_tree}
use Rattle.theory.specs.Query.{Bytes}
use Rattle.theory.proofs.Reflect.{says_eqb, says_ltb}
use Rattle.theory.proofs.BitLaws.{or_keeps, or_adds, or_only, inside_or, inside_both, raised_in, raised_has, raised_only, bit_low, opposite}
use Rattle.theory.proofs.ChoiceNumbers.{or_assoc}
use Rattle.row_pairs.specs.RowPairs.{cut_word}
use Rattle.open_sets.specs.Open.{state_of, OpenSets, Adds, Gathered}
use Rattle.open_sets.proofs.StateLaws.{state_same, state_tells, state_next}

-- of three numbers together, whichever of two comes first
or_swap : (m x y : ℕ) → bit_or (bit_or m x) y ≡ bit_or (bit_or m y) x
or_swap m x y = or_assoc m x y ∙ ap (bit_or m) (or_comm x y) ∙ sym (or_assoc m y x)

module _ (bits sets : ℕ) (words : Bytes) where
  abbrev W : ℕ → ℕ → ℕ
  W p x = cut_word bits sets words p x

  abbrev T : ℕ → ℕ → AnswerTree
  T p m = state_of bits sets words p m

  -- two pairs that give one state hold the same, and give one state with a set more
  state_word : (p m q k : ℕ) → T p m ≡ T q k → W p m ≡ W q k
  state_word p m q k e = sym (ap (W p) (or_zero_r m)) ∙ state_tells bits sets words p m q k e 0 (pow_pos sets) ∙ ap (W q) (or_zero_r k)

  state_more : (p m q k s : ℕ) → s < sets → T p m ≡ T q k → T p (bit_or m (2 ^ s)) ≡ T q (bit_or k (2 ^ s))
  state_more p m q k s h e = state_next bits sets words p m s h ∙ ap (λ x. take_tree x s) e ∙ sym (state_next bits sets words q k s h)

  -- pairs that give one state have the same open sets
  open_within : (p m q k a b : ℕ) → OpenSets bits sets words p m a → OpenSets bits sets words q k b → T p m ≡ T q k → Inside a b
  open_within p m q k a b x y e c h = go (in_mask b c) refl
    where
      go : (v : Bool) → in_mask b c ≡ v → v ≡ true
      go true d = refl
      go false d = let l = bit_low sets a c x.low h in absurd (x.changes c l h (state_more p m q k c l e ∙ y.keeps c l d ∙ sym e))

  pub open_one : (p m q k a b : ℕ) → OpenSets bits sets words p m a → OpenSets bits sets words q k b → T p m ≡ T q k → a ≡ b
  open_one p m q k a b x y e = inside_both a b (open_within p m q k a b x y e) (open_within q k p m b a y x (sym e))

  -- further sets that are not open leave the state as it is
  open_stays : (p m a : ℕ) → OpenSets bits sets words p m a → (n x : ℕ) → n ≤ sets → x < 2 ^ n → ((c : ℕ) → in_mask x c ≡ true → in_mask a c ≡ false) → T p (bit_or m x) ≡ T p m
  open_stays p m a o zero x l h f = ap (T p) (ap (bit_or m) (lt-one h) ∙ or_zero_r m)
  open_stays p m a o (suc n) x l h f = go (says_ltb x (2 ^ n)) (λ y. open_stays p m a o n y (omega arith))
    where
      go : {b : Bool} → Says (x < 2 ^ n) b → ((y : ℕ) → y < 2 ^ n → ((c : ℕ) → in_mask y c ≡ true → in_mask a c ≡ false) → T p (bit_or m y) ≡ T p m) → T p (bit_or m x) ≡ T p m
      go (holds k) ih = ih x k f
      go (fails k) ih =
          let rest : x - 2 ^ n < 2 ^ n = omega (arith, pow-succ' 2 n) in
          let parts : bit_or (x - 2 ^ n) (2 ^ n) ≡ x = ap (bit_or (x - 2 ^ n)) (sym (one-mul (2 ^ n))) ∙ or_shifted_r 1 n (x - 2 ^ n) rest ∙ omega arith in
          ap (T p) (ap (bit_or m) (sym parts) ∙ sym (or_assoc m (x - 2 ^ n) (2 ^ n)))
          ∙ state_more p (bit_or m (x - 2 ^ n)) p m n l (ih (x - 2 ^ n) rest (λ c i. f c (subst (λ z. in_mask z c ≡ true) parts (or_keeps (x - 2 ^ n) (2 ^ n) c i))))
          ∙ o.keeps n l (f n (subst (λ z. in_mask z n ≡ true) parts (raised_has (x - 2 ^ n) n)))

  -- the whole choice gives the same state: it has m, and beside it only sets that are not open
  pub open_whole : (p m a : ℕ) → OpenSets bits sets words p m a → m < 2 ^ sets → (k : ℕ) → suc (k + a) ≡ 2 ^ sets → T p k ≡ T p m
  open_whole p m a o h k e =
      ap (T p) (sym (inside_or m k has) ∙ or_comm k m) ∙ open_stays p m a o sets k (omega arith) (omega arith) other
    where
      other : (c : ℕ) → in_mask k c ≡ true → in_mask a c ≡ false
      other c i = go (in_mask a c) (sym (opposite sets k a c (bit_low sets k c (omega arith) i) e) ∙ i)
        where
          go : (v : Bool) → not v ≡ true → v ≡ false
          go true d = absurd (false≢true d)
          go false d = refl

      has : Inside m k
      has c i = go (in_mask a c) refl (opposite sets k a c l e)
        where
          l : c < sets
          l = bit_low sets m c h i

          go : (v : Bool) → in_mask a c ≡ v → in_mask k c ≡ not v → in_mask k c ≡ true
          go true d s = absurd (o.changes c l d (ap (T p) (raised_in m c i)))
          go false d s = s

  module _ (o : ℕ → ℕ) (p m : ℕ) where
    pub gathered_none : Gathered bits sets words o p m 0 0
    gathered_none = record { low = pow_pos sets; only = λ s e. absurd (none s e); all = λ s t h a. absurd (not-suc-le-zero h) }
      where
        none : (s : ℕ) → in_mask 0 s ≡ true → ⊥
        none s = rw zero-div (λ e. false≢true e)

    -- one set more is looked at
    gathered_more : (i r r' : ℕ) → r' < 2 ^ sets → Inside r r' → ((s : ℕ) → in_mask r' s ≡ true → (in_mask r s ≡ true) ⊎ Adds bits sets words o p m i s) →
        ((s : ℕ) → Adds bits sets words o p m i s → in_mask r' s ≡ true) → Gathered bits sets words o p m i r → Gathered bits sets words o p m (i + 1) r'
    gathered_more i r r' l keep new adds g =
        record { low = l; only = λ s e. ⊎_elim (λ k. let a = g.only s k in (a.0, omega arith, a.2)) (λ a. (i, omega arith, a)) (new s e); all = λ s t h a. go s t h a (says_eqb t i) }
      where
        go : (s t : ℕ) → t < i + 1 → Adds bits sets words o p m t s → {b : Bool} → Says (t ≡ i) b → in_mask r' s ≡ true
        go s t h a (holds e) = adds s (subst (λ j. Adds bits sets words o p m j s) e a)
        go s t h a (fails n) = keep s (g.all s t (omega arith) a)

    -- a set of m adds nothing, ..
    pub gathered_skip : (i r : ℕ) → in_mask m i ≡ true → Gathered bits sets words o p m i r → Gathered bits sets words o p m (i + 1) r
    gathered_skip i r e g = gathered_more i r r g.low (λ c h. h) (λ s h. inl h) (λ s a. absurd (true≢false (sym e ∙ a.0))) g

    -- .. one with which the pair holds the same what is open behind it, ..
    pub gathered_same : (i r : ℕ) → in_mask m i ≡ false → o i < 2 ^ sets → W p (bit_or m (2 ^ i)) ≡ W p m → Gathered bits sets words o p m i r → Gathered bits sets words o p m (i + 1) (bit_or r (o i))
    gathered_same i r e l w g =
        gathered_more i r (bit_or r (o i)) (or_lt sets r (o i) g.low l) (or_keeps r (o i))
        (λ s k. ⊎_elim inl (λ j. inr (e, inr j)) (or_only r (o i) s k))
        (λ s a. ⊎_elim (λ d. absurd (d.1 w)) (or_adds r (o i) s) a.1) g

    -- .. and one with which it holds something else itself beside
    pub gathered_other : (i r : ℕ) → i < sets → in_mask m i ≡ false → o i < 2 ^ sets → (W p (bit_or m (2 ^ i)) ≡ W p m → ⊥) → Gathered bits sets words o p m i r →
        Gathered bits sets words o p m (i + 1) (bit_or (bit_or r (o i)) (2 ^ i))
    gathered_other i r h e l w g =
        let both : ℕ = bit_or r (o i) in
        gathered_more i r (bit_or both (2 ^ i)) (or_lt sets both (2 ^ i) (or_lt sets r (o i) g.low l) (pow-lt h)) (λ c k. or_keeps both (2 ^ i) c (or_keeps r (o i) c k))
        (λ s k. ⊎_elim (λ d. inr (e, inl (d, w))) (λ j. ⊎_elim inl (λ u. inr (e, inr u)) (or_only r (o i) s j)) (raised_only both i s k))
        (λ s a. ⊎_elim (λ d. subst (λ c. in_mask (bit_or both (2 ^ i)) c ≡ true) (sym d.0) (raised_has both i)) (λ j. or_keeps both (2 ^ i) s (or_adds r (o i) s j)) a.1) g

    module _ (r : ℕ) (opened : (t : ℕ) → t < sets → in_mask m t ≡ false → OpenSets bits sets words p (bit_or m (2 ^ t)) (o t)) (g : Gathered bits sets words o p m sets r) (s : ℕ) (h : s < sets) where
      -- a set that is added changes the state: it changes what is held, or the state of a successor
      added_changes : (t : ℕ) → t < sets → Adds bits sets words o p m t s → T p (bit_or m (2 ^ s)) ≡ T p m → ⊥
      added_changes t l a same =
          ⊎_elim (λ d. d.1 (subst (λ c. W p (bit_or m (2 ^ c)) ≡ W p m) d.0 (state_word p (bit_or m (2 ^ s)) p m same)))
          (λ j. (opened t l a.0).changes s h j (ap (T p) (or_swap m (2 ^ t) (2 ^ s)) ∙ state_more p (bit_or m (2 ^ s)) p m t l same)) a.1

      -- one that is not added leaves what is held, now ..
      module _ (e : in_mask r s ≡ false) where
        kept_now : in_mask m s ≡ false → W p (bit_or m (2 ^ s)) ≡ W p m
        kept_now d = go (says_eqb (W p (bit_or m (2 ^ s))) (W p m))
          where
            go : {b : Bool} → Says (W p (bit_or m (2 ^ s)) ≡ W p m) b → W p (bit_or m (2 ^ s)) ≡ W p m
            go (holds q) = q
            go (fails n) = absurd (false≢true (sym e ∙ g.all s s h (d, inl (refl, n))))

        -- .. and with every further choice that has a set which is not in m, since the choice is one of the successor by that set
        kept_behind : (x t : ℕ) → x < 2 ^ sets → in_mask x t ≡ true → in_mask m t ≡ false → W p (bit_or (bit_or m (2 ^ s)) x) ≡ W p (bit_or m x)
        kept_behind x t k i c = go (in_mask (o t) s) refl
          where
            l : t < sets
            l = bit_low sets x t k i

            without : (n : ℕ) → bit_or (bit_or n (2 ^ t)) x ≡ bit_or n x
            without n = or_assoc n (2 ^ t) x ∙ ap (bit_or n) (or_comm (2 ^ t) x ∙ raised_in x t i)

            go : (v : Bool) → in_mask (o t) s ≡ v → W p (bit_or (bit_or m (2 ^ s)) x) ≡ W p (bit_or m x)
            go true j = absurd (false≢true (sym e ∙ g.all s t l (c, inr j)))
            go false j =
                ap (W p) (sym (without (bit_or m (2 ^ s))) ∙ ap (λ n. bit_or n x) (or_swap m (2 ^ s) (2 ^ t)))
                ∙ state_tells bits sets words p (bit_or (bit_or m (2 ^ t)) (2 ^ s)) p (bit_or m (2 ^ t)) ((opened t l c).keeps s h j) x k
                ∙ ap (W p) (without m)

        -- so it keeps the state: a further choice that has no such set adds nothing to m
        added_none : T p (bit_or m (2 ^ s)) ≡ T p m
        added_none = go (in_mask m s) refl
          where
            word : in_mask m s ≡ false → (x : ℕ) → x < 2 ^ sets → {b : Bool} → Says (W p (bit_or (bit_or m (2 ^ s)) x) ≡ W p (bit_or m x)) b → W p (bit_or (bit_or m (2 ^ s)) x) ≡ W p (bit_or m x)
            word d x k (holds q) = q
            word d x k (fails n) =
                let own : bit_or m x ≡ m = inside_or x m (λ t i. has t i (in_mask m t) refl) in
                ap (W p) (or_swap m (2 ^ s) x ∙ ap (λ y. bit_or y (2 ^ s)) own) ∙ kept_now d ∙ sym (ap (W p) own)
              where
                has : (t : ℕ) → in_mask x t ≡ true → (v : Bool) → in_mask m t ≡ v → v ≡ true
                has t i true c = refl
                has t i false c = absurd (n (kept_behind x t k i c))

            go : (v : Bool) → in_mask m s ≡ v → T p (bit_or m (2 ^ s)) ≡ T p m
            go true d = ap (T p) (raised_in m s d)
            go false d = state_same bits sets words p (bit_or m (2 ^ s)) p m (λ x k. word d x k (says_eqb (W p (bit_or (bit_or m (2 ^ s)) x)) (W p (bit_or m x))))

    -- what all sets add are the open sets
    pub gathered_all : (r : ℕ) → ((t : ℕ) → t < sets → in_mask m t ≡ false → OpenSets bits sets words p (bit_or m (2 ^ t)) (o t)) → Gathered bits sets words o p m sets r → OpenSets bits sets words p m r
    gathered_all r opened g =
        record { low = g.low; changes = λ s h e same. let a = g.only s e in added_changes r opened g s h a.0 a.1 a.2 same; keeps = added_none r opened g }

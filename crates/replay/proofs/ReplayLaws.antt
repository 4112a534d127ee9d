-- Laws of lookups as bytes.
use Prim.Native.Nat.{ℕ, zero, suc, ◌+◌, ◌<◌}
use native.Mathlib.Nat.{le_of_suc-le-suc}
use native.Mathlib.Numerals.{add-one}
use native.Mathlib.Omega.{arith}
use mathlib.Core.Path.{◌≡◌, refl, ap}
use mathlib.Core.List.{List, [], ◌∷◌, ◌++◌}
use lib.ListN.{length, get_or, set, take, drop}
use lib.Seq.{drop-cons}
use Rattle.theory.specs.Query.{Bytes}
use Rattle.theory.specs.Lookups.{Lookup, entry, taking, asking, run}
use Rattle.replay.specs.Replay.{lookup_of, lookups_in, answers_in, answer_to, state_after, replayed}
use Rattle.replay.specs.Answered.{lookup_at, answered_at}

-- a list of lookups runs one by one
run_step : (t : Bytes) (state : ℕ) (l : Lookup) (ls : List Lookup) → run t state (l ∷ ls) ≡ answer_to t state l ∷ run t (state_after t state l) ls
run_step t state (entry p) ls = refl
run_step t state (taking s) ls = refl
run_step t state (asking i) ls = refl

-- The bytes afterwards hold the answers of the list of lookups that they held before.
pub answers_run : (t : Bytes) (state : ℕ) (b : Bytes) → answers_in (replayed t state b) ≡ run t state (lookups_in b)
answers_run t state [] = refl
answers_run t state (last ∷ []) = refl
answers_run t state (kind ∷ handle ∷ b) =
    rw (run_step t state (lookup_of kind handle) (lookups_in b)) (ap (λ rs. answer_to t state (lookup_of kind handle) ∷ rs) (answers_run t (state_after t state (lookup_of kind handle)) b))

-- two bytes are written at place i, and f goes on behind them
answer_written : (b : Bytes) (i x y : ℕ) (f : Bytes → Bytes) → suc i < length b →
    take (suc (suc i)) (set (set b i x) (suc i) y) ++ f (drop (suc (suc i)) (set (set b i x) (suc i) y)) ≡ take i b ++ (x ∷ y ∷ f (drop (suc (suc i)) b))
answer_written [] i x y f h = let z : ⊥ = omega arith in absurd z
answer_written (k ∷ []) zero x y f h = let z : ⊥ = omega arith in absurd z
answer_written (k ∷ l ∷ b) zero x y f h = refl
answer_written (k ∷ b) (suc i) x y f h = ap (λ r. k ∷ r) (answer_written b i x y f (le_of_suc-le-suc h))

-- One turn: the lookup at place i is answered, and the rest is replayed from the state after it.
pub replayed_turn : (t : Bytes) (state : ℕ) (b : Bytes) (i : ℕ) → i + 1 < length b →
    take (i + 2) (answered_at t state b i) ++ replayed t (state_after t state (lookup_at b i)) (drop (i + 2) (answered_at t state b i)) ≡ take i b ++ replayed t state (drop i b)
replayed_turn t state b i h =
    let two : i + 2 ≡ suc (suc i) = omega arith in
    let first : i < length b = omega arith in
    let second : suc i < length b = omega arith in
    rw (two, add-one i, drop-cons b i 0 first, drop-cons b (suc i) 0 second)
    (answer_written b i _ _ (replayed t (state_after t state (lookup_of (get_or b i 0) (get_or b (suc i) 0)))) second)

-- What is left of less than two bytes is kept.
pub replayed_short : (t : Bytes) (state : ℕ) (b : Bytes) → length b < 2 → replayed t state b ≡ b
replayed_short t state [] h = refl
replayed_short t state (last ∷ []) h = refl
replayed_short t state (k ∷ l ∷ b) h = let z : ⊥ = omega arith in absurd z

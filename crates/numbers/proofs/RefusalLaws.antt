-- No refusal has the number of a check that passed, so a check that refuses is the first to refuse.
use Prim.Native.Nat.{ℕ}
use mathlib.Core.Path.{◌≡◌}
use mathlib.Core.Logic.{◌≢◌}
use borrow.Author.Tests.{ne_eqb}
use Rattle.std.specs.Prelude.{Result}
use Rattle.std.specs.Result.{IsErrAnd}
use Rattle.std.proofs.lemmas.Result.{err_from_is_err_and}
use Rattle.theory.specs.Refusals.{passed, first_refusal}
use Rattle.theory.specs.Table.{refuse}
use Rattle.numbers.specs.declared.refusals.Refusal.{Refusal}
use Rattle.numbers.specs.declared.refusals.Refusal.TheVariants.{Length, Size, Item, Column, Repeat, Twin, States, Space, Handle, Row, Mismatch, Answer, Count}
use Rattle.numbers.specs.Refusals.{number_of, refusal_in, answer_in}

pub refused : (r : Refusal) → number_of r ≢ passed
refused Length = λ e. cc
refused Size = λ e. cc
refused Item = λ e. cc
refused Column = λ e. cc
refused Repeat = λ e. cc
refused Twin = λ e. cc
refused States = λ e. cc
refused Space = λ e. cc
refused Handle = λ e. cc
refused Row = λ e. cc
refused Mismatch = λ e. cc
refused Answer = λ e. cc
refused Count = λ e. cc

-- the first of two checks refuses, or passes
pub first_refuses : (r : Refusal) {a : ℕ} (b : ℕ) → number_of r ≡ a → number_of r ≡ first_refusal a b
first_refuses r b e = rw (← e, ne_eqb (number_of r) passed (refused r))

pub first_passes : {a b z : ℕ} → passed ≡ a → z ≡ b → z ≡ first_refusal a b
first_passes e h = rw (← e) h

-- what a `?` passes on
pub passed_on : {T : Type 0} (r : Result T Refusal) (e : Refusal) → IsErrAnd r (λ y. y ≡ e) → refusal_in r ≡ number_of e
passed_on r e h = let p = err_from_is_err_and r h in rw (p.1, p.2)

pub passed_on_answer : (r : Result ℕ Refusal) (e : Refusal) → IsErrAnd r (λ y. y ≡ e) → answer_in r ≡ refuse (number_of e)
passed_on_answer r e h = let p = err_from_is_err_and r h in rw (p.1, p.2)

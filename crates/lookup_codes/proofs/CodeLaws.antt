-- The answers of an entry and a take as one number: each is a state, which is a byte, or a refusal with one of their numbers, and its number is read back.
use Prim.Native.Nat.{ℕ, ◌/◌, ◌<◌, ◌≤◌}
use native.Mathlib.Omega.{arith}
use mathlib.Core.Path.{◌≡◌, ap}
use borrow.Author.Tests.{lt-ltb, le-ltb}
use Rattle.theory.specs.Table.{Answer, grant, refuse}
use Rattle.answer_codes.specs.Codes.{refusal_unit, answer_code}
use Rattle.lookup.specs.Answers.{MoveRefusal}
use Rattle.lookup.proofs.LookupLaws.{refusal_some}
use Rattle.lookup.proofs.MoveLaws.{Plain, granted, refused}
use Rattle.lookup_codes.specs.Decoded.{decoded}

-- its number is a byte, or says the refusal's
pub code_fits : {a : Answer} {code : ℕ} → Plain a → code ≡ answer_code a → (code < refusal_unit → code < 256) × (refusal_unit ≤ code → MoveRefusal (code / refusal_unit))
code_fits (granted n b) e = (λ h. omega arith, λ h. absurd (omega arith))
code_fits {code = code} (refused n m) e =
    let s = refusal_some n m in
    let same : n ≡ code / refusal_unit = omega arith in
    (λ h. absurd (omega arith), λ h. rw same at m)

-- and is read back
pub code_read : {a : Answer} {code : ℕ} → Plain a → code ≡ answer_code a → decoded code ≡ a
code_read (granted n b) e = rw (e, lt-ltb (answer_code (grant n)) refusal_unit (omega arith)) (ap grant (omega arith))
code_read (refused n m) e = let s = refusal_some n m in rw (e, le-ltb (answer_code (refuse n)) refusal_unit (omega arith)) (ap refuse (omega arith))

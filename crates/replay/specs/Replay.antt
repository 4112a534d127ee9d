-- A list of lookups as bytes, answered in place: two bytes for each lookup, its kind and its handle, which become its refusal and its value.
use Rattle.std.specs.Prelude.{ℕ, ◌<◌, ◌≡◌, List, [], ◌∷◌, eqb, length}
use Rattle.theory.specs.Tests.{pick}
use Rattle.theory.specs.Orders.{Order}
use Rattle.theory.specs.Query.{Bytes, read_query}
use Rattle.theory.specs.Table.{Answer, enter, take_in, ask}
use Rattle.theory.specs.Build.{Outcome, refused, built, outcome}
use Rattle.theory.specs.Lookups.{Lookup, entry, taking, asking, pass_on, Answers}

-- Kind 0 enters by a produced order, kind 1 takes a set, every other kind asks for an interesting order.
abbrev pub lookup_of : ℕ → ℕ → Lookup
lookup_of kind handle = pick (eqb kind 0) (entry handle) (pick (eqb kind 1) (taking handle) (asking handle))

-- The lookups that a buffer holds, two bytes each. A last odd byte is none.
abbrev pub lookups_in : Bytes → List Lookup
lookups_in [] = []
lookups_in (last ∷ []) = []
lookups_in (kind ∷ handle ∷ bytes) = lookup_of kind handle ∷ lookups_in bytes

-- The answers that a buffer holds, two bytes each: the refusal, 0 for none, and the value.
abbrev pub answers_in : Bytes → List Answer
answers_in [] = []
answers_in (last ∷ []) = []
answers_in (refusal ∷ value ∷ bytes) = record { refusal = refusal; value = value } ∷ answers_in bytes

-- What a lookup answers on a table's bytes in a state, and the state that the lookups after it work on: an ask leaves it as it was.
abbrev pub answer_to : Bytes → ℕ → Lookup → Answer
answer_to t state (entry p) = enter t p
answer_to t state (taking s) = take_in t state s
answer_to t state (asking i) = ask t state i

abbrev pub state_after : Bytes → ℕ → Lookup → ℕ
state_after t state (entry p) = pass_on (enter t p) state
state_after t state (taking s) = pass_on (take_in t state s) state
state_after t state (asking i) = state

-- The bytes of lookups, the two of each replaced by its answer. A last odd byte is kept.
abbrev pub replayed : Bytes → ℕ → Bytes → Bytes
replayed t state [] = []
replayed t state (last ∷ []) = last ∷ []
replayed t state (kind ∷ handle ∷ bytes) =
    let l = lookup_of kind handle in (answer_to t state l).refusal ∷ (answer_to t state l).value ∷ replayed t (state_after t state l) bytes

-- The lookups' bytes after a build: kept where it is refused, else answered on the table that it wrote. The state before the first entry is 0.
abbrev pub lookups_after : Outcome → Bytes → Bytes
lookups_after (refused n) lookups = lookups
lookups_after (built t) lookups = replayed t 0 lookups

-- Demand 3, of running code: `before` holds the lookups, `after` what was handed back. Where the build ends unrefused and the lookups begin with an
-- entry that is granted, the answers are those of the plain model, which knows the query alone, whatever its position before.
pub record Modelled (query : Bytes) (scratch output : ℕ) (before after : Bytes) : Type 0 where
  pub answers : {t : Bytes} → outcome query scratch output ≡ built t →
      {h : ℕ} {ls : List Lookup} → lookups_in before ≡ entry h ∷ ls → h < length (read_query query).produced →
      (p : Order) (ss : List ℕ) → Answers (read_query query) p ss (lookups_in before) (answers_in after)

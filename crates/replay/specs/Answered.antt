-- A lookup as the code has it, and a lookup answered in its place.
use Rattle.std.specs.Prelude.{ℕ, ◌+◌, get_or, set}
use Rattle.theory.specs.Query.{Bytes}
use Rattle.theory.specs.Lookups as theory
use Rattle.replay.specs.Replay.{lookup_of, answer_to}
use Rattle.replay.specs.declared.Lookup.{Lookup}
use Rattle.replay.specs.declared.Lookup.TheVariants.{Enter, Take, Ask}

-- The lookup that a value stands for.
abbrev pub lookup_is : Lookup → theory.Lookup
lookup_is (Enter p) = theory.entry p.0
lookup_is (Take s) = theory.taking s.0
lookup_is (Ask i) = theory.asking i.0

-- The lookup at place i of a buffer, and the buffer with its answer's two bytes in its place.
abbrev pub lookup_at : Bytes → ℕ → theory.Lookup
lookup_at b i = lookup_of (get_or b i 0) (get_or b (i + 1) 0)

abbrev pub answered_at : Bytes → ℕ → Bytes → ℕ → Bytes
answered_at t state b i =
    let a = answer_to t state (lookup_at b i) in set (set b i a.refusal) (i + 1) a.value

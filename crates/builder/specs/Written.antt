-- The table that lies in the parts of the scratch, as bytes.
use Rattle.std.specs.Prelude.{ℕ, ◌*◌, ◌∷◌, ◌++◌, take, drop}
use Rattle.theory.specs.Limits.{held_width}
use Rattle.theory.specs.Query.{Bytes}
use Rattle.theory.specs.Scratch.{successors_part, starts_part, held_part}

-- The sizes Q, P, T, S and the starts, then the successors, then the held words.
abbrev pub front_in : Bytes → (q p t s : ℕ) → Bytes
front_in work q p t s = q ∷ p ∷ t ∷ s ∷ take p (drop starts_part work)

unfoldable pub stored_table : Bytes → (q p t s : ℕ) → Bytes
stored_table work q p t s = (front_in work q p t s ++ take (q * s) (drop successors_part work)) ++ take (q * held_width) (drop held_part work)

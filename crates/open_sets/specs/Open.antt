-- The state that a pair gives, its open sets, and how they are gathered from those of its successors.
use Rattle.std.specs.Prelude.{ℕ, ◌^◌, ◌<◌, ◌≡◌, false, true, ◌⊎◌, take}
use Rattle.std.specs.Int.Bits.{bit_or}
use Rattle.theory.specs.Tests.{bits_of, in_mask}
use Rattle.theory.specs.AnswerTree.{AnswerTree, tree_by}
use Rattle.theory.specs.Query.{Bytes}
use Rattle.theory.specs.Table.{number}
use Rattle.theory.specs.Scratch.{word_at, held_part, open_in}
use Rattle.row_pairs.specs.RowPairs.{cut_word}

-- The state that a pair gives: what is held from produced order p with the sets of choice m and each choice of further sets in force.
unfoldable pub state_of : (bits sets : ℕ) → Bytes → ℕ → ℕ → AnswerTree
state_of bits sets words p m = tree_by sets (λ c. bits_of bits (word_at sets words p (bit_or m (number c))))

-- The sets that change the state of a pair when they are taken, as the bits of a number: *open* are those, and any other leaves the state as it is.
pub record OpenSets (bits sets : ℕ) (words : Bytes) (p m r : ℕ) : Type 0 where
  pub low : r < 2 ^ sets
  pub changes : (s : ℕ) → s < sets → in_mask r s ≡ true → ¬ (state_of bits sets words p (bit_or m (2 ^ s)) ≡ state_of bits sets words p m)
  pub keeps : (s : ℕ) → s < sets → in_mask r s ≡ false → state_of bits sets words p (bit_or m (2 ^ s)) ≡ state_of bits sets words p m

-- The open sets of each pair of the first n produced orders lie in their part of the scratch.
abbrev pub Opened : (n bits sets : ℕ) → Bytes → Bytes → Type 0
Opened n bits sets words work = (p m : ℕ) → p < n → m < 2 ^ sets → OpenSets bits sets words p m (open_in sets work p m)

-- Set t, which is not in force in m, adds set s to the open sets of the pair: the pair holds something else with t, and s is t; or s is open behind t. Here `o t` is what is open
-- behind t.
abbrev pub Adds : (bits sets : ℕ) → Bytes → (ℕ → ℕ) → (p m t s : ℕ) → Type 0
Adds bits sets words o p m t s =
    (in_mask m t ≡ false) × (((s ≡ t) × ¬ (cut_word bits sets words p (bit_or m (2 ^ t)) ≡ cut_word bits sets words p m)) ⊎ (in_mask (o t) s ≡ true))

-- The number r has as bits exactly what the sets before number i add.
pub record Gathered (bits sets : ℕ) (words : Bytes) (o : ℕ → ℕ) (p m i r : ℕ) : Type 0 where
  pub low : r < 2 ^ sets
  pub only : (s : ℕ) → in_mask r s ≡ true → (t : ℕ) × (t < i) × Adds bits sets words o p m t s
  pub all : (s t : ℕ) → t < i → Adds bits sets words o p m t s → in_mask r s ≡ true

-- What lies in the scratch as the open sets of the pair with set t in force too; and they are these.
abbrev pub next_open : (sets : ℕ) → Bytes → (p m : ℕ) → ℕ → ℕ
next_open sets work p m t = open_in sets work p (bit_or m (2 ^ t))

abbrev pub NextOpened : (bits sets : ℕ) → Bytes → (p m : ℕ) → Type 0
NextOpened bits sets work p m = (t : ℕ) → t < sets → in_mask m t ≡ false → OpenSets bits sets (take held_part work) p (bit_or m (2 ^ t)) (next_open sets work p m t)

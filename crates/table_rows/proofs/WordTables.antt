-- The table of the words in the scratch is that of the scratch's first part alone.
use Prim.Native.Nat.{ℕ, ◌+◌, ◌≤◌}
use native.Mathlib.Nat.{le_of_eq}
use native.Mathlib.Omega.{arith}
use mathlib.Core.Path.{◌≡◌, ap}
use lib.ListN.{take}
use lib.Seq.{take-take}
use Rattle.theory.specs.Tests.{bits_of}
use Rattle.theory.specs.Limits.{max_produced, max_sets}
use Rattle.theory.specs.Machine.{Sizes}
use Rattle.theory.specs.Query.{Bytes}
use Rattle.theory.specs.Scratch.{word_at, held_part, rows_table}
use Rattle.theory.specs.Table.{number}
use Rattle.theory.proofs.RowLaws.{number_fits}
use Rattle.theory.proofs.AnswerLaws.{answers_same}
use Rattle.pair_words.proofs.PairWords.{word_same}

module _ (z : Sizes) (work : Bytes) where
  abbrev bits : ℕ
  bits = z.produced + z.tested

  -- Only the part of the scratch that has the words counts.
  pub rows_front : z.produced ≤ max_produced → z.sets ≤ max_sets → rows_table z (take held_part work) ≡ rows_table z work
  rows_front few small =
      answers_same z z.sets (λ p c. bits_of bits (word_at z.sets (take held_part work) p (number c)))
      (λ p c. bits_of bits (word_at z.sets work p (number c)))
      (λ p c h e. ap (bits_of bits) (word_same z.sets p (number c) (omega arith) small (number_fits c z.sets (le_of_eq e)) (take held_part work) work (take-take held_part held_part work (omega arith))))

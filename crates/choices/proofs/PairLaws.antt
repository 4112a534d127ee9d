-- The pairs counted produced order by produced order and the choices upwards: the produced order and the choice of a number, and its held bytes in their place.
use Prim.Native.Nat.{ℕ, ◌+◌, ◌*◌, ◌/◌, ◌%◌, ◌^◌, ◌<◌}
use native.Mathlib.Nat.{add-zero, mod-lt, div-lt_iff_lt-mul, div-add-mod'}
use mathlib.Core.Path.{◌≡◌, ◌∙◌, ap}
use lib.Pow.{pow_pos}
use Rattle.theory.specs.Limits.{held_width}
use Rattle.theory.specs.Query.{Bytes, produced_count, read_query}
use Rattle.theory.specs.Placed.{placed}
use Rattle.theory.specs.Scratch.{words_part, pair_at}
use Rattle.theory.specs.Steps.{pair_count, pair_bytes}
use Rattle.theory.proofs.QueryLaws.{produced_count_lem}
use Rattle.choices.specs.Words.{bytes_under, settled_orders}

module _ (b : Bytes) (k choices : ℕ) (e : choices ≡ 2 ^ (read_query b).sets) where
  pub order_below : k < pair_count (read_query b) → k / choices < produced_count b
  order_below h = rw (e, ← produced_count_lem b) ((div-lt_iff_lt-mul (pow_pos (read_query b).sets)).1 h)

  pub choice_below : k % choices < 2 ^ (read_query b).sets
  choice_below = rw e (mod-lt k (pow_pos (read_query b).sets))

  -- its produced order alone, settled under its choice
  pub pair_written : (work : Bytes) → settled_orders b (k % choices) (k / choices) 1 work ≡ placed (words_part + held_width * k) (pair_bytes (read_query b) k) work
  pair_written work =
      ap (λ p. placed (pair_at (read_query b).sets p (k % choices)) (bytes_under b p (k % choices)) work) (add-zero (k / choices))
      ∙ ap (λ c. placed (pair_at (read_query b).sets (k / c) (k % c)) (bytes_under b (k / c) (k % c)) work) e
      ∙ ap (λ n. placed (words_part + held_width * n) (pair_bytes (read_query b) k) work) (div-add-mod' k (2 ^ (read_query b).sets))

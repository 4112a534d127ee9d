-- A row by two masks, value by value.
use Prim.Native.Nat.{ℕ, ◌+◌, ◌<◌}
use native.Mathlib.Nat.{zero-add}
use mathlib.Core.Path.{◌≡◌, sym, ◌∙◌, ap}
use mathlib.Core.Bool.{Bool}
use mathlib.Core.List.{[], ◌∷◌, ◌++◌}
use lib.ListN.{length, set}
use Rattle.theory.specs.Tests.{in_mask}
use Rattle.theory.specs.Query.{Bytes}
use Rattle.theory.proofs.RangeLaws.{map_more, entry_count}
use Rattle.theory.specs.Placed.{placed}
use Rattle.theory.proofs.PlacedLaws.{placed_store}
use Rattle.settled.specs.declared.Stop.{Stop}
use Rattle.settled.specs.Ends.{value_in, row_by}

-- a row's values by column
abbrev pub written_value : Bool → Stop → ℕ → ℕ
written_value inside stop c = value_in inside (in_mask stop.settled c) (in_mask stop.class c)

-- one value more is written
pub wrote_more : (inside : Bool) (stop : Stop) (at c v : ℕ) (rows : Bytes) → v ≡ written_value inside stop c → at + c < length rows
    → set (placed at (row_by inside stop.settled stop.class c) rows) (at + c) v ≡ placed at (row_by inside stop.settled stop.class (c + 1)) rows
wrote_more inside stop at c v rows e h =
    placed_store at (at + c) (row_by inside stop.settled stop.class c) v rows (ap (λ n. at + n) (entry_count (written_value inside stop) 0 c)) h
    ∙ ap (λ l. placed at l rows) (ap (λ k. row_by inside stop.settled stop.class c ++ (k ∷ [])) e ∙ sym (map_more (written_value inside stop) 0 c c (sym (zero-add c))))

-- The held word of each pair of a produced order and a choice of sets in force, in its place in the scratch.
use Rattle.std.specs.Prelude.{ℕ, zero, suc, ◌+◌, ◌^◌, ◌<◌, ◌≡◌, Bool, List, [], map, length, get_or}
use Rattle.theory.specs.Tests.{up_from, bits_of}
use Rattle.theory.specs.Orders.{Rule}
use Rattle.theory.specs.Settled.{is_held}
use Rattle.theory.specs.Construction.{held_under}
use Rattle.theory.specs.Query.{Bytes, order_count, order_at, read_query}
use Rattle.theory.specs.Table.{number, held_bytes}
use Rattle.theory.specs.Placed.{placed}
use Rattle.theory.specs.Scratch.{pair_at, word_at}

-- Which interesting orders are held from produced order p under the rules.
abbrev pub held_bits : Bytes → List Rule → ℕ → List Bool
held_bits b rs p = map (λ i. is_held rs (order_at b p) (order_at b i)) (up_from 0 (order_count b))

-- The two held bytes of produced order p under choice x.
abbrev pub bytes_under : Bytes → ℕ → ℕ → Bytes
bytes_under b p x = held_bytes (held_under (read_query b) (get_or (read_query b).produced p []) (bits_of (read_query b).sets x))

-- The scratch where the held bytes of n produced orders from p on under choice x are written, one after the other.
abbrev pub settled_orders : (b : Bytes) → (x p n : ℕ) → Bytes → Bytes
settled_orders b x p zero work = work
settled_orders b x p (suc n) work = placed (pair_at (read_query b).sets (p + n) x) (bytes_under b (p + n) x) (settled_orders b x p n work)

-- The held word of produced order p under choice x lies in its place.
abbrev pub WordIs : Bytes → Bytes → ℕ → ℕ → Type 0
WordIs b work p x = word_at (read_query b).sets work p x ≡ number (held_under (read_query b) (get_or (read_query b).produced p []) (bits_of (read_query b).sets x))

-- So does that of every produced order under each choice below n; and the held word of every pair.
abbrev pub WordsBelow : Bytes → Bytes → ℕ → Type 0
WordsBelow b work n = (p x : ℕ) → p < length (read_query b).produced → x < n → WordIs b work p x

abbrev pub WordsAre : Bytes → Bytes → Type 0
WordsAre b work = WordsBelow b work (2 ^ (read_query b).sets)

-- So do those of the choices below x, and those of the first p produced orders under choice x.
pub record WordsTo (b work : Bytes) (x p : ℕ) : Type 0 where
  pub below : WordsBelow b work x
  pub first : (k : ℕ) → k < p → WordIs b work k x

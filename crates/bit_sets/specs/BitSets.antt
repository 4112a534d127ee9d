-- Reading and setting one bit in a set of numbers that is held as bytes.
use Rattle.std.specs.Prelude.{ℕ, zero, suc, ◌+◌, ◌/◌, ◌%◌, ◌^◌, Bool, eqb, set}
use Rattle.std.specs.Int.Bits.{bit_or}
use Rattle.theory.specs.Query.{Bytes, byte_at}
use Rattle.theory.specs.Table.{bit}

-- i is in the set.
abbrev pub in_bits : Bytes → ℕ → Bool
in_bits m i = eqb (byte_at m (i / 8) / 2 ^ (i % 8) % 2) 1

-- The set with i.
unfoldable pub with_bit : Bytes → ℕ → Bytes
with_bit m i = set m (i / 8) (bit_or (byte_at m (i / 8)) (2 ^ (i % 8)))

-- How many of the numbers below n are in the set.
abbrev pub bits_below : ℕ → Bytes → ℕ
bits_below zero m = zero
bits_below (suc n) m = bit (in_bits m n) + bits_below n m

-- How long the line of a refusal can be.
use Rattle.std.specs.Prelude.{ℕ}

-- The longest line, with three digits for the number.
abbrev pub longest_refusal : ℕ
longest_refusal = 12

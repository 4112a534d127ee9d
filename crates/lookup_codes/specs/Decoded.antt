-- The answer that a lookup's number stands for: a caller in C reads it so.
use Rattle.std.specs.Prelude.{ℕ, ◌/◌, ltb}
use Rattle.theory.specs.Tests.{pick}
use Rattle.theory.specs.Table.{Answer, grant, refuse}
use Rattle.answer_codes.specs.Codes.{refusal_unit}

abbrev pub decoded : ℕ → Answer
decoded n = pick (ltb n refusal_unit) (grant n) (refuse (n / refusal_unit))

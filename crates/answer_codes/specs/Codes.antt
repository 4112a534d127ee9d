-- An answer as one number.
use Rattle.std.specs.Prelude.{ℕ, ◌+◌, ◌*◌}
use Rattle.theory.specs.Table.{Answer, refuse}

-- A lookup's answer as one number: the refusal's number times 65,536 plus the value, which is 0 on refusal.
abbrev pub refusal_unit : ℕ
refusal_unit = 65536

abbrev pub answer_code : Answer → ℕ
answer_code a = a.refusal * refusal_unit + a.value

-- A refusal, or none: its number, with the value 0.
abbrev pub refused_code : ℕ → ℕ
refused_code n = answer_code (refuse n)

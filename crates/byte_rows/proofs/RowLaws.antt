-- Rows of any width: what fits where.
use Prim.Native.Nat.{ℕ, ◌+◌, ◌*◌, ◌<◌, ◌≤◌}
use native.Mathlib.Nat.{mul-le-mul_right, suc-mul}
use native.Mathlib.Omega.{arith}

-- row i of n rows ends where they all end, or before
pub row_fits : (base width : ℕ) {n i end : ℕ} → base + n * width ≤ end → i < n → base + i * width + width ≤ end
row_fits base width {n} {i} h l = omega (arith, mul-le-mul_right width l, suc-mul i width)

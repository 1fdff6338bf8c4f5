-- One shifted left by less than the width.
use Prim.Native.Nat.{ℕ, ◌+◌, ◌*◌, ◌%◌, ◌^◌, ◌≤◌}
use mathlib.Core.Path.{◌≡◌, ◌∙◌}
use native.Mathlib.Omega.{arith}
use native.Mathlib.Nat.{one-mul}
use lib.Pow.{shl_exact}

pub one_shifted : (k : ℕ) → k + 1 ≤ 32 → 1 * 2 ^ k % 4294967296 ≡ 2 ^ k
one_shifted k h = shl_exact 1 k 32 (omega arith) (omega arith) ∙ one-mul (2 ^ k)

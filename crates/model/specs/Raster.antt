-- "Raster operation: result bit = bit (4P + 2S + D) of the 8-bit code."
use Prim.Native.Nat.{ℕ, zero, suc, ◌+◌, ◌*◌, ◌/◌, ◌%◌}
use Rattle.model.specs.Bits.{bit}

-- the bit of the code that one bit each of pattern, source and destination choose
abbrev pub chosen_bit : ℕ → ℕ → ℕ → ℕ → ℕ
chosen_bit code p s d = bit code (4 * p + 2 * s + d)

-- the m lowest bits of the result, from the lowest up
unfoldable pub raster : ℕ → ℕ → ℕ → ℕ → ℕ → ℕ
raster zero code p s d = 0
raster (suc m) code p s d = chosen_bit code (p % 2) (s % 2) (d % 2) + 2 * raster m code (p / 2) (s / 2) (d / 2)

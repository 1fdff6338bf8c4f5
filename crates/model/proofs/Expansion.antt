-- What is proved of specs/Expansion.
use Rattle.std.specs.Prelude.{ℕ, ◌+◌, ◌-◌, ◌*◌, ◌/◌, ◌≤◌, ◌<◌, ◌≡◌}
use Rattle.std.proofs.Common.{arith}
use Rattle.model.specs.Expansion.{byte_column}

-- ---- laws: of a row of so many pixels, the bytes up to the last column's

module _ (skip width : ℕ) where
  -- hold the bit of every column
  pub bits_held : (i : ℕ) → i < width → byte_column skip i ≤ byte_column skip (width - 1)
  bits_held i l = omega arith

  -- and each of them holds the bit of some column
  pub bytes_needed : skip < 8 → 0 < width → (c : ℕ) → c ≤ byte_column skip (width - 1) → (i : ℕ) × (i < width) × (byte_column skip i ≡ c)
  bytes_needed s w c l = (8 * c - skip, omega arith, omega arith)

  -- so byte-packed rows lie side by side
  pub rows_adjoin : 0 < width → byte_column skip (width - 1) + 1 ≡ (skip + width + 7) / 8
  rows_adjoin w = omega arith

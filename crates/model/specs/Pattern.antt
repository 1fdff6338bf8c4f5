-- The mono pattern: "eight rows of eight, PAT_DATA_0 holding rows 0 to 3 with row 0 in its lowest byte, PAT_DATA_1 rows 4 to
-- 7, bit 7 leftmost" (document 01, A BLT pixel).
use Rattle.std.specs.Prelude.{ℕ, ◌+◌, ◌-◌, ◌*◌, ◌%◌, Bool, if◌then◌else◌}
use Rattle.model.specs.Choice.{◌<?◌}
use Rattle.model.specs.Bits.{bit, field}

-- the eight bits of a pattern row: row r of a word's four is its bits 8r+7:8r
unfoldable pub pattern_byte : ℕ → ℕ → ℕ → ℕ
pattern_byte data0 data1 row = field (if row <? 4 then data0 else data1) (8 * (row % 4) + 7) (8 * (row % 4))

-- the bit of a pattern row and column, column 0 being the leftmost
unfoldable pub pattern_bit : ℕ → ℕ → ℕ → ℕ → ℕ
pattern_bit data0 data1 row column = bit (pattern_byte data0 data1 row) (7 - column)

-- "row and column are the offset register's Y and X low bits plus the signed steps from the first pixel, modulo 8": n steps
-- further, or back where the direction is negative (8 n is added so that the difference is not below 0)
unfoldable pub pattern_index : Bool → ℕ → ℕ → ℕ
pattern_index negative low n = (if negative then low + 8 * n - n else low + n) % 8

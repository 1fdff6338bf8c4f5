-- Bits of a word, written as the data book (000) writes them: bits 31:28 of a word w are `field w 31 28`.
use Rattle.std.specs.Prelude.{ℕ, ◌+◌, ◌-◌, ◌/◌, ◌%◌, ◌^◌, Bool}
use Rattle.model.specs.Choice.{◌=?◌}

-- bit number i, 0 or 1; bit 0 is the lowest
abbrev pub bit : ℕ → ℕ → ℕ
bit word i = word / 2 ^ i % 2

-- bit number i is set
abbrev pub set? : ℕ → ℕ → Bool
set? word i = bit word i =? 1

-- bits high:low as a number
abbrev pub field : ℕ → ℕ → ℕ → ℕ
field word high low = word / 2 ^ low % 2 ^ (high + 1 - low)

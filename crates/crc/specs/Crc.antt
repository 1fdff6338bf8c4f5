-- CRC-32, as zip and PNG have it: the remainder by the polynomial EDB88320h, the lowest bit first.
use Rattle.std.specs.Prelude.{ℕ, ◌/◌, ◌%◌, List, [], ◌∷◌, if◌then◌else◌}
use Rattle.std.specs.Int.Bits.{bit_xor}
use Rattle.model.specs.Choice.{◌=?◌}

-- one bit
unfoldable pub crc_bit : ℕ → ℕ
crc_bit c = if c % 2 =? 0 then c / 2 else bit_xor (c / 2) 0xEDB88320

-- one byte: eight bits
unfoldable pub crc_byte : ℕ → ℕ → ℕ
crc_byte c byte = crc_bit (crc_bit (crc_bit (crc_bit (crc_bit (crc_bit (crc_bit (crc_bit (bit_xor c byte))))))))

unfoldable pub crc_over : ℕ → List ℕ → ℕ
crc_over c [] = c
crc_over c (byte ∷ more) = crc_over (crc_byte c byte) more

-- from all ones, and inverted at the end
unfoldable pub crc32 : List ℕ → ℕ
crc32 bytes = bit_xor (crc_over 0xFFFFFFFF bytes) 0xFFFFFFFF

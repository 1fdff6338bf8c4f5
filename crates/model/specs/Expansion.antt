-- Mono sources: the pixels of a row are bits in frame memory, each expanded to a colour (000, 6.3.8.2 and 6.3.8.3).
use Rattle.std.specs.Prelude.{ℕ, ◌+◌, ◌-◌, ◌/◌, ◌%◌, Bool, List, if◌then◌else◌, Option, Some, None}
use Rattle.model.specs.Choice.{◌=?◌}
use Rattle.model.specs.Bits.{bit}
use Rattle.model.specs.Pixel.{read_pixel}
use Rattle.model.specs.Rectangle.{pixel_byte}
use Rattle.model.specs.declared.MonoSource.{MonoSource}

-- the bit of column i: so many bits of each row's first byte are skipped, "offset within byte to first monochrome pixel"
-- (XLSBS); from there bits go from a byte's bit 7, the leftmost, to its bit 0, then to the next byte (Tables 6-23 and 6-24)
abbrev pub byte_column : (skip i : ℕ) → ℕ
byte_column skip i = (skip + i) / 8

abbrev pub bit_number : (skip i : ℕ) → ℕ
bit_number skip i = 7 - (skip + i) % 8

unfoldable pub source_bit : MonoSource → (i j : ℕ) → List ℕ → ℕ
source_bit m i j frame = bit (read_pixel 1 frame (pixel_byte m.bytes (byte_column m.skip i) j)) (bit_number m.skip i)

abbrev pub inverted : Bool → ℕ → ℕ
inverted inversion b = if inversion then 1 - b else b

-- "Those pixels corresponding to a clear bit in the source data are rendered using .. GP_SRC_COLOR_BG .., and the pixels that
-- are set .. GP_SRC_COLOR_FG" (000); "a transparent pixel (bit clear after inversion) writes nothing" (document 02, W1)
unfoldable pub expand : MonoSource → ℕ → Option ℕ
expand m b =
    if inverted m.inversion b =? 1 then Some m.foreground
    else if m.transparent then None
    else Some m.background

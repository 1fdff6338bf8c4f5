-- Host sources: how the pixels of a BLT lie in the data words that it takes, counted from 0 over all its data commands (document
-- 02, W5; 000, 6.3.8.2 with Tables 6-23 and 6-24, and 6.4.2.2).
use Rattle.std.specs.Prelude.{ℕ, ◌+◌, ◌-◌, ◌*◌, ◌/◌, ◌%◌, Bool, false, not, ◌&&◌, ◌||◌, List, if◌then◌else◌, Option, Some}
use Rattle.model.specs.Choice.{◌<?◌, ◌=?◌}
use Rattle.model.specs.Bits.{bit, field}
use Rattle.model.specs.Registers.{word, SRC_OFFSET, format_code, source_skip, source_mode, source_select, width}
use Rattle.model.specs.Formats.{format_of, depth_of}
use Rattle.model.specs.Bounds.{some}
use Rattle.model.specs.Rectangle.{column_of, row_of, pixels_of}
use Rattle.model.specs.Expansion.{bit_number, expand}
use Rattle.model.specs.BltPixel.{mono_mode, mono_source_of, color_pattern_of, blt_of, blt_at, draw_from}
use Rattle.model.specs.declared.Host.{Host}
use Rattle.model.specs.declared.Primitive.{Primitive}
use Rattle.model.specs.declared.Primitive.TheVariants.{Blt, Vector}

-- ---- where the pixels lie

-- the bytes that a row of so many pixels takes, the first and the last of which may hold other bits too
abbrev pub row_bytes : (skip bits width : ℕ) → ℕ
row_bytes skip bits width = (skip + width * bits + 7) / 8

module _ (registers : List ℕ) where
  -- "BLTs with host source": SR 10
  abbrev pub from_host : Bool
  from_host = source_select registers =? 0b10

  -- "The two LSBs of the source OFFSET are used to determine the starting byte of the host source data"
  abbrev pub starting_byte : ℕ
  starting_byte = field (word registers SRC_OFFSET) 1 0

  -- "the XLSBs are used in the case of monochrome source data to determine the starting bit"
  abbrev pub starting_bit : ℕ
  starting_bit = if mono_mode registers then source_skip registers else 0

  abbrev pub bits_per_pixel : ℕ
  bits_per_pixel = if mono_mode registers then 1 else 8 * depth_of (format_of (format_code registers))

  -- the bytes from one row to the next. "In monochrome byte-packed mode, the hardware .., after WIDTH pixels have been
  -- transferred, skips the remaining bits in the byte plus the number specified in XLSBs, and begins the next line at that location.
  -- In unpacked monochrome mode or color mode, the hardware discards any data remaining in the DWORD after WIDTH pixels have been
  -- transferred and begins the next line at the byte specified by the two LSBs of the offset in the next DWORD received."
  abbrev pub host_stride : ℕ
  host_stride =
      if source_mode registers =? 0b10 then row_bytes starting_bit bits_per_pixel (width registers)
      else (starting_byte + row_bytes starting_bit bits_per_pixel (width registers) + 3) / 4 * 4

  unfoldable pub host_of : Host
  host_of = record { first = starting_byte; stride = host_stride; skip = starting_bit; bits = bits_per_pixel }

-- the byte in which the pixel at column i of row j begins, of the bytes of all data words, the lowest of a word first; X and Y move
-- "only the destination"
unfoldable pub host_byte : Host → (i j : ℕ) → ℕ
host_byte h i j = h.first + j * h.stride + (h.skip + i * h.bits) / 8

-- the same of pixel number k, and the word that holds it
unfoldable pub host_pixel : List ℕ → (k : ℕ) → ℕ
host_pixel registers k =
    let d = (blt_of registers).destination in
    host_byte (host_of registers) (column_of d k) (row_of d k)

unfoldable pub host_word : List ℕ → (k : ℕ) → ℕ
host_word registers k = host_pixel registers k / 4

-- pixel k is the first of its word
abbrev pub first_of_word : List ℕ → (k : ℕ) → Bool
first_of_word registers k = k =? 0 || host_word registers (k - 1) <? host_word registers k

-- W5: 24 keeps "host source [where] a pixel would straddle two words": of a colour source, some pixel's last byte is in another
-- word than its first
unfoldable pub straddles : List ℕ → Bool
straddles registers =
    let depth = depth_of (format_of (format_code registers)) in
    from_host registers && not (mono_mode registers)
    && some (pixels_of (blt_of registers).destination)
    (λ k. not ((host_pixel registers k + (depth - 1)) / 4 =? host_pixel registers k / 4))

-- ---- what they are

-- bytes of a word from byte n on, `depth` of them, the lowest first
abbrev pub bytes_from : (depth word n : ℕ) → ℕ
bytes_from depth word n = field word (8 * n + 8 * depth - 1) (8 * n)

-- what the word that holds pixel k gives it: of a mono source a bit, bit 7 of a byte first, which becomes what it would in frame
-- memory; of a colour source a value
unfoldable pub host_value : List ℕ → (k word : ℕ) → Option ℕ
host_value registers k word =
    let n = host_pixel registers k % 4 in
    if mono_mode registers
    then expand (mono_source_of registers) (bit (bytes_from 1 word n) (bit_number (source_skip registers) (column_of (blt_of registers).destination k)))
    else Some (bytes_from (depth_of (format_of (format_code registers))) word n)

-- frame memory after pixel number k, which this word holds
unfoldable pub draw_host : (registers table : List ℕ) → (k word : ℕ) → List ℕ → List ℕ
draw_host registers table k word frame =
    let b = blt_of registers in
    let i = column_of b.destination k in
    let j = row_of b.destination k in
    draw_from (blt_at (color_pattern_of registers) table b i j) i j (host_value registers k word) frame

-- whether a primitive with these registers takes its pixels from data commands
abbrev pub takes_data : Primitive → List ℕ → Bool
takes_data Blt registers = from_host registers
takes_data Vector registers = false

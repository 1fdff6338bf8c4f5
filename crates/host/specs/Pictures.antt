-- A BLT with host source as its registers describe it, and what is asked where pixels of it are drawn.
use Rattle.std.specs.Prelude.{ℕ, ◌+◌, ◌/◌, ◌%◌, ◌≤◌, ◌<◌, ◌≡◌, true, false, List, [], None}
use Rattle.model.specs.Rectangle.{column_of, row_of}
use Rattle.model.specs.BltPixel.{mono_mode, mono_source_of, blt_of, with_color, draw_from}
use Rattle.model.specs.Host.{host_of, host_byte, host_word, draw_host}
use Rattle.model.specs.declared.Host.{Host}
use Rattle.model.specs.declared.Pattern.{Pattern}
use Rattle.laws.specs.Rows.{Row, Band, PixelOf}
use Rattle.laws.specs.Order.{in_order}
use Rattle.laws.specs.Moves.{is_full}
use Rattle.laws.specs.Tiles.{color_in}
use Rattle.laws.specs.Host.{RangedHost}
use Rattle.laws.specs.Pictures.{host_at, value_in, Colored}
use Rattle.host.specs.declared.Picture.{Picture}

unfoldable pub picture_of : List ℕ → Picture
picture_of registers = record {
  blt = blt_of registers;
  host = host_of registers;
  mono = mono_mode registers;
  bits = mono_source_of registers;
}

-- each pixel gets its source as it is, one beside the other
pub record Copied (p : Picture) : Type 0 where
  pub code : p.blt.code ≡ 0xCC
  pub full : is_full p.blt.pattern ≡ true
  pub color : p.mono ≡ false
  pub up : p.blt.destination.columns.negative ≡ false

-- the word of the pixel at column i of row j is one of the data command's, where `before` words came before it, and lies in a ring of
-- so many words
pub record Held (ringsize : ℕ) (h : Host) (before i j : ℕ) : Type 0 where
  pub begun : before ≤ host_byte h i j / 4
  pub ended : host_byte h i j / 4 + 3 ≤ before + ringsize

-- its pixel at column i of row j with this pattern in place of its own
abbrev pub patterned_at : Pattern → Picture → (ℕ → ℕ) → (i j : ℕ) → List ℕ → List ℕ
patterned_at pattern p words i j =
    draw_from (record { destination = p.blt.destination; source = p.blt.source; pattern = pattern; code = p.blt.code }) i j
    (value_in p.blt p.host p.mono p.bits i j (words (host_byte p.host i j / 4)))

-- its pixel at column i of row j in the colour of a tile, n pixels of a row, and n pixels from number k
abbrev pub tiled_at : List (List ℕ) → (row column : ℕ) → Picture → (ℕ → ℕ) → (i j : ℕ) → List ℕ → List ℕ
tiled_at tile row column p words i j =
    host_at None [] (with_color p.blt (color_in tile p.blt.destination row column i j)) p.host p.mono p.bits words i j

abbrev pub tiled_row : List (List ℕ) → (row column : ℕ) → Picture → (ℕ → ℕ) → (i j n : ℕ) → List ℕ → List ℕ
tiled_row tile row column p words i j n = in_order (λ x. tiled_at tile row column p words x j) i n

abbrev pub tiled_number : List (List ℕ) → (row column : ℕ) → Picture → (ℕ → ℕ) → (k : ℕ) → List ℕ → List ℕ
tiled_number tile row column p words k =
    tiled_at tile row column p words (column_of p.blt.destination k) (row_of p.blt.destination k)

abbrev pub tiled_pixels : List (List ℕ) → (row column : ℕ) → Picture → (ℕ → ℕ) → (k n : ℕ) → List ℕ → List ℕ
tiled_pixels tile row column p words = in_order (tiled_number tile row column p words)

-- n pixels from number k as the registers have them
abbrev pub drawn_from : (registers table : List ℕ) → (words : ℕ → ℕ) → (k n : ℕ) → List ℕ → List ℕ
drawn_from registers table words = in_order (λ k. draw_host registers table k (words (host_word registers k)))

-- ---- what is asked

-- what is in range of a picture
pub record Ranged (p : Picture) : Type 0 where
  pub host_ranged : RangedHost p.host
  pub skip_most : p.bits.skip < 8
  -- the pixels of a colour source lie side by side, each in one word
  pub colored : p.mono ≡ false → Colored p.host p.blt.destination.depth
  pub inside : p.mono ≡ false → (i j : ℕ) → i < p.blt.destination.columns.count → j < p.blt.destination.rows.count
      → host_byte p.host i j % 4 + p.blt.destination.depth ≤ 4

-- one pixel, n pixels of a row, n pixels from number k
pub record PixelFed (framesize ringsize : ℕ) (p : Picture) (before i j : ℕ) : Type 0 where
  pub pixel : PixelOf framesize p.blt i j
  pub ranged : Ranged p
  pub held : Held ringsize p.host before i j

pub record RowFed (framesize ringsize : ℕ) (p : Picture) (before i j n : ℕ) : Type 0 where
  pub row : Row framesize p.blt i j n
  pub ranged : Ranged p
  pub held : (x : ℕ) → x < n → Held ringsize p.host before (i + x) j

pub record BandFed (framesize ringsize : ℕ) (p : Picture) (before k n : ℕ) : Type 0 where
  pub band : Band framesize p.blt k n
  pub ranged : Ranged p
  pub held : (x : ℕ) → x < n
      → Held ringsize p.host before (column_of p.blt.destination (k + x)) (row_of p.blt.destination (k + x))

-- Rows as parts of a span of pixels, what each of them is asked, and pixels in the colours of a tile.
use Prim.Native.Nat.{ℕ, zero, suc, ◌+◌, ◌-◌, ◌*◌, ◌/◌, ◌%◌, ◌^◌, ◌≤◌, ◌<◌}
use mathlib.Core.Path.{◌≡◌, refl, sym, ap, ◌∙◌}
use mathlib.Core.List.{List, []}
use native.Mathlib.Omega.{arith}
use native.Mathlib.Nat.{zero-mul, mul-pos, mul-le-mul_left, div-mul-le_self}
use lib.ListN.{get_or}
use Rattle.std.specs.Prelude.{min, Option, None}
use Rattle.model.specs.Pixel.{read_pixel}
use Rattle.model.specs.Registers.{format_code, width}
use Rattle.model.specs.Formats.{Depth, format_of, depth_of}
use Rattle.model.specs.Rectangle.{column_of, row_of}
use Rattle.model.specs.BltPixel.{rectangle_of, color_pattern_of, blt_of, with_color, blt_at, draw_from, tile_from}
use Rattle.model.specs.Host.{host_of, host_byte, host_pixel, host_word}
use Rattle.model.specs.declared.TileOrigin.{TileOrigin}
use Rattle.laws.specs.Order.{order_same}
use Rattle.laws.specs.Host.{ranged_host, stride_holds, pixels_in, pixels_in_lem}
use Rattle.laws.specs.Tiles.{tile_of, color_in_lem}
use Rattle.laws.specs.Pictures.{host_number, host_pixels, host_pixels_lem, value_in, word_bytes, read_word}
use Rattle.host.specs.declared.Picture.{Picture}
use Rattle.host.specs.Pictures.{picture_of, tiled_number, tiled_pixels, drawn_from}

-- without a colour pattern the table is not asked
pub absent_pixels : (table : List ℕ) (p : Picture) (words : ℕ → ℕ) (k n : ℕ) (frame : List ℕ)
    → host_pixels None [] p.blt p.host p.mono p.bits words k n frame
    ≡ host_pixels None table p.blt p.host p.mono p.bits words k n frame
unfolding blt_at
absent_pixels table p words k n =
    order_same _ (host_number None table p.blt p.host p.mono p.bits words) n k k (λ x l frame. refl)

-- the colours of a tile are those of the table
pub tiled_pixels_lem : (table : List ℕ) (row column : ℕ) (p : Picture) (words : ℕ → ℕ) (k n : ℕ) (frame : List ℕ)
    → tiled_pixels (tile_of p.blt.destination.depth table) row column p words k n frame
    ≡ host_pixels (tile_from row column) table p.blt p.host p.mono p.bits words k n frame
unfolding blt_at
tiled_pixels_lem table row column p words k n =
    order_same (tiled_number (tile_of p.blt.destination.depth table) row column p words)
    (host_number (tile_from row column) table p.blt p.host p.mono p.bits words) n k k
    (λ x l frame.
    let d = p.blt.destination in
    let i = column_of d (k + x) in
    let j = row_of d (k + x) in
    ap (λ (color : ℕ). draw_from (with_color p.blt color) i j (value_in p.blt p.host p.mono p.bits i j (words (host_byte p.host i j / 4))) frame)
    (color_in_lem table d row column i j))

-- ---- numbers

-- a rectangle with a pixel has a column
pub area_wide : (w h k : ℕ) → k < w * h → 0 < w
area_wide zero h k l = absurd (omega (arith, zero-mul h))
area_wide (suc w) h k l = omega arith

-- a part is no more than the whole
pub quotient_most : (n d : ℕ) → 0 < d → n / d ≤ n
quotient_most n d p = omega (arith, mul-le-mul_left (n / d) p, div-mul-le_self n d)

-- a word of the ring is the number of its four bytes
pub read_whole : (ring : List ℕ) (q at : ℕ) → get_or ring q 0 < 2 ^ 32 → at ≡ 4 * q → get_or ring q 0 ≡ read_pixel 4 (word_bytes ring) at
read_whole ring q at l e =
    let z : 4 * q ≡ 4 * q + 0 = omega arith in
    let y : get_or ring q 0 / 2 ^ (8 * 0) % 2 ^ (8 * 4) ≡ get_or ring q 0 = omega arith in
    sym (rw (e, z) (read_word 4 ring q 0 (omega arith) ∙ y))

-- ---- how many pixels a data command feeds

module _ (registers : List ℕ) (deep : Depth (depth_of (format_of (format_code registers)))) (wide : 0 < width registers) where
  -- a row takes some bytes
  pub stride_some : 0 < (host_of registers).stride
  unfolding host_of
  stride_some =
      let r = ranged_host registers deep in
      let p = mul-pos wide r.bits_least in
      omega (arith, stride_holds registers)

  -- the pixels of so many words
  pub words_feed : (word k : ℕ) → k < pixels_in (host_of registers) (width registers) (4 * word) → host_word registers k < word
  unfolding host_word host_pixel blt_of rectangle_of host_of
  words_feed word k l =
      omega (arith, pixels_in_lem (host_of registers) (ranged_host registers deep) (width registers) (stride_holds registers) wide (4 * word) k l)

-- up to a word's first byte, or as far as there are bytes: if some are left, a word begins there
pub head_ends : (n from : ℕ) {head : ℕ} → head ≡ min n ((4 - from % 4) % 4) → 0 < (n - head) / 4 → (from + head) % 4 ≡ 0
head_ends n from e l = omega arith

-- ---- what the registers describe

pub picture_pixels : (registers table : List ℕ) (words : ℕ → ℕ) {pattern : Option TileOrigin} → pattern ≡ color_pattern_of registers
    → {p : Picture} → p ≡ picture_of registers → (k n : ℕ) (frame : List ℕ)
    → host_pixels pattern table p.blt p.host p.mono p.bits words k n frame ≡ drawn_from registers table words k n frame
unfolding picture_of
picture_pixels registers table words e {p} q k n frame =
    rw (e, q) (host_pixels_lem registers table words k n frame)

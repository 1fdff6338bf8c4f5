-- Pixels of one row of a BLT: where they lie, what one of them draws, and a row as a part of the whole.
use Rattle.std.specs.Prelude.{ℕ, ◌+◌, ◌-◌, ◌*◌, ◌%◌, ◌^◌, ◌≤◌, ◌<◌, ◌≡◌, refl, List, length, Option, Some, None}
use Rattle.std.proofs.Common.{sym, ap, ◌∙◌, arith, mod-lt}
use Rattle.model.specs.Limits.{frame_most}
use Rattle.model.specs.Formats.{Depth}
use Rattle.model.specs.Pixel.{read_pixel, store_pixel}
use Rattle.model.specs.Raster.{raster}
use Rattle.model.specs.Rectangle.{ahead, behind, pixel_byte, column_of, row_of, pixels_of}
use Rattle.model.specs.Operands.{draw_operands, values}
use Rattle.model.specs.Bits.{bit}
use Rattle.model.specs.Expansion.{byte_column, bit_number, source_bit, expand}
use Rattle.model.specs.BltPixel.{source_value, with_pattern, with_source, operands_at, draw_at, draw_blt}
use Rattle.model.specs.declared.Axis.{Axis}
use Rattle.model.specs.declared.Blt.{Blt}
use Rattle.model.specs.declared.MonoSource.{MonoSource}
use Rattle.model.specs.declared.Operands.{Operands}
use Rattle.model.specs.declared.Pattern.TheVariants.{Solid}
use Rattle.model.specs.declared.Rectangle.{Rectangle}
use Rattle.model.specs.declared.Source.{Source}
use Rattle.model.specs.declared.Source.TheVariants.{Unselected, Frame, Bits}
use Rattle.laws.specs.Pixels.{length_store}
use Rattle.laws.specs.Order.{in_order, blt_pixels, order_same, order_length, Remain, remain_all, remain_add}
use Rattle.laws.specs.Ranges.{Matches, FitBits, FitSource, FitBlt, area_most}
use Rattle.laws.specs.Numbers.{row_lt, column_add, row_add, column_next, row_next}
use Rattle.laws.specs.Extremes.{Reached, Within, within, byte_on, Along, along, along_at}

-- ---- where pixels lie

-- column i of row j is a pixel of a BLT that judging accepts
pub record PixelOf (size : ℕ) (b : Blt) (i j : ℕ) : Type 0 where
  pub fit : FitBlt size b
  pub column : i < b.destination.columns.count
  pub row : j < b.destination.rows.count

-- the bit of column i of a mono source's row j is in frame memory, so many bytes after the row's first
pub record BitWithin (size : ℕ) (m : MonoSource) (i j : ℕ) : Type 0 where
  pub begins : Reached m.bytes 0 j
  pub bit_on : pixel_byte m.bytes (byte_column m.skip i) j ≡ pixel_byte m.bytes 0 j + byte_column m.skip i
  pub bit_in : pixel_byte m.bytes 0 j + byte_column m.skip i < size
  pub bit_near : m.skip + i < 2 ^ 32

abbrev pub SourceWithin : ℕ → Source → (i j : ℕ) → Type 0
SourceWithin size (Unselected color) i j = Unit {0}
SourceWithin size (Frame r) i j = Within size r i j
SourceWithin size (Bits m) i j = BitWithin size m i j

-- the bit of column i in a row of bits whose bytes begin at `from`
abbrev pub bit_at : (skip from i : ℕ) → List ℕ → ℕ
bit_at skip from i frame = bit (read_pixel 1 frame (from + byte_column skip i)) (bit_number skip i)

pub bit_at_lem : {size : ℕ} {m : MonoSource} {i j from : ℕ} → BitWithin size m i j → from ≡ pixel_byte m.bytes 0 j
    → (frame : List ℕ) → bit_at m.skip from i frame ≡ source_bit m i j frame
unfolding source_bit
bit_at_lem w e frame = rw (e, w.bit_on)

bit_within : {size : ℕ} {d : Rectangle} {m : MonoSource} → FitBits size d m → {i j : ℕ} → i < d.columns.count → j < d.rows.count
    → BitWithin size m i j
bit_within {d = d} {m} f {i} {j} p q =
    let wide = ap (λ (a : Axis). a.count) f.bytes_on in
    let row : j < m.bytes.rows.count = omega (arith, f.rows_are) in
    let low : byte_column m.skip i < m.bytes.columns.count = omega arith in
    let first = within f.bytes_fit {i = 0} {j = j} (omega arith) row in
    let here = within f.bytes_fit {i = byte_column m.skip i} {j = j} low row in
    let z : 0 + byte_column m.skip i ≡ byte_column m.skip i = omega arith in
    let on = rw z at (byte_on f.bytes_on (byte_column m.skip i) first.reached (rw z here.reached)) in
    record {
      begins = first.reached;
      bit_on = omega (arith, on);
      bit_in = omega (arith, on, here.bytes_in, f.bytes_are);
      bit_near = omega (arith, f.bytes_fit.ranged.wide_most);
    }

module _ {size : ℕ} {b : Blt} {i j : ℕ} (p : PixelOf size b i j) where
  pub destination_within : Within size b.destination i j
  destination_within = within p.fit.destination_fit p.column p.row

  pub source_within : SourceWithin size b.source i j
  source_within = go b.source p.fit.source_fit
    where
      go : (s : Source) → FitSource size b.destination s → SourceWithin size s i j
      go (Unselected color) f = tt
      go (Frame r) f = within f.0 (rw f.1.columns_same p.column) (rw f.1.rows_same.0 p.row)
      go (Bits m) f = bit_within f p.column p.row

-- ---- what a pixel draws

pub length_operands : (depth code at : ℕ) (o : Option Operands) (frame : List ℕ) → length (draw_operands depth code at o frame) ≡ length frame
unfolding draw_operands
length_operands depth code at None frame = refl
length_operands depth code at (Some o) frame = length_store depth frame at _

pub length_at : (b : Blt) (i j : ℕ) (frame : List ℕ) → length (draw_at b i j frame) ≡ length frame
unfolding draw_at
length_at b i j frame = length_operands _ _ _ _ frame

pub length_drawn : (b : Blt) (k : ℕ) (frame : List ℕ) → length (draw_blt b k frame) ≡ length frame
unfolding draw_blt
length_drawn b k frame = length_at b _ _ frame

-- what a solid pattern's colour and a source give
abbrev pub solid_operands : ℕ → Option ℕ → Option Operands
solid_operands color None = None
solid_operands color (Some v) = values color v

solid_operands_lem : (color : ℕ) (r : Rectangle) (i j : ℕ) (v : Option ℕ) → solid_operands color v ≡ with_source (Solid color) r i j v
unfolding with_source with_pattern
solid_operands_lem color r i j None = refl
solid_operands_lem color r i j (Some v) = refl

-- the pixel at column i of row j, drawn with its operands at its first byte
module _ (b : Blt) (i j : ℕ) (frame : List ℕ) {code at : ℕ} (c : code ≡ b.code) (a : at ≡ pixel_byte b.destination i j) where
  pub operands_drawn : {o : Option Operands} → o ≡ operands_at b i j frame
      → draw_operands b.destination.depth code at o frame ≡ draw_at b i j frame
  unfolding draw_at
  operands_drawn e = rw (c, a, e)

  -- of a solid pattern, its colour and what the source gives
  pub solid_drawn : {color p : ℕ} {v : Option ℕ} → b.pattern ≡ Solid color → p ≡ color → v ≡ source_value b.source i j frame
      → draw_operands b.destination.depth code at (solid_operands p v) frame ≡ draw_at b i j frame
  unfolding operands_at
  solid_drawn {p = p} {v} solid e s = operands_drawn (solid_operands_lem p b.destination i j v ∙ rw (solid, e, s))

  pub value_drawn : {color p v : ℕ} → b.pattern ≡ Solid color → p ≡ color → Some v ≡ source_value b.source i j frame
      → store_pixel b.destination.depth frame at
      (raster (8 * b.destination.depth) code p v (read_pixel b.destination.depth frame at))
      ≡ draw_at b i j frame
  unfolding draw_operands
  value_drawn {p = p} {v} solid e s = solid_drawn {p = p} {v = Some v} solid e s

-- ---- rows

-- n pixels of row j, from column i
abbrev pub row_pixels : Blt → (i j n : ℕ) → List ℕ → List ℕ
row_pixels b i j n = in_order (λ m. draw_at b m j) i n

pub length_row : (b : Blt) (i j n : ℕ) (frame : List ℕ) → length (row_pixels b i j n frame) ≡ length frame
length_row b i j n frame = order_length (λ m. draw_at b m j) (λ m. length_at b m j) n i frame

-- n pixels from pixel k, where they are of one row
pub row_pixels_lem : (b : Blt) (k n : ℕ) (frame : List ℕ) → column_of b.destination k + n ≤ b.destination.columns.count
    → row_pixels b (column_of b.destination k) (row_of b.destination k) n frame ≡ blt_pixels b k n frame
unfolding draw_blt
row_pixels_lem b k n frame l =
    order_same _ (draw_blt b) n _ k
    (λ m q frame.
    let w = b.destination.columns.count in
    let p : column_of b.destination k + m < w = omega arith in
    rw (column_add w k m p, row_add w k m p))
    frame

pub record Row (size : ℕ) (b : Blt) (i j n : ℕ) : Type 0 where
  pub fit : FitBlt size b
  pub columns : i + n ≤ b.destination.columns.count
  pub row : j < b.destination.rows.count
  pub small : size ≤ frame_most

module _ {size : ℕ} {b : Blt} {i j n : ℕ} (r : Row size b i j n) where
  -- c of them from column x
  pub row_within : {x c : ℕ} → x + c ≤ i + n → {now : ℕ} → now ≡ size → Row now b x j c
  row_within l e = rw e (record { fit = r.fit; columns = omega (arith, r.columns); row = r.row; small = r.small })

  pub row_pixel : {x : ℕ} → x < i + n → {now : ℕ} → now ≡ size → PixelOf now b x j
  row_pixel l e = rw e (record { fit = r.fit; column = omega (arith, r.columns); row = r.row })

  pub row_reached : {x : ℕ} → x < i + n → Reached b.destination x j
  row_reached l = (destination_within (row_pixel l refl)).reached

  -- pixel number m, by a walk from the first, and its source pixel
  module _ {m : ℕ} (l : m < n) {now : ℕ} (e : now ≡ size) where
    first : PixelOf size b i j
    first = row_pixel (omega arith) refl

    here : PixelOf size b (i + m) j
    here = row_pixel (omega arith) refl

    module _ {to : ℕ} (t : to ≡ pixel_byte b.destination i j) where
      pub row_along : Along b.destination.columns to m
      row_along = along r.small refl m (destination_within first) (destination_within here) t

      pub row_at : {at : ℕ} → at ≡ to + ahead b.destination.columns m - behind b.destination.columns m
          → at ≡ pixel_byte b.destination (i + m) j
      row_at = along_at r.small refl m (destination_within first) (destination_within here) t

    pub row_in : {at : ℕ} → at ≡ pixel_byte b.destination (i + m) j → (Depth b.destination.depth) × (at + b.destination.depth ≤ now)
    row_in a = (r.fit.destination_fit.ranged.deep, rw (a, e) (destination_within here).bytes_in)

    module _ {s : Rectangle} (f : b.source ≡ Frame s) {from : ℕ} (g : from ≡ pixel_byte s i j) where
      same : Matches b.destination s
      same = (rw f at r.fit.source_fit).1

      pub source_along : Along b.destination.columns from m
      source_along = along r.small same.columns_same m (rw f at (source_within first)) (rw f at (source_within here)) g

      pub source_at : {at : ℕ} → at ≡ from + ahead b.destination.columns m - behind b.destination.columns m → at ≡ pixel_byte s (i + m) j
      source_at = along_at r.small same.columns_same m (rw f at (source_within first)) (rw f at (source_within here)) g

      pub source_read : {at : ℕ} → at ≡ from + ahead b.destination.columns m - behind b.destination.columns m
          → (at + b.destination.depth ≤ now) × ((frame : List ℕ) → Some (read_pixel b.destination.depth frame at) ≡ source_value b.source (i + m) j frame)
      unfolding source_value
      source_read a =
          let w = rw f at (source_within here) in
          let p = source_at a in
          (omega (arith, w.bytes_in, same.depth_same), λ frame. rw (f, p, same.depth_same))

    -- or its bit, in a row of bits whose bytes begin at `from`
    module _ {s : MonoSource} (f : b.source ≡ Bits s) where
      pub bits_within : BitWithin now s (i + m) j
      bits_within = rw f at (source_within (row_pixel {x = i + m} (omega arith) e))

      pub bits_read : {from : ℕ} → from ≡ pixel_byte s.bytes 0 j → (frame : List ℕ)
          → expand s (bit_at s.skip from (i + m) frame) ≡ source_value b.source (i + m) j frame
      unfolding source_value
      bits_read g frame = rw f (ap (expand s) (bit_at_lem bits_within g frame))

-- ---- a BLT row by row

-- n pixels of a BLT that judging accepts, from pixel k
pub record Band (size : ℕ) (b : Blt) (k n : ℕ) : Type 0 where
  pub fit : FitBlt size b
  pub inside : k + n ≤ pixels_of b.destination
  pub small : size ≤ frame_most

-- those that remain to draw after m of them
pub band_rest : {b : Blt} {k n : ℕ} {first : List ℕ} → Band (length first) b k n → {m : ℕ} {frame : List ℕ}
    → Remain (draw_blt b) k n first m frame → Band (length frame) b (k + m) (n - m)
band_rest a r = rw r.same (record { fit = a.fit; inside = omega (arith, a.inside, r.drawn); small = a.small })

-- in the middle: m of n pixels from pixel k, drawn so, are drawn, and column i of row j is next
pub record ByRows (draw : ℕ → List ℕ → List ℕ) (b : Blt) (k n : ℕ) (first : List ℕ) (i j m : ℕ) (frame : List ℕ) : Type 0 where
  pub remain : Remain draw k n first m frame
  pub narrow : i < b.destination.columns.count
  pub column : m < n → i ≡ column_of b.destination (k + m)
  pub row : m < n → j ≡ row_of b.destination (k + m)

pub rows_all : {draw : ℕ → List ℕ → List ℕ} {size : ℕ} {b : Blt} → FitBlt size b → {k n : ℕ} (frame : List ℕ)
    → ByRows draw b k n frame (column_of b.destination k) (row_of b.destination k) 0 frame
rows_all {b = b} fit {k} frame =
    let z : k + 0 ≡ k = omega arith in
    record {
      remain = remain_all frame;
      narrow = mod-lt k fit.destination_fit.ranged.wide;
      column = λ l. rw z;
      row = λ l. rw z;
    }

-- of n pixels in rows of a width, m of which are drawn, the next c are of one row, from column i: up to its end, or all that are left
pub record Part (width n i m c : ℕ) : Type 0 where
  pub some : 0 < c
  pub within : c ≤ width - i
  pub left : c ≤ n - m
  pub whole : c < n - m → c ≡ width - i

module _ {draw : ℕ → List ℕ → List ℕ} {b : Blt} {k n : ℕ} {first : List ℕ} {i j m : ℕ} {frame : List ℕ}
    (r : ByRows draw b k n first i j m frame) {c : ℕ} (p : Part b.destination.columns.count n i m c) where
  more : m < n
  more = omega (arith, p.some, p.left)

  -- they are a row's
  pub rows_part : Band (length first) b k n → Row (length frame) b i j c
  rows_part a =
      rw r.remain.same
      (record {
        fit = a.fit;
        columns = omega (arith, r.narrow, p.within);
        row = rw (r.row more) (row_lt _ b.destination.rows.count (k + m) a.fit.destination_fit.ranged.wide (omega (arith, more, a.inside)));
        small = a.small;
      })

  -- and after them comes the next row, or none
  pub rows_after : ((k : ℕ) (frame : List ℕ) → length (draw k frame) ≡ length frame) → {next : List ℕ}
      → (column_of b.destination (k + m) + c ≤ b.destination.columns.count → i ≡ column_of b.destination (k + m)
      → j ≡ row_of b.destination (k + m) → next ≡ in_order draw (k + m) c frame)
      → ByRows draw b k n first 0 (j + 1) (m + c) next
  rows_after keeps {next} e =
      let w = b.destination.columns.count in
      let at = k + m in
      let drawn = e (omega (arith, r.column more, r.narrow, p.within)) (r.column more) (r.row more) in
      let on : m + c < n → k + (m + c) ≡ at + (w - at % w) = λ t. omega (arith, p.whole (omega arith), r.column more) in
      record {
        remain = remain_add keeps r.remain c (omega (arith, p.left, more)) drawn;
        narrow = omega (arith, r.narrow);
        column = λ t. rw (on t) (sym (column_next w at (omega (arith, r.narrow))));
        row = λ t. rw (on t, r.row more) (sym (row_next w at (omega (arith, r.narrow))));
      }

  -- what the code that goes on to it asks
  pub rows_on : Band (length first) b k n → (j < 2 ^ 32) × (m < 2 ^ 32) × (c < 2 ^ 32)
  rows_on a =
      let ranged = a.fit.destination_fit.ranged in
      (omega (arith, (rows_part a).row, ranged.high_most), omega (arith, more, a.inside, area_most ranged), omega (arith, p.within, ranged.wide_most))

-- of a BLT's own pixels
pub rows_next : {b : Blt} {k n : ℕ} {first : List ℕ} {i j m : ℕ} {frame : List ℕ} → ByRows (draw_blt b) b k n first i j m frame
    → {c : ℕ} → Part b.destination.columns.count n i m c → {next : List ℕ} → next ≡ row_pixels b i j c frame
    → ByRows (draw_blt b) b k n first 0 (j + 1) (m + c) next
rows_next {b = b} {k} {m = m} {frame} r {c} p e =
    rows_after r p (length_drawn b) (λ l x y. e ∙ rw (x, y) (row_pixels_lem b (k + m) c frame l))

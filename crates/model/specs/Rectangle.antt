-- A rectangle of pixels in frame memory: an offset, bytes a pixel, and two axes, each with a count, a step in bytes and a
-- direction. "Source pixels go the same way with their own offset and stride."
use Rattle.std.specs.Prelude.{ℕ, ◌+◌, ◌-◌, ◌*◌, ◌/◌, ◌%◌, Bool, if◌then◌else◌, Option}
use Rattle.model.specs.Bounds.{added, taken, first_byte, outside, extent}
use Rattle.model.specs.declared.Axis.{Axis}
use Rattle.model.specs.declared.Extent.{Extent}
use Rattle.model.specs.declared.Rectangle.{Rectangle}

-- which byte of the first pixel drawn the offset names, counted from 0. Document 01: "the first byte". Document 02's W2 strikes
-- this for X negative: there it "names the last byte of that pixel, for colour source and destination alike"
abbrev pub named_byte : Rectangle → ℕ
named_byte r = if r.columns.negative then r.depth - 1 else 0

-- what n steps along an axis add to a position, and what they take away: "further, or back if .. is negative"
abbrev pub ahead : Axis → ℕ → ℕ
ahead a n = added a.negative (n * a.step)

abbrev pub behind : Axis → ℕ → ℕ
behind a n = taken a.negative (n * a.step)

-- "Pixel column i of row j lies i pixels further, or back if X is negative, and j destination strides further, or back if Y
-- is negative": so far from the first pixel, which begins `named_byte` bytes before the offset
abbrev pub plus_at : Rectangle → (i j : ℕ) → ℕ
plus_at r i j = ahead r.columns i + ahead r.rows j

abbrev pub minus_at : Rectangle → (i j : ℕ) → ℕ
minus_at r i j = behind r.columns i + behind r.rows j + named_byte r

-- the first byte of the pixel at column i of row j
unfoldable pub pixel_byte : Rectangle → (i j : ℕ) → ℕ
pixel_byte r i j = first_byte r.offset (plus_at r i j) (minus_at r i j)

-- "Rows are drawn in order, columns in order within a row": pixel number k, from 0, is column k % count of row k / count
abbrev pub column_of : Rectangle → ℕ → ℕ
column_of r k = k % r.columns.count

abbrev pub row_of : Rectangle → ℕ → ℕ
row_of r k = k / r.columns.count

abbrev pub pixels_of : Rectangle → ℕ
pixels_of r = r.columns.count * r.rows.count

-- what is added to the offset and what is taken away for pixel k
abbrev pub plus : Rectangle → ℕ → ℕ
plus r k = plus_at r (column_of r k) (row_of r k)

abbrev pub minus : Rectangle → ℕ → ℕ
minus r k = minus_at r (column_of r k) (row_of r k)

-- "some byte of some .. pixel lies outside frame memory"
abbrev pub rectangle_outside : ℕ → Rectangle → Bool
rectangle_outside framelength r = outside framelength r.depth (pixels_of r) r.offset (plus r) (minus r)

-- the lowest and the highest byte of its pixels, or outside
abbrev pub rectangle_extent : ℕ → Rectangle → Option Extent
rectangle_extent framelength r = extent framelength r.depth (pixels_of r) r.offset (plus r) (minus r)

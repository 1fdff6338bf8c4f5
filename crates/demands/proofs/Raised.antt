-- What is proved of specs/Raised.
use Prim.Native.Nat.{ℕ, zero, suc, ◌+◌, ◌-◌, ◌/◌, ◌%◌, ◌≤◌, ◌<◌}
use Rattle.std.specs.Prelude.{◌≡◌, false, List, [], ◌∷◌, ◌++◌, set, Option, Some, None}
use Rattle.std.proofs.Math.Path.{refl, sym, ap}
use Rattle.std.proofs.Common.{◌∙◌, suc-add, mod-lt, ltb-false, leb-false, le-ltb}
use native.Mathlib.Omega.{arith}
use Rattle.std.proofs.Math.ListN.{length, length-set, get_or-append}
use Rattle.std.proofs.Math.Seq.{get_or-append-add, set-append_left}
use Rattle.std.proofs.lemmas.Bool.{lt-leb}
use Rattle.model.specs.Choice.{◌<?◌, ◌≤?◌}
use Rattle.model.proofs.Choice.{neither}
use Rattle.model.specs.Pixel.{read_pixel, store_pixel}
use Rattle.model.specs.Bounds.{byte_outside, outside}
use Rattle.model.specs.Rectangle.{pixel_byte, column_of, row_of, pixels_of}
use Rattle.model.specs.Operands.{draw_operands}
use Rattle.model.specs.Expansion.{byte_column, source_bit, expand}
use Rattle.model.specs.BltPixel.{source_value, mono_bit, with_pattern, with_source, operands_at, draw_at, draw_from, color_at, blt_at, draw_blt, draw_tiled, source_outside}
use Rattle.model.specs.VectorPixel.{axial_step, diagonal_step, step, position, vector_byte, draw_vector}
use Rattle.model.specs.declared.Axis.{Axis}
use Rattle.model.specs.declared.Blt.{Blt as BltRecord}
use Rattle.model.specs.declared.TileOrigin.{TileOrigin}
use Rattle.model.specs.declared.Operands.{Operands}
use Rattle.model.specs.declared.Pattern.{Pattern}
use Rattle.model.specs.declared.Pattern.TheVariants.{Solid, Mono}
use Rattle.model.specs.declared.Rectangle.{Rectangle}
use Rattle.model.specs.declared.Source.{Source}
use Rattle.model.specs.declared.Source.TheVariants.{Unselected, Frame, Bits}
use Rattle.model.specs.declared.Vector.{Vector as VectorRecord}
use Rattle.laws.specs.Some.{some_not, some_none}
use Rattle.laws.specs.Ranges.{FitBlt, FitSource, FitVector}
use Rattle.laws.specs.Numbers.{row_lt}
use Rattle.laws.specs.Pixels.{depth_least}
use Rattle.laws.specs.Extremes.{Reached, within}
use Rattle.demands.specs.Raised.{around, raised, raised_source, raised_blt, raised_vector}

-- ---- the bytes of a screen among others

set_behind : (before screen : List ℕ) (at value : ℕ) → set (before ++ screen) (length before + at) value ≡ before ++ set screen at value
set_behind [] screen at value = rw (let z : 0 + at ≡ at = omega arith in z)
set_behind (x ∷ before) screen at value = rw (suc-add (length before) at) (ap (λ (l : List ℕ). x ∷ l) (set_behind before screen at value))

module _ (before after : List ℕ) where
  read_on : (n : ℕ) (screen : List ℕ) (at : ℕ) → at + n ≤ length screen
      → read_pixel n (around before after screen) (length before + at) ≡ read_pixel n screen at
  unfolding read_pixel
  read_on zero screen at l = refl
  read_on (suc n) screen at l =
      let on : length before + at + 1 ≡ length before + (at + 1) = omega arith in
      rw (
        get_or-append-add before (screen ++ after) at 0,
        get_or-append screen after 0 at (omega arith),
        on,
        read_on n screen (at + 1) (omega arith),
      )

  store_on : (n : ℕ) (screen : List ℕ) (at value : ℕ) → at + n ≤ length screen
      → store_pixel n (around before after screen) (length before + at) value ≡ around before after (store_pixel n screen at value)
  unfolding store_pixel
  store_on zero screen at value l = refl
  store_on (suc n) screen at value l =
      let on : length before + at + 1 ≡ length before + (at + 1) = omega arith in
      rw (set_behind before (screen ++ after) at, set-append_left screen after at (value % 256) (omega arith), on)
      (store_on n (set screen at (value % 256)) (at + 1) (value / 256) (simp length-set (omega arith)))

  operands_on : (depth code at : ℕ) (o : Option Operands) (screen : List ℕ) → at + depth ≤ length screen
      → draw_operands depth code (length before + at) o (around before after screen) ≡ around before after (draw_operands depth code at o screen)
  unfolding draw_operands
  operands_on depth code at None screen l = refl
  operands_on depth code at (Some o) screen l = rw (read_on depth screen at l) (store_on depth screen at _ l)

-- ---- BLTs m bytes higher

-- each pixel begins m bytes higher
byte_raised : (m : ℕ) {r : Rectangle} {i j : ℕ} → Reached r i j → pixel_byte (raised m r) i j ≡ m + pixel_byte r i j
unfolding pixel_byte
byte_raised m p = let l = p.low in omega arith

-- with the same pattern
pattern_raised : (m : ℕ) (p : Pattern) (r : Rectangle) (i j : ℕ) (v : Option ℕ) → with_source p (raised m r) i j v ≡ with_source p r i j v
unfolding with_source with_pattern mono_bit
pattern_raised m p r i j None = refl
pattern_raised m (Solid color) r i j (Some source) = refl
pattern_raised m (Mono mono) r i j (Some source) = refl

tile_raised : (m : ℕ) (p : Option TileOrigin) (table : List ℕ) (b : BltRecord) (i j : ℕ)
    → blt_at p table (raised_blt m b) i j ≡ raised_blt m (blt_at p table b i j)
unfolding blt_at color_at
tile_raised m None table b i j = refl
tile_raised m (Some tile) table b i j = refl

-- what lies inside a memory lies, m bytes higher, inside one that has m bytes more before it and some after it
pub outside_raised : (m size more depth count offset : ℕ) (plus minus : ℕ → ℕ) → outside size depth count offset plus minus ≡ false
    → outside (m + (size + more)) depth count (m + offset) plus minus ≡ false
unfolding outside byte_outside
outside_raised m size more depth count offset plus minus e =
    some_none count _
    (λ k l. some_none depth _
    (λ i d.
    let q = neither (offset + plus k + i <? minus k) (size + minus k ≤? offset + plus k + i) (some_not depth _ i (some_not count _ k e l) d) in
    let low : minus k ≤ offset + plus k + i = ltb-false _ _ q.0 in
    let high : offset + plus k + i < size + minus k = leb-false _ _ q.1 in
    rw (le-ltb (m + offset + plus k + i) (minus k) (omega arith)) (lt-leb (m + (size + more) + minus k) (m + offset + plus k + i) (omega arith))))

pub source_in : (m size more : ℕ) (s : Source) → source_outside size s ≡ false → source_outside (m + (size + more)) (raised_source m s) ≡ false
source_in m size more (Unselected color) e = refl
source_in m size more (Frame r) e = outside_raised m size more _ _ _ _ _ e
source_in m size more (Bits s) e = outside_raised m size more _ _ _ _ _ e

-- each pixel reads and changes on the screen among others what it does on the screen alone
module _ (before screen after : List ℕ) where
  source_on : (s : Source) (d : Rectangle) {i j : ℕ} → FitSource (length screen) d s → i < d.columns.count → j < d.rows.count
      → source_value (raised_source (length before) s) i j (around before after screen) ≡ source_value s i j screen
  unfolding source_value source_bit expand
  source_on (Unselected color) d f p q = refl
  source_on (Frame r) d {i} {j} f p q =
      let here = within f.0 {i = i} {j = j} (rw f.1.columns_same p) (rw f.1.rows_same.0 q) in
      rw (byte_raised (length before) here.reached, read_on before after r.depth screen _ here.bytes_in)
  source_on (Bits m) d {i} {j} f p q =
      let wide = ap (λ (a : Axis). a.count) f.bytes_on in
      let here = within f.bytes_fit {i = byte_column m.skip i} {j = j} (omega arith) (omega (arith, f.rows_are)) in
      let at = pixel_byte m.bytes (byte_column m.skip i) j in
      rw (byte_raised (length before) here.reached, read_on before after 1 screen at (omega (arith, here.bytes_in, f.bytes_are)))

  from_on : (b : BltRecord) {i j : ℕ} (v : Option ℕ) → FitBlt (length screen) b → i < b.destination.columns.count
      → j < b.destination.rows.count → draw_from (raised_blt (length before) b) i j v (around before after screen) ≡ around before after (draw_from b i j v screen)
  unfolding draw_from
  from_on b v f p q =
      let here = within f.destination_fit p q in
      rw (pattern_raised (length before) b.pattern b.destination, byte_raised (length before) here.reached)
      (operands_on before after _ _ _ _ screen here.bytes_in)

  blt_on : (b : BltRecord) {i j : ℕ} → FitBlt (length screen) b → i < b.destination.columns.count → j < b.destination.rows.count
      → draw_at (raised_blt (length before) b) i j (around before after screen) ≡ around before after (draw_at b i j screen)
  unfolding draw_at operands_at draw_from
  blt_on b f p q = rw (source_on b.source b.destination f.source_fit p q) (from_on b _ f p q)

-- a BLT as a pixel sees it fits as the BLT does
tile_fit : (size : ℕ) (p : Option TileOrigin) (table : List ℕ) (b : BltRecord) (i j : ℕ) → FitBlt size b → FitBlt size (blt_at p table b i j)
unfolding blt_at
tile_fit size None table b i j f = f
tile_fit size (Some tile) table b i j f =
    record { destination_fit = f.destination_fit; source_fit = f.source_fit; pattern_fit = tt }

-- and its destination is the BLT's
tile_destination : (p : Option TileOrigin) (table : List ℕ) (b : BltRecord) (i j : ℕ) → (blt_at p table b i j).destination ≡ b.destination
unfolding blt_at
tile_destination None table b i j = refl
tile_destination (Some tile) table b i j = refl

module _ (before screen after : List ℕ) (b : BltRecord) (f : FitBlt (length screen) b) (p : Option TileOrigin) (table : List ℕ) (k : ℕ)
    (l : k < pixels_of b.destination) where
  abbrev i : ℕ
  i = column_of b.destination k

  abbrev j : ℕ
  j = row_of b.destination k

  column_in : i < (blt_at p table b i j).destination.columns.count
  column_in = rw (tile_destination p table b i j) (mod-lt k f.destination_fit.ranged.wide)

  row_in : j < (blt_at p table b i j).destination.rows.count
  row_in = rw (tile_destination p table b i j) (row_lt _ _ k f.destination_fit.ranged.wide l)

  abbrev c : BltRecord
  c = blt_at p table b i j

  pub tiled_on : draw_tiled p table (raised_blt (length before) b) k (around before after screen) ≡ around before after (draw_tiled p table b k screen)
  unfolding draw_tiled draw_blt
  tiled_on =
      let e = tile_destination p table b i j in
      rw (tile_raised (length before) p table b i j)
      (ap (λ (r : Rectangle). draw_at (raised_blt (length before) c) (column_of r k) (row_of r k) (around before after screen)) e
      ∙ blt_on before screen after c (tile_fit _ p table b i j f) column_in row_in
      ∙ sym (ap (λ (r : Rectangle). around before after (draw_at c (column_of r k) (row_of r k) screen)) e))

  pub fed_on : (v : Option ℕ)
      → draw_from (blt_at p table (raised_blt (length before) b) i j) i j v (around before after screen)
      ≡ around before after (draw_from (blt_at p table b i j) i j v screen)
  fed_on v =
      rw (tile_raised (length before) p table b i j)
      (from_on before screen after (blt_at p table b i j) v (tile_fit _ p table b i j f) column_in row_in)

-- ---- vectors m bytes higher

-- its steps do not look at where it begins
pub position_raised : (m : ℕ) (v : VectorRecord) (k : ℕ) → position (raised_vector m v) k ≡ position v k
unfolding position step axial_step diagonal_step
position_raised m v zero = refl
position_raised m v (suc k) = rw (position_raised m v k)

pub line_on : (before screen after : List ℕ) (v : VectorRecord) (k : ℕ) → FitVector (length screen) v → k < v.length
    → draw_vector (raised_vector (length before) v) k (around before after screen) ≡ around before after (draw_vector v k screen)
unfolding draw_vector vector_byte outside byte_outside
line_on before screen after v k f l =
    let s = position v k in
    let d = depth_least f.ranged.deep in
    let inside = some_not v.length _ k f.inside l in
    let first = neither (v.offset + s.plus + 0 <? s.minus) _ (some_not v.depth _ 0 inside d) in
    let last = neither (v.offset + s.plus + (v.depth - 1) <? s.minus) _ (some_not v.depth _ (v.depth - 1) inside (omega arith)) in
    let low : s.minus ≤ v.offset + s.plus + 0 = ltb-false _ _ first.0 in
    let high : v.offset + s.plus + (v.depth - 1) < length screen + s.minus = leb-false _ _ last.1 in
    let on : length before + v.offset + s.plus - s.minus ≡ length before + (v.offset + s.plus - s.minus) = omega arith in
    rw (position_raised (length before) v k, on) (operands_on before after _ _ _ _ screen (omega arith))

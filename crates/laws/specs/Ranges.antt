-- The ranges that the registers' fields give, and what judging accepts, as facts on rectangles, BLTs and vectors.
use Rattle.std.specs.Prelude.{ℕ, ◌+◌, ◌-◌, ◌*◌, ◌^◌, ◌≤◌, ◌<◌, ◌≡◌, Bool, true, ◌||◌, List, pos, if◌then◌else◌, Some, None}
use Rattle.std.proofs.Math.Path.{refl}
use Rattle.std.proofs.Math.Bool.{false}
use native.Mathlib.Omega.{arith}
use Rattle.std.proofs.Math.Nat.{mod-lt}
use Rattle.std.proofs.Common.{mul-le-mul}
use Rattle.std.specs.Int.Signed.{lt_z}
use Rattle.model.specs.Choice.{◌=?◌}
use Rattle.model.proofs.Choice.{not_both, neither, nonzero, if_both}
use Rattle.model.specs.Refusals.{NoRule, positive}
use Rattle.model.proofs.Refusals.{none_first}
use Rattle.model.specs.Limits.{side_most}
use Rattle.model.specs.Registers.{granule, format_code, pattern_mode, source_address, source_stride, width, height, vector_length, source_mode, source_select}
use Rattle.model.specs.Formats.{Depth, format_of, depth_of}
use Rattle.model.specs.Rectangle.{pixels_of, rectangle_outside}
use Rattle.model.specs.Expansion.{byte_column}
use Rattle.model.specs.BltPixel.{rectangle_of, mono_mode, bytes_of, mono_source_of, source_of, pattern_of, blt_of, source_outside}
use Rattle.model.specs.VectorPixel.{vector_of, vector_outside}
use Rattle.model.specs.Judging.{judge, judge_rules, refused_format, row23, row25, row26}
use Rattle.model.specs.declared.Blt.{Blt}
use Rattle.model.specs.declared.MonoSource.{MonoSource}
use Rattle.model.specs.declared.Pattern.{Pattern}
use Rattle.model.specs.declared.Pattern.TheVariants.{Solid, Mono}
use Rattle.model.specs.declared.Primitive.{Primitive}
use Rattle.model.specs.declared.Primitive.TheVariants.{Blt as BltPrimitive, Vector as VectorPrimitive}
use Rattle.model.specs.declared.Rectangle.{Rectangle}
use Rattle.model.specs.declared.Source.{Source}
use Rattle.model.specs.declared.Source.TheVariants.{Unselected, Frame, Bits}
use Rattle.model.specs.declared.Vector.{Vector}
use Rattle.laws.specs.Pixels.{depth_most}

-- ---- what is in range

-- above every base with every offset, fields of 10 and of 24 bits: more than 32 bits hold
abbrev pub address_most : ℕ
address_most = 1_023 * granule + 2 ^ 24

-- a rectangle whose fields are in range
pub record Ranged (r : Rectangle) : Type 0 where
  pub deep : Depth r.depth
  pub wide : 0 < r.columns.count
  pub wide_most : r.columns.count ≤ side_most
  pub pixels_on : r.columns.step ≡ r.depth
  pub high : 0 < r.rows.count
  pub high_most : r.rows.count ≤ side_most
  pub stride_most : r.rows.step < 65_536
  pub offset_most : r.offset < address_most

-- and that lies in a frame memory of `size` bytes
pub record InFrame (size : ℕ) (r : Rectangle) : Type 0 where
  pub ranged : Ranged r
  pub inside : rectangle_outside size r ≡ false

-- a rectangle of a destination's depth, size and directions
pub record Matches (d r : Rectangle) : Type 0 where
  pub depth_same : r.depth ≡ d.depth
  pub columns_same : r.columns ≡ d.columns
  pub rows_same : (r.rows.count ≡ d.rows.count) × (r.rows.negative ≡ d.rows.negative)

-- a mono source that has the bits of a destination's columns and rows
pub record FitBits (size : ℕ) (d : Rectangle) (m : MonoSource) : Type 0 where
  pub bytes_fit : InFrame size m.bytes
  pub bytes_are : m.bytes.depth ≡ 1
  pub bytes_on : m.bytes.columns ≡ record { count = byte_column m.skip (d.columns.count - 1) + 1; step = 1; negative = false }
  pub rows_are : m.bytes.rows.count ≡ d.rows.count

abbrev pub FitSource : ℕ → Rectangle → Source → Type 0
FitSource size d (Unselected color) = Unit {0}
FitSource size d (Frame r) = InFrame size r × Matches d r
FitSource size d (Bits m) = FitBits size d m

-- the rectangle that a source reads is in range
abbrev pub RangedSource : Source → Type 0
RangedSource (Unselected color) = Unit {0}
RangedSource (Frame r) = Ranged r
RangedSource (Bits m) = Ranged m.bytes

abbrev pub FitPattern : Pattern → Type 0
FitPattern (Solid color) = Unit {0}
FitPattern (Mono p) = (p.row < 8) × (p.column < 8)

-- a BLT that judging accepts for a frame memory of `size` bytes
pub record FitBlt (size : ℕ) (b : Blt) : Type 0 where
  pub destination_fit : InFrame size b.destination
  pub source_fit : FitSource size b.destination b.source
  pub pattern_fit : FitPattern b.pattern

-- a vector whose fields are in range and whose terms 26 accepts
pub record RangedVector (v : Vector) : Type 0 where
  pub deep : Depth v.depth
  pub long : 0 < v.length
  pub long_most : v.length < 4096
  pub offset_most : v.offset < address_most
  pub stride_most : v.stride < 65_536
  pub axial_rises : lt_z v.axial (pos 0) ≡ false
  pub diagonal_falls : lt_z (pos 0) v.diagonal ≡ false

pub record FitVector (size : ℕ) (v : Vector) : Type 0 where
  pub ranged : RangedVector v
  pub inside : vector_outside size v ≡ false

-- what the ranges leave of products
module _ {r : Rectangle} (ranged : Ranged r) where
  pub across_most : (i : ℕ) → i ≤ r.columns.count → i * r.columns.step ≤ side_most * 4
  across_most i l =
      let d = depth_most ranged.deep in
      mul-le-mul {n₂ = side_most} {m₂ = 4} (omega (arith, ranged.wide_most)) (omega (arith, ranged.pixels_on))

  pub along_most : (j : ℕ) → j < r.rows.count → j * r.rows.step ≤ side_most * 65_535
  along_most j l = mul-le-mul {n₂ = side_most} {m₂ = 65_535} (omega (arith, ranged.high_most)) (omega (arith, ranged.stride_most))

  pub area_most : pixels_of r ≤ side_most * side_most
  area_most = mul-le-mul ranged.wide_most ranged.high_most

-- ---- what the registers give

format_depth : (code : ℕ) → refused_format (format_of code) ≡ false → Depth (depth_of (format_of code))
unfolding format_of
format_depth code = go (code =? 0) (code =? 4 || code =? 5 || code =? 6) (code =? 8)
  where
    go : (a b c : Bool) → refused_format (if a then Some 1 else if b then Some 2 else if c then Some 4 else None) ≡ false
        → Depth (depth_of (if a then Some 1 else if b then Some 2 else if c then Some 4 else None))
    go true b c e = Depth.one
    go false true c e = Depth.two
    go false false true e = Depth.four
    go false false false e = absurd (not_both true refl e)

module _ (registers : List ℕ) (no-23 : row23 registers ≡ false) where
  accepted_depth : Depth (depth_of (format_of (format_code registers)))
  accepted_depth = format_depth (format_code registers) (neither (refused_format (format_of (format_code registers))) _ no-23).0

  -- once 23 and 25 do not apply, the rectangles of a BLT are in range
  module _ (no-25 : row25 registers BltPrimitive ≡ false) where
    ranged : (offset stride : ℕ) → offset < address_most → stride < 65_536 → Ranged (rectangle_of registers offset stride)
    unfolding rectangle_of
    ranged offset stride o s =
        let n = neither (width registers =? 0) (height registers =? 0) no-25 in
        record {
          deep = accepted_depth;
          wide = nonzero (width registers) n.0;
          wide_most = omega arith;
          pixels_on = refl;
          high = nonzero (height registers) n.1;
          high_most = omega arith;
          stride_most = s;
          offset_most = o;
        }

    pub ranged_destination : Ranged (blt_of registers).destination
    unfolding blt_of
    ranged_destination = ranged _ _ (omega arith) (mod-lt _ (omega arith))

    from_frame : Ranged (rectangle_of registers (source_address registers) (source_stride registers))
    from_frame = ranged _ _ (omega arith) (mod-lt _ (omega arith))

    from_bits : Ranged (bytes_of registers)
    unfolding bytes_of
    from_bits =
        let n = neither (width registers =? 0) (height registers =? 0) no-25 in
        record {
          deep = Depth.one;
          wide = omega arith;
          wide_most = omega arith;
          pixels_on = refl;
          high = nonzero (height registers) n.1;
          high_most = omega arith;
          stride_most = if_both (λ s. s < 65_536) (source_mode registers =? 2) (omega arith) (mod-lt _ (omega arith));
          offset_most = omega arith;
        }

    -- and what a source reads
    pub ranged_source : RangedSource (blt_of registers).source
    unfolding blt_of source_of mono_source_of
    ranged_source =
        if_both RangedSource (source_select registers =? 1) (if_both RangedSource (mono_mode registers) from_bits from_frame) tt

  -- and once 26 does not apply either, a vector is
  pub ranged_vector : row25 registers VectorPrimitive ≡ false → row26 registers VectorPrimitive ≡ false → RangedVector (vector_of registers)
  unfolding vector_of
  ranged_vector no-25 no-26 =
      let t = neither (lt_z (vector_of registers).axial (pos 0)) _ no-26 in
      record {
        deep = accepted_depth;
        long = nonzero (vector_length registers) no-25;
        long_most = mod-lt _ (omega arith);
        offset_most = omega arith;
        stride_most = mod-lt _ (omega arith);
        axial_rises = t.0;
        diagonal_falls = t.1;
      }

-- judging accepts a command where none of its rules applies
pub judged_rows : (primitive : Primitive) (registers : List ℕ) (size : ℕ) → judge primitive registers size ≡ 0
    → NoRule (judge_rules primitive registers size)
unfolding judge positive
judged_rows primitive registers size = none_first (judge_rules primitive registers size) refl

module _ (registers : List ℕ) (size : ℕ) where
  -- a source that lies in frame memory, once it is in range
  source_shape : RangedSource (blt_of registers).source → source_outside size (blt_of registers).source ≡ false
      → FitSource size (blt_of registers).destination (blt_of registers).source
  unfolding blt_of source_of mono_source_of bytes_of rectangle_of
  source_shape =
      let fits : Source → Type 0 = λ s. RangedSource s → source_outside size s ≡ false → FitSource size (blt_of registers).destination s in
      if_both fits (source_select registers =? 1)
      (if_both fits (mono_mode registers)
      (λ r i. record { bytes_fit = record { ranged = r; inside = i }; bytes_are = refl; bytes_on = refl; rows_are = refl })
      (λ r i. (record { ranged = r; inside = i }, record { depth_same = refl; columns_same = refl; rows_same = (refl, refl) })))
      (λ r i. tt)

  pub fit_blt : judge BltPrimitive registers size ≡ 0 → FitBlt size (blt_of registers)
  unfolding blt_of pattern_of
  fit_blt e =
      let rules = judged_rows BltPrimitive registers size e in
      let later = rules.1.1 in
      record {
        destination_fit = record { ranged = ranged_destination registers rules.0 later.0; inside = later.1.1.0 };
        source_fit = source_shape (ranged_source registers rules.0 later.0) later.1.1.1.0;
        pattern_fit = if_both FitPattern (pattern_mode registers =? 1) (omega arith, omega arith) tt;
      }

  pub fit_vector : judge VectorPrimitive registers size ≡ 0 → FitVector size (vector_of registers)
  fit_vector e =
      let rules = judged_rows VectorPrimitive registers size e in
      let later = rules.1.1 in
      record { ranged = ranged_vector registers rules.0 later.0 later.1.0; inside = later.1.1.0 }

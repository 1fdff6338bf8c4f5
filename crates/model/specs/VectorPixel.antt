-- "A vector pixel" (document 01): the pixels of a vector, in the order in which they are drawn.
use Rattle.std.specs.Prelude.{ℕ, zero, suc, ◌+◌, Bool, List, ℤ, pos, ◌+ℤ◌, ◌-ℤ◌, if◌then◌else◌, Option}
use Rattle.std.specs.Int.Signed.{lt_z}
use Rattle.model.specs.Choice.{◌<?◌}
use Rattle.model.specs.Registers.{word, SRC_COLOR_FG, PAT_COLOR_0, format_code, raster_code, destination_address, axial_field, diagonal_field, destination_stride, vector_length, initial_field, minor_positive, major_positive, y_major}
use Rattle.model.specs.Formats.{format_of, depth_of}
use Rattle.model.specs.Bounds.{first_byte, outside, extent}
use Rattle.model.specs.Operands.{draw_operands, values}
use Rattle.model.specs.declared.Extent.{Extent}
use Rattle.model.specs.declared.Vector.{Vector}
use Rattle.model.specs.declared.Position.{Position}

-- "Axial, diagonal and initial error are signed 16-bit": a field in two's complement stands from 32,768 up for 65,536 less
unfoldable pub signed16 : ℕ → ℤ
signed16 x = if x <? 32_768 then pos x else pos x -ℤ pos 65_536

-- the vector that the registers describe
unfoldable pub vector_of : List ℕ → Vector
vector_of registers = record {
  depth = depth_of (format_of (format_code registers));
  length = vector_length registers;
  offset = destination_address registers;
  stride = destination_stride registers;
  axial = signed16 (axial_field registers);
  diagonal = signed16 (diagonal_field registers);
  initial = signed16 (initial_field registers);
  ymajor = y_major registers;
  majorpositive = major_positive registers;
  minorpositive = minor_positive registers;
  code = raster_code registers;
  foreground = word registers SRC_COLOR_FG;
  color = word registers PAT_COLOR_0;
}

-- "A step in X is one pixel, a step in Y one destination stride; VECTOR_MODE gives the major axis and both signs."
abbrev pub major_step : Vector → ℕ
major_step v = if v.ymajor then v.stride else v.depth

abbrev pub minor_step : Vector → ℕ
minor_step v = if v.ymajor then v.depth else v.stride

-- n bytes further, or back
abbrev pub moved : Bool → ℕ → Position → Position
moved positive n s =
    if positive then record { plus = s.plus + n; minus = s.minus; error = s.error }
    else record { plus = s.plus; minus = s.minus + n; error = s.error }

abbrev pub with_error : Position → ℤ → Position
with_error s error = record { plus = s.plus; minus = s.minus; error = error }

-- "an axial step (major axis only) and add the axial term"
unfoldable pub axial_step : Vector → Position → Position
axial_step v s = with_error (moved v.majorpositive (major_step v) s) (s.error +ℤ v.axial)

-- "a diagonal step and add the diagonal term"
unfoldable pub diagonal_step : Vector → Position → Position
diagonal_step v s =
    with_error (moved v.minorpositive (minor_step v) (moved v.majorpositive (major_step v) s)) (s.error +ℤ v.diagonal)

-- "if the error is below 0 take an axial step .., else a diagonal step"
unfoldable pub step : Vector → Position → Position
step v s = if lt_z s.error (pos 0) then axial_step v s else diagonal_step v s

-- pixel number k, from 0: k steps from the offset and the initial error
unfoldable pub position : Vector → ℕ → Position
position v zero = record { plus = 0; minus = 0; error = v.initial }
position v (suc k) = step v (position v k)

-- where some byte of some of its pixels lies outside frame memory
abbrev pub vector_outside : ℕ → Vector → Bool
vector_outside framelength v =
    outside framelength v.depth v.length v.offset (λ k. (position v k).plus) (λ k. (position v k).minus)

-- and where they lie
abbrev pub vector_extent : ℕ → Vector → Option Extent
vector_extent framelength v =
    extent framelength v.depth v.length v.offset (λ k. (position v k).plus) (λ k. (position v k).minus)

-- the first byte of pixel k
unfoldable pub vector_byte : Vector → ℕ → ℕ
vector_byte v k = first_byte v.offset (position v k).plus (position v k).minus

-- "Source is SRC_COLOR_FG, pattern PAT_COLOR_0; the raster rule and destination reads are a BLT's."
unfoldable pub draw_vector : Vector → ℕ → List ℕ → List ℕ
draw_vector v k frame =
    draw_operands v.depth v.code (vector_byte v k) (values v.color v.foreground) frame

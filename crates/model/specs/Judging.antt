-- Refusals 23 to 28: what a command that draws is judged by, on the registers as they would be after loading.
use Rattle.std.specs.Prelude.{ℕ, Bool, false, not, ◌||◌, ◌&&◌, List, [], ◌∷◌, pos, Option, is_none}
use Rattle.std.specs.Int.Signed.{lt_z}
use Rattle.model.specs.Choice.{◌=?◌}
use Rattle.model.specs.Refusals.{Rule, ◌when◌, first}
use Rattle.model.specs.Registers.{format_code, alpha_enable, source_inversion, pattern_inversion, source_transparency, pattern_mode, channel3_enable, channel3_to_source, channel3_format, channel3_rotation, channel3_bgr, channel3_pattern_mode, channel3_preserve, channel3_prefetch, channel3_host, x_negative, y_negative, source_mode, source_select, width, height, vector_length}
use Rattle.model.specs.Formats.{format_of}
use Rattle.model.specs.Rectangle.{rectangle_outside}
use Rattle.model.specs.BltPixel.{mono_mode, blt_of, source_outside}
use Rattle.model.specs.Host.{straddles}
use Rattle.model.specs.VectorPixel.{vector_of, vector_outside}
use Rattle.model.specs.declared.Primitive.{Primitive}
use Rattle.model.specs.declared.Primitive.TheVariants.{Blt, Vector}

abbrev pub refused_format : Option ℕ → Bool
refused_format = is_none

module _ (registers : List ℕ) where
  -- 23: "colour format not one of the five .., or alpha enabled"
  abbrev pub row23 : Bool
  row23 = refused_format (format_of (format_code registers)) || not (alpha_enable registers =? 0b00)

  -- W4: "further mode bits but X and Y"
  abbrev pub channel3_further : Bool
  channel3_further =
      channel3_rotation registers || channel3_bgr registers || channel3_preserve registers || channel3_prefetch registers
      || channel3_host registers

  -- 24, of a BLT's channel 3: W4 "keeps channel 3 enabled without that mode, steered to the source, in another format than
  -- RASTER_MODE's, or with further mode bits but X and Y set"
  abbrev pub row24_channel3 : Bool
  row24_channel3 =
      channel3_enable registers
      && (not (channel3_pattern_mode registers) || channel3_to_source registers
      || not (channel3_format registers =? format_code registers) || channel3_further)

  -- W1: "both source bits on vectors and colour modes"
  abbrev pub source_bits : Bool
  source_bits = source_transparency registers || source_inversion registers

  -- W1: "takes mono from frame memory with X negative, or byte-packed with Y negative"
  abbrev pub mono_back : Bool
  mono_back =
      source_select registers =? 0b01
      && (mono_mode registers && x_negative registers || source_mode registers =? 0b10 && y_negative registers)

  -- 24, of a BLT's source; W5 takes a host source "unless a pixel would straddle two words"
  abbrev pub row24_source : Bool
  row24_source = mono_back || source_mode registers =? 0b00 && source_bits || straddles registers

  -- 24: "a source or pattern mode field with a code not carried (used by the pixels or not; BLT_MODE is judged for a BLT
  -- only)", "a vector with a pattern that isn't solid, channel 3 enabled"; W1 "keeps pattern inversion". W6: "Number 24 stops covering
  -- BASE_OFFSET"
  abbrev pub row24 : Primitive → Bool
  row24 Blt =
      source_mode registers =? 0b11
      || source_select registers =? 0b11
      || pattern_mode registers =? 0b11
      || row24_source
      || row24_channel3
      || pattern_inversion registers
  row24 Vector = not (pattern_mode registers =? 0b00) || source_bits || channel3_enable registers || pattern_inversion registers

  -- 25: "width, height or vector length 0"
  abbrev pub row25 : Primitive → Bool
  row25 Blt = width registers =? 0 || height registers =? 0
  row25 Vector = vector_length registers =? 0

  -- 26: "vector axial term below 0 or diagonal term above 0"
  abbrev pub row26 : Primitive → Bool
  row26 Blt = false
  row26 Vector = lt_z (vector_of registers).axial (pos 0) || lt_z (pos 0) (vector_of registers).diagonal

  -- 27: "some byte of some destination pixel lies outside frame memory"
  abbrev pub row27 : Primitive → ℕ → Bool
  row27 Blt framelength = rectangle_outside framelength (blt_of registers).destination
  row27 Vector framelength = vector_outside framelength (vector_of registers)

  -- 28: "a BLT's source select is frame memory, whatever the raster code, and some byte of some source pixel lies outside", of a
  -- mono source "the source bytes that hold the needed bits"
  abbrev pub row28 : Primitive → ℕ → Bool
  row28 Blt framelength = source_outside framelength (blt_of registers).source
  row28 Vector framelength = false

abbrev pub judge_rules : Primitive → List ℕ → ℕ → List Rule
judge_rules primitive registers framelength =
    23 when row23 registers
    ∷ 24 when row24 registers primitive
    ∷ 25 when row25 registers primitive
    ∷ 26 when row26 registers primitive
    ∷ 27 when row27 registers primitive framelength
    ∷ 28 when row28 registers primitive framelength
    ∷ []

unfoldable pub judge : Primitive → List ℕ → ℕ → ℕ
judge primitive registers framelength = first (judge_rules primitive registers framelength)

-- "A BLT pixel" (document 01), with mono sources and colour patterns (W1 and W4 of document 02): the pixels of a BLT, in the order in
-- which they are drawn.
use Rattle.std.specs.Prelude.{ℕ, ◌+◌, ◌-◌, ◌/◌, Bool, false, ◌&&◌, ◌||◌, List, if◌then◌else◌, Option, Some, None}
use Rattle.model.specs.Choice.{◌=?◌}
use Rattle.model.specs.Registers.{word, SRC_COLOR_FG, SRC_COLOR_BG, PAT_COLOR_0, PAT_COLOR_1, PAT_DATA_0, PAT_DATA_1, format_code, source_inversion, source_transparency, pattern_transparency, pattern_mode, raster_code, pattern_row, pattern_column, channel3_row, channel3_column, channel3_enable, channel3_pattern_mode, destination_address, source_skip, source_address, source_stride, destination_stride, width, height, x_negative, y_negative, source_mode, source_select}
use Rattle.model.specs.Formats.{format_of, depth_of}
use Rattle.model.specs.Rectangle.{pixel_byte, column_of, row_of, rectangle_outside}
use Rattle.model.specs.Pixel.{read_pixel}
use Rattle.model.specs.Pattern.{pattern_bit, pattern_index}
use Rattle.model.specs.Lookup.{tile_color}
use Rattle.model.specs.Expansion.{byte_column, source_bit, expand}
use Rattle.model.specs.Operands.{draw_operands, values}
use Rattle.model.specs.declared.Blt.{Blt}
use Rattle.model.specs.declared.TileOrigin.{TileOrigin}
use Rattle.model.specs.declared.MonoPattern.{MonoPattern}
use Rattle.model.specs.declared.MonoSource.{MonoSource}
use Rattle.model.specs.declared.Operands.{Operands}
use Rattle.model.specs.declared.Pattern.{Pattern}
use Rattle.model.specs.declared.Pattern.TheVariants.{Solid, Mono}
use Rattle.model.specs.declared.Rectangle.{Rectangle}
use Rattle.model.specs.declared.Source.{Source}
use Rattle.model.specs.declared.Source.TheVariants.{Unselected, Frame, Bits}

-- ---- the BLT that the registers describe

-- a tile of which the first pixel has this row and column
abbrev pub tile_from : (row column : ℕ) → Option TileOrigin
tile_from row column = Some (record { row = row; column = column })

module _ (registers : List ℕ) where
  -- a rectangle of the BLT's size and directions with this offset and stride
  unfoldable pub rectangle_of : (offset stride : ℕ) → Rectangle
  rectangle_of offset stride = record {
    offset = offset;
    depth = depth_of (format_of (format_code registers));
    columns = record {
      count = width registers;
      step = depth_of (format_of (format_code registers));
      negative = x_negative registers;
    };
    rows = record { count = height registers; step = stride; negative = y_negative registers };
  }

  -- SM 01 is unpacked mono, 10 byte-packed mono, the rest colour
  abbrev pub mono_mode : Bool
  mono_mode = source_mode registers =? 0b01 || source_mode registers =? 0b10

  -- the bytes from one row of bits to the next. Unpacked rows lie a source stride apart. Byte-packed ones follow one another:
  -- "after WIDTH pixels .., skips the remaining bits in the byte plus the number specified in XLSBs, and begins the next line at
  -- that location" (000, 6.3.8.2), so a row takes (XLSBS + width) / 8 bytes, rounded up
  abbrev pub row_stride : ℕ
  row_stride = if source_mode registers =? 0b10 then (source_skip registers + width registers + 7) / 8 else source_stride registers

  -- the bytes that hold the bits of a mono source: of each row those from the first column's to the last column's. Rows go
  -- further, or back if Y is negative
  unfoldable pub bytes_of : Rectangle
  bytes_of = record {
    offset = source_address registers;
    depth = 1;
    columns = record { count = byte_column (source_skip registers) (width registers - 1) + 1; step = 1; negative = false };
    rows = record { count = height registers; step = row_stride; negative = y_negative registers };
  }

  unfoldable pub mono_source_of : MonoSource
  mono_source_of = record {
    bytes = bytes_of;
    skip = source_skip registers;
    foreground = word registers SRC_COLOR_FG;
    background = word registers SRC_COLOR_BG;
    inversion = source_inversion registers;
    transparent = source_transparency registers;
  }

  -- "With no source selected the source value is SRC_COLOR_FG." Of a host source nothing is read here
  unfoldable pub source_of : Source
  source_of =
      if source_select registers =? 0b01
      then (if mono_mode then Bits mono_source_of else Frame (rectangle_of (source_address registers) (source_stride registers)))
      else Unselected (word registers SRC_COLOR_FG)

  -- "Solid pattern is PAT_COLOR_0."
  unfoldable pub pattern_of : Pattern
  pattern_of =
      if pattern_mode registers =? 0b01
      then Mono (record {
        data0 = word registers PAT_DATA_0;
        data1 = word registers PAT_DATA_1;
        row = pattern_row registers;
        column = pattern_column registers;
        color0 = word registers PAT_COLOR_0;
        color1 = word registers PAT_COLOR_1;
        transparent = pattern_transparency registers;
      })
      else Solid (word registers PAT_COLOR_0)

  -- W4: "a BLT's colour pattern, by RASTER_MODE or, in place of any pattern there, by channel 3's pattern mode", with the row and
  -- column of the first pixel: the low bits of DST_OFFSET or of CH3_OFFSET
  unfoldable pub color_pattern_of : Option TileOrigin
  color_pattern_of =
      if channel3_enable registers && channel3_pattern_mode registers then tile_from (channel3_row registers) (channel3_column registers)
      else if pattern_mode registers =? 0b10 then tile_from (pattern_row registers) (pattern_column registers)
      else None

  unfoldable pub blt_of : Blt
  blt_of = record {
    destination = rectangle_of (destination_address registers) (destination_stride registers);
    source = source_of;
    pattern = pattern_of;
    code = raster_code registers;
  }

-- ---- what the pixel at column i of row j gets

-- the source value
unfoldable pub source_value : Source → (i j : ℕ) → List ℕ → Option ℕ
source_value (Unselected color) i j frame = Some color
source_value (Frame r) i j frame = Some (read_pixel r.depth frame (pixel_byte r i j))
source_value (Bits m) i j frame = expand m (source_bit m i j frame)

-- the mono pattern's bit: "row and column are the offset register's Y and X low bits plus the signed steps from the first
-- pixel"
unfoldable pub mono_bit : MonoPattern → Rectangle → (i j : ℕ) → ℕ
mono_bit p r i j =
    pattern_bit p.data0 p.data1
    (pattern_index r.rows.negative p.row j)
    (pattern_index r.columns.negative p.column i)

-- the pattern value beside a source value. Of a mono pattern "set gives PAT_COLOR_1, clear PAT_COLOR_0; with pattern
-- transparency a clear bit writes nothing"; "transparency on a solid pattern .. [has] no effect"
unfoldable pub with_pattern : Pattern → Rectangle → (i j : ℕ) → ℕ → Option Operands
with_pattern (Solid color) r i j source = values color source
with_pattern (Mono p) r i j source =
    if mono_bit p r i j =? 1 then values p.color1 source
    else if p.transparent then None
    else values p.color0 source

-- a pixel that is transparent by its source writes nothing, whatever its pattern and the raster code
unfoldable pub with_source : Pattern → Rectangle → (i j : ℕ) → Option ℕ → Option Operands
with_source p r i j None = None
with_source p r i j (Some source) = with_pattern p r i j source

unfoldable pub operands_at : Blt → (i j : ℕ) → List ℕ → Option Operands
operands_at b i j frame = with_source b.pattern b.destination i j (source_value b.source i j frame)

-- ---- drawing

unfoldable pub draw_at : Blt → (i j : ℕ) → List ℕ → List ℕ
draw_at b i j frame =
    draw_operands b.destination.depth b.code (pixel_byte b.destination i j) (operands_at b i j frame) frame

-- the same with a source value that is handed to it
unfoldable pub draw_from : Blt → (i j : ℕ) → Option ℕ → List ℕ → List ℕ
draw_from b i j value frame =
    draw_operands b.destination.depth b.code (pixel_byte b.destination i j)
    (with_source b.pattern b.destination i j value) frame

-- a BLT with a solid pattern of this colour in place of its pattern
abbrev pub with_color : Blt → ℕ → Blt
with_color b color = record { destination = b.destination; source = b.source; pattern = Solid color; code = b.code }

-- the colour of a tile at column i of row j: its row and column are found as those of the mono pattern are
unfoldable pub color_at : Rectangle → (row column : ℕ) → List ℕ → (i j : ℕ) → ℕ
color_at r row column table i j =
    tile_color r.depth table (pattern_index r.rows.negative row j) (pattern_index r.columns.negative column i)

-- the BLT as the pixel at column i of row j sees it: a colour pattern gives each pixel a colour of its own, as a solid pattern gives
-- every pixel one, so "pattern transparency has no effect on it"
unfoldable pub blt_at : Option TileOrigin → List ℕ → Blt → (i j : ℕ) → Blt
blt_at None table b i j = b
blt_at (Some tile) table b i j = with_color b (color_at b.destination tile.row tile.column table i j)

-- pixel number k
unfoldable pub draw_blt : Blt → ℕ → List ℕ → List ℕ
draw_blt b k frame = draw_at b (column_of b.destination k) (row_of b.destination k) frame

unfoldable pub draw_tiled : Option TileOrigin → List ℕ → Blt → ℕ → List ℕ → List ℕ
draw_tiled p table b k frame = draw_blt (blt_at p table b (column_of b.destination k) (row_of b.destination k)) k frame

-- ---- bounds

-- "some byte of some source pixel lies outside", where the "source select is frame memory, whatever the raster code"; of a mono
-- source "28 is judged on the source bytes that hold the needed bits"
abbrev pub source_outside : ℕ → Source → Bool
source_outside framelength (Unselected color) = false
source_outside framelength (Frame r) = rectangle_outside framelength r
source_outside framelength (Bits m) = rectangle_outside framelength m.bytes

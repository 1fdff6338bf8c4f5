-- The registers and their fields, at the bit positions of 000 (docs/registers.md has the table of 000 for each).
-- A register's value is a 32-bit word, and the registers are one list, indexed by the numbers below.
use Rattle.std.specs.Prelude.{ℕ, ◌+◌, ◌*◌, Bool, List, get_or}
use Rattle.model.specs.Bits.{set?, field}

-- ---- the registers, in the order of a BLT's words; then VECTOR_MODE, which only a vector writes, and LUT_INDEX, which only a
-- table load writes

abbrev pub register_count : ℕ
register_count = 18

abbrev pub RASTER_MODE : ℕ
RASTER_MODE = 0

abbrev pub DST_OFFSET : ℕ
DST_OFFSET = 1

abbrev pub SRC_OFFSET : ℕ
SRC_OFFSET = 2

abbrev pub STRIDE : ℕ
STRIDE = 3

abbrev pub WID_HEIGHT : ℕ
WID_HEIGHT = 4

abbrev pub SRC_COLOR_FG : ℕ
SRC_COLOR_FG = 5

abbrev pub SRC_COLOR_BG : ℕ
SRC_COLOR_BG = 6

abbrev pub PAT_COLOR_0 : ℕ
PAT_COLOR_0 = 7

abbrev pub PAT_COLOR_1 : ℕ
PAT_COLOR_1 = 8

abbrev pub PAT_DATA_0 : ℕ
PAT_DATA_0 = 9

abbrev pub PAT_DATA_1 : ℕ
PAT_DATA_1 = 10

abbrev pub CH3_OFFSET : ℕ
CH3_OFFSET = 11

abbrev pub CH3_MODE_STR : ℕ
CH3_MODE_STR = 12

abbrev pub CH3_WIDHI : ℕ
CH3_WIDHI = 13

abbrev pub BASE_OFFSET : ℕ
BASE_OFFSET = 14

abbrev pub BLT_MODE : ℕ
BLT_MODE = 15

abbrev pub VECTOR_MODE : ℕ
VECTOR_MODE = 16

abbrev pub LUT_INDEX : ℕ
LUT_INDEX = 17

-- "Names at the same register offset in 000's summary are one register": 04h and 0Ch have two names each
abbrev pub VEC_ERR : ℕ
VEC_ERR = SRC_OFFSET

abbrev pub VEC_LEN : ℕ
VEC_LEN = WID_HEIGHT

-- W6: the "granule of 000": a base "begins on a 4 MB boundary", 4 MiB
abbrev pub granule : ℕ
granule = 4_194_304

-- the word that a register holds
abbrev pub word : List ℕ → ℕ → ℕ
word registers r = get_or registers r 0

module _ (registers : List ℕ) where
  -- ---- GP_RASTER_MODE, 38h

  -- BPP/FMT 31:28
  abbrev pub format_code : ℕ
  format_code = field (word registers RASTER_MODE) 31 28

  -- EN 23:22
  abbrev pub alpha_enable : ℕ
  alpha_enable = field (word registers RASTER_MODE) 23 22

  -- SI 13, PI 12
  abbrev pub source_inversion : Bool
  source_inversion = set? (word registers RASTER_MODE) 13

  abbrev pub pattern_inversion : Bool
  pattern_inversion = set? (word registers RASTER_MODE) 12

  -- ST 11, PT 10
  abbrev pub source_transparency : Bool
  source_transparency = set? (word registers RASTER_MODE) 11

  abbrev pub pattern_transparency : Bool
  pattern_transparency = set? (word registers RASTER_MODE) 10

  -- PM 9:8
  abbrev pub pattern_mode : ℕ
  pattern_mode = field (word registers RASTER_MODE) 9 8

  -- ROP 7:0
  abbrev pub raster_code : ℕ
  raster_code = field (word registers RASTER_MODE) 7 0

  -- ---- GP_DST_OFFSET, 00h: YLSBS 31:29, XLSBS 28:26, OFFSET 23:0

  abbrev pub pattern_row : ℕ
  pattern_row = field (word registers DST_OFFSET) 31 29

  abbrev pub pattern_column : ℕ
  pattern_column = field (word registers DST_OFFSET) 28 26

  abbrev pub destination_offset : ℕ
  destination_offset = field (word registers DST_OFFSET) 23 0

  -- ---- GP_SRC_OFFSET, 04h: XLSBS 28:26, OFFSET 23:0; as GP_VEC_ERR: A_ERR 31:16, D_ERR 15:0, each in two's complement

  abbrev pub source_skip : ℕ
  source_skip = field (word registers SRC_OFFSET) 28 26

  abbrev pub source_offset : ℕ
  source_offset = field (word registers SRC_OFFSET) 23 0

  abbrev pub axial_field : ℕ
  axial_field = field (word registers VEC_ERR) 31 16

  abbrev pub diagonal_field : ℕ
  diagonal_field = field (word registers VEC_ERR) 15 0

  -- ---- GP_STRIDE, 08h: S_STRIDE 31:16, D_STRIDE 15:0

  abbrev pub source_stride : ℕ
  source_stride = field (word registers STRIDE) 31 16

  abbrev pub destination_stride : ℕ
  destination_stride = field (word registers STRIDE) 15 0

  -- ---- GP_WID_HEIGHT, 0Ch: WID 27:16, HI 11:0; as GP_VEC_LEN: LEN 27:16, I_ERR 15:0 in two's complement

  abbrev pub width : ℕ
  width = field (word registers WID_HEIGHT) 27 16

  abbrev pub height : ℕ
  height = field (word registers WID_HEIGHT) 11 0

  abbrev pub vector_length : ℕ
  vector_length = field (word registers VEC_LEN) 27 16

  abbrev pub initial_field : ℕ
  initial_field = field (word registers VEC_LEN) 15 0

  -- ---- GP_CH3_OFFSET, 60h: YLSBS 31:29, XLSBS 28:26

  abbrev pub channel3_row : ℕ
  channel3_row = field (word registers CH3_OFFSET) 31 29

  abbrev pub channel3_column : ℕ
  channel3_column = field (word registers CH3_OFFSET) 28 26

  -- ---- GP_CH3_MODE_STR, 64h: EN 31, PS 30 (1 is the source pipeline), BPP/FMT 27:24, RO 23, BGR 22, PM 21, PL 20, PE 19, HS 18

  abbrev pub channel3_enable : Bool
  channel3_enable = set? (word registers CH3_MODE_STR) 31

  abbrev pub channel3_to_source : Bool
  channel3_to_source = set? (word registers CH3_MODE_STR) 30

  abbrev pub channel3_format : ℕ
  channel3_format = field (word registers CH3_MODE_STR) 27 24

  abbrev pub channel3_rotation : Bool
  channel3_rotation = set? (word registers CH3_MODE_STR) 23

  abbrev pub channel3_bgr : Bool
  channel3_bgr = set? (word registers CH3_MODE_STR) 22

  abbrev pub channel3_pattern_mode : Bool
  channel3_pattern_mode = set? (word registers CH3_MODE_STR) 21

  abbrev pub channel3_preserve : Bool
  channel3_preserve = set? (word registers CH3_MODE_STR) 20

  abbrev pub channel3_prefetch : Bool
  channel3_prefetch = set? (word registers CH3_MODE_STR) 19

  abbrev pub channel3_host : Bool
  channel3_host = set? (word registers CH3_MODE_STR) 18

  -- ---- GP_BASE_OFFSET, 4Ch: DBASE 31:22, SBASE 21:12, CH3BASE 11:2, each in steps of a granule. (Nothing reads frame memory through
  -- channel 3, so its base is not used)

  abbrev pub destination_base : ℕ
  destination_base = field (word registers BASE_OFFSET) 31 22 * granule

  abbrev pub source_base : ℕ
  source_base = field (word registers BASE_OFFSET) 21 12 * granule

  -- W6: "each base is added to its own channel's offset". "Positions are .. never reduced" (document 01), so nothing wraps
  abbrev pub destination_address : ℕ
  destination_address = destination_base + destination_offset

  abbrev pub source_address : ℕ
  source_address = source_base + source_offset

  -- ---- GP_BLT_MODE, 40h: X 9, Y 8 (1 is negative), SM 7:6, SR 1:0

  abbrev pub x_negative : Bool
  x_negative = set? (word registers BLT_MODE) 9

  abbrev pub y_negative : Bool
  y_negative = set? (word registers BLT_MODE) 8

  abbrev pub source_mode : ℕ
  source_mode = field (word registers BLT_MODE) 7 6

  abbrev pub source_select : ℕ
  source_select = field (word registers BLT_MODE) 1 0

  -- ---- GP_VECTOR_MODE, 3Ch: DN 2 and DJ 1 (1 is positive), YJ 0

  abbrev pub minor_positive : Bool
  minor_positive = set? (word registers VECTOR_MODE) 2

  abbrev pub major_positive : Bool
  major_positive = set? (word registers VECTOR_MODE) 1

  abbrev pub y_major : Bool
  y_major = set? (word registers VECTOR_MODE) 0

-- The marked shop cases of document 01, shown from the definitions in one table, with further cases that pin the definitions
-- where the marked ones leave room, and with the words of a released display driver.
use Rattle.std.specs.Prelude.{ℕ, zero, suc, ◌+◌, ◌-◌, ◌*◌, ◌/◌, ◌%◌, ◌^◌, ◌≡◌, Bool, true, false, List, [], ◌∷◌, ◌++◌, map, length, replicate, get_or, drop, Option, None}
use Rattle.model.specs.Bounds.{inside}
use Rattle.model.specs.Choice.{◌≤?◌}
use Rattle.model.specs.Refusals.{first}
use Rattle.model.specs.Registers.{register_count, RASTER_MODE, DST_OFFSET, SRC_OFFSET, STRIDE, WID_HEIGHT, SRC_COLOR_FG, SRC_COLOR_BG, PAT_COLOR_0, PAT_COLOR_1, PAT_DATA_0, PAT_DATA_1, CH3_OFFSET, CH3_MODE_STR, CH3_WIDHI, BASE_OFFSET, BLT_MODE, VECTOR_MODE, LUT_INDEX, VEC_ERR, VEC_LEN}
use Rattle.model.specs.Rectangle.{rectangle_extent}
use Rattle.model.specs.Ring.{waiting, room, position_rules}
use Rattle.model.specs.Raster.{raster}
use Rattle.model.specs.Pattern.{pattern_bit, pattern_index}
use Rattle.model.specs.BltPixel.{blt_of}
use Rattle.model.specs.VectorPixel.{vector_of, vector_extent, vector_byte}
use Rattle.model.specs.Command.{returns, kind_of, command_length, header_rules, whole_words}
use Rattle.model.specs.Judging.{judge}
use Rattle.model.specs.Calls.{number_of, units_of, unfit, fresh_state, setup, publish, restart, ask_room, run, run_frame}
use Rattle.model.specs.CaseSetup.{◌but◌is◌, zeros, ring_of, no_table, engine_with, engine_at, engine, answer, placed, tile_table, row, copy, line}
pub use Rattle.model.specs.CaseSetup.{size}
use Rattle.model.specs.HostCases.{HostSources, HostJudged, DataCommands, DataRefused, HostPlaces}
use Rattle.model.specs.BaseCases.{Bases}
use Rattle.model.specs.declared.State.{State}
use Rattle.model.specs.declared.Answer.{Answer}
use Rattle.model.specs.declared.Extent.{Extent}
use Rattle.model.specs.declared.Primitive.TheVariants.{Blt, Vector}
use Rattle.model.specs.declared.Place.TheVariants.{Idle, Drawing}
use Rattle.model.specs.declared.RunWord.TheVariants.{Stopped, Waiting, Spent}
use Rattle.model.specs.declared.Reply.TheVariants.{Refused, Accepted, Ran}

-- ---- how the cases are set up

-- a run of at most 9 units, all registers 0 and 16 bytes of frame memory
abbrev pub ran : List ℕ → (read write : ℕ) → Answer
ran ring read write = run ring (engine zeros 16 read write Idle) (replicate 16 0) 9

-- frame memory once a BLT with these registers is drawn, pixel by pixel, with this table or with one that is all 0
abbrev pub drawn_with : (table registers frame : List ℕ) → List ℕ
drawn_with table registers frame = run_frame (ring_of []) (engine_with table registers (length frame) 0 0 0 0 (Drawing Blt 0)) frame 99

abbrev pub drawn : (registers frame : List ℕ) → List ℕ
drawn = drawn_with no_table

-- a command with this header is whole; the number that its header gets
abbrev pub whole : (read write header : ℕ) → Bool
whole read write header = whole_words size read (command_length (kind_of header) 0) (returns header) ≤? waiting size read write

abbrev pub header_number : (read header : ℕ) → ℕ
header_number read header = first (header_rules false size read header 0)

-- where pixels 0 to 5 of a vector lie in rows of 100 bytes
abbrev pub first_six : (dst err len mode : ℕ) → List (ℕ × ℕ)
first_six dst err len mode =
    let v = vector_of (line but DST_OFFSET is dst but VEC_ERR is err but STRIDE is 100 but VEC_LEN is len but VECTOR_MODE is mode) in
    map (λ k. (vector_byte v k % 100, vector_byte v k / 100)) (0 ∷ 1 ∷ 2 ∷ 3 ∷ 4 ∷ 5 ∷ [])

-- the bits that eight pixels to the right get of pattern row A5h, from X low bits x
abbrev pub row_a5 : ℕ → List ℕ
row_a5 x = map (λ i. pattern_bit 0xA5 0 0 (pattern_index false x i)) (0 ∷ 1 ∷ 2 ∷ 3 ∷ 4 ∷ 5 ∷ 6 ∷ 7 ∷ [])

-- ---- the marked cases

pub record Cases : Type 0 where
  -- "Code 5Ah, P FFh, D F0h: 0Fh. Code 66h, S 3Ch, D 0Fh: 33h. CCh gives S, F0h gives P, AAh gives D."
  pub code_5_a : (s : ℕ) → raster 8 0x5A 0xFF s 0xF0 ≡ 0x0F
  pub code_66 : (p : ℕ) → raster 8 0x66 p 0x3C 0x0F ≡ 0x33
  pub code_CC : (bits p s d : ℕ) → raster bits 0xCC p s d ≡ s % 2 ^ bits
  pub code_F0 : (bits p s d : ℕ) → raster bits 0xF0 p s d ≡ p % 2 ^ bits
  pub code_AA : (bits p s d : ℕ) → raster bits 0xAA p s d ≡ d % 2 ^ bits
  -- "Bytes 1 2 3 4 5, width 4, copy 0 to 1 with X positive: 1 1 1 1 1. X negative, source 3, destination 4: 1 1 2 3 4."
  pub copy_right : drawn (copy 0 1 0x001) (1 ∷ 2 ∷ 3 ∷ 4 ∷ 5 ∷ []) ≡ 1 ∷ 1 ∷ 1 ∷ 1 ∷ 1 ∷ []
  pub copy_left : drawn (copy 3 4 0x201) (1 ∷ 2 ∷ 3 ∷ 4 ∷ 5 ∷ []) ≡ 1 ∷ 1 ∷ 2 ∷ 3 ∷ 4 ∷ []
  -- "Terms 4, -6, initial -1, length 6, X major, both signs positive: (0,0) (1,0) (2,1) (3,1) (4,2) (5,2)."
  pub vector_six : first_six 0 0x0004FFFA 0x0006FFFF 6 ≡ (0, 0) ∷ (1, 0) ∷ (2, 1) ∷ (3, 1) ∷ (4, 2) ∷ (5, 2) ∷ []
  -- "Pattern row A5h: X low bits 0 sets columns 0 2 5 7; low bits 3 sets 2 4 5 7."
  pub row_A5_from_0 : row_a5 0 ≡ 1 ∷ 0 ∷ 1 ∷ 0 ∷ 0 ∷ 1 ∷ 0 ∷ 1 ∷ []
  pub row_A5_from_3 : row_a5 3 ≡ 0 ∷ 0 ∷ 1 ∷ 0 ∷ 1 ∷ 1 ∷ 0 ∷ 1 ∷ []
  -- "Ring of 64. Empty: room 63. Read 0, write 63: room 0; publishing 0 is refused by 6." At 1,024: room 1,023; write 1023
  pub ring_empty : room size 0 0 ≡ size - 1
  pub ring_full : room size 0 (size - 1) ≡ 0
  pub ring_full_publish : first (position_rules size 0 (size - 1) 0) ≡ 6
  -- "Read 50, BLT, write 3: 17 waiting, whole. Same with W: 22." At 1,024: read 1010
  pub across_waiting : waiting size (size - 14) 3 ≡ 17
  pub across_whole : whole (size - 14) 3 0x00000000 ≡ true
  pub across_return : header_number (size - 14) 0x80000000 ≡ 22
  pub across_return_run : (ran (ring_of [] but size - 14 is 0x80000000) (size - 14) 3).reply ≡ Ran Stopped 1 (size - 18)
  -- "Read 40, BLT with W, write 57: waiting; write 0: done, read 0." At 1,024: read 1000, write 1017
  pub return_waits : (ran (ring_of [] but size - 24 is 0x80000000) (size - 24) (size - 7)).reply ≡ Ran Waiting 0 (size - 18)
  pub return_done : (ran (ring_of [] but size - 24 is 0x80000000) (size - 24) 0).reply ≡ Ran Waiting 1 (size - 1)
  pub return_read : (ran (ring_of [] but size - 24 is 0x80000000) (size - 24) 0).state.core.read ≡ 0

-- ---- further cases

-- the numbers that judge the row, with each of these values in a register, in 16 bytes of frame memory
abbrev pub row_with : ℕ → List ℕ → List ℕ
row_with register values = map (λ value. judge Blt (row but register is value) 16) values

-- those that judge the line in 8 bytes
abbrev pub line_with : ℕ → List ℕ → List ℕ
line_with register values = map (λ value. judge Vector (line but register is value) 8) values

-- 3 by 2 pixels by code F0h, both strides 16. RASTER_MODE 600000F0h has two bytes a pixel, 800000F0h four; BLT_MODE 0 is right and
-- down, 200h left, 100h up
abbrev pub block : (raster src dst mode : ℕ) → List ℕ
block raster src dst mode =
    copy src dst mode but RASTER_MODE is raster but STRIDE is 0x00100010 but WID_HEIGHT is 0x00030002

-- the number that judges them in so many bytes of frame memory, and their extent
abbrev pub bounds_of : (raster offset mode framelength : ℕ) → ℕ × Option Extent
bounds_of raster offset mode framelength =
    let blt = block raster 0 offset mode in
    (judge Blt blt framelength, rectangle_extent framelength (blt_of blt).destination)

abbrev pub bounds : (offset mode framelength : ℕ) → ℕ × Option Extent
bounds = bounds_of 0x600000F0

-- the same of a vector with terms 1 and -3, initial -2, length 4, X positive, Y negative
abbrev pub vector_bounds : ℕ → ℕ × Option Extent
vector_bounds framelength =
    let v = line but DST_OFFSET is 4 but VEC_ERR is 0x0001FFFD but VEC_LEN is 0x0004FFFE but VECTOR_MODE is 2 in
    (judge Vector v framelength, vector_extent framelength (vector_of v))

-- where pixels lie: 27 and 28
pub record Extremes : Type 0 where
  -- "Frame of 16 bytes, 8 bpp, one row of 4: offset 12 drawn, 13 refused by 27." (not marked); an offset is bits 23:0
  pub row_fits : row_with DST_OFFSET (12 ∷ 13 ∷ 0xFF00000C ∷ []) ≡ 0 ∷ 27 ∷ 0 ∷ []
  -- the four directions: frame memory that just holds the pixels, one byte less, and below byte 0
  pub right_down : map (bounds 40 0x000) (62 ∷ 61 ∷ []) ≡ (0, inside 40 61) ∷ (27, None) ∷ []
  pub left_down : map (bounds 40 0x200) (57 ∷ 56 ∷ []) ≡ (0, inside 35 56) ∷ (27, None) ∷ []
  pub right_up : bounds 15 0x100 62 ∷ map (bounds 40 0x100) (46 ∷ 45 ∷ []) ≡ (27, None) ∷ (0, inside 24 45) ∷ (27, None) ∷ []
  pub left_up : bounds 20 0x300 62 ∷ map (bounds 21 0x300) (22 ∷ 21 ∷ []) ≡ (27, None) ∷ (0, inside 0 21) ∷ (27, None) ∷ []
  -- 28 only where the source is selected, 27 before it
  pub source_bounds :
      map (λ b. judge Blt b 16) (copy 13 0 1 ∷ copy 13 0 0 ∷ copy 13 13 1 ∷ copy 0xFF00000C 0 1 ∷ []) ≡ 28 ∷ 0 ∷ 27 ∷ 0 ∷ []
  -- of a vector at bytes 4 5 6 5 an inner pixel is the highest; one pixel alone takes no step
  pub inner_extreme : map vector_bounds (7 ∷ 6 ∷ []) ≡ (0, inside 4 6) ∷ (27, None) ∷ []
  pub one_pixel : judge Vector (line but DST_OFFSET is 7 but VECTOR_MODE is 6) 8 ≡ 0

-- 23 to 26
pub record Judged : Type 0 where
  -- 23: codes 0001 and 0111, alpha
  pub formats_refused : row_with RASTER_MODE (0x100000F0 ∷ 0x700000F0 ∷ 0x004000F0 ∷ 0x008000F0 ∷ []) ≡ replicate 4 23
  -- 24: each bit and mode of RASTER_MODE but the colour pattern, SM 11 and SR 11 of BLT_MODE, channel 3; 25; and bits that refuse
  -- nothing
  pub modes_refused : row_with RASTER_MODE (0x20F0 ∷ 0x10F0 ∷ 0x08F0 ∷ 0x03F0 ∷ 0x02F0 ∷ []) ≡ replicate 4 24 ++ (0 ∷ [])
  pub sources_refused : row_with BLT_MODE (0x40 ∷ 0x80 ∷ 0xC0 ∷ 0x02 ∷ 0x03 ∷ []) ≡ 0 ∷ 0 ∷ 24 ∷ 0 ∷ 24 ∷ []
  pub channel_3_refused : row_with CH3_MODE_STR (0x80000000 ∷ 0x7FFFFFFF ∷ []) ≡ 24 ∷ 0 ∷ []
  pub sizes_refused : row_with WID_HEIGHT (0xF000F001 ∷ 0xF004F000 ∷ 0xF004F001 ∷ []) ≡ 25 ∷ 25 ∷ 0 ∷ []
  pub no_effect :
      map (λ r. judge Blt (copy 0 0 0xC04 but RASTER_MODE is r) 16) (0x1F0 ∷ 0x5F0 ∷ 0x4F0 ∷ 0x0F3FC0F0 ∷ []) ≡ replicate 4 0
  -- vectors: 24 as for a BLT and for a pattern that isn't solid, nothing by BLT_MODE; 25 before 26; 26 for either term
  pub vectors_refused : line_with RASTER_MODE (0x20F0 ∷ 0x10F0 ∷ 0x08F0 ∷ 0x01F0 ∷ 0x02F0 ∷ 0x03F0 ∷ []) ≡ replicate 6 24
  pub vector_blt_mode : line_with BLT_MODE (0x01 ∷ 0xC3 ∷ []) ≡ 0 ∷ 0 ∷ []
  pub vector_length_holds : judge Vector (line but VEC_ERR is 0xFFFF0000 but VEC_LEN is 0xF000FFFF) 8 ≡ 25
  pub vector_terms : line_with VEC_ERR (0xFFFF0000 ∷ 0x80000000 ∷ 0x00000001 ∷ 0x7FFF8000 ∷ []) ≡ 26 ∷ 26 ∷ 26 ∷ 0 ∷ []

-- a BLT's words after the header
abbrev pub numbers : List ℕ
numbers = 1 ∷ 2 ∷ 3 ∷ 4 ∷ 5 ∷ 6 ∷ 7 ∷ 8 ∷ 9 ∷ 10 ∷ 11 ∷ 12 ∷ 13 ∷ 14 ∷ 15 ∷ 16 ∷ []

-- headers and words
pub record Commands : Type 0 where
  -- reserved bits of each kind; S has no effect; W that ends exactly at the ring's end, and at word 0
  pub headers_refused :
      map (header_number 10) (0x00010000 ∷ 0x08000000 ∷ 0x20002000 ∷ 0x28000000 ∷ 0x40000004 ∷ 0x48000000 ∷ 0x60000002 ∷ 0x68000000 ∷ [])
      ≡ replicate 8 21
  pub headers_taken : map (header_number 10) (0x1000FFFF ∷ 0x30001FFF ∷ 0x80000000 ∷ 0xA0000000 ∷ []) ≡ replicate 4 0
  pub returns_at_end : map (λ read. header_number read 0x80000000) ((size - 17) ∷ (size - 16) ∷ 0 ∷ []) ≡ 0 ∷ 22 ∷ 22 ∷ []
  -- a bad header stops as soon as it waits, a good one waits for its words
  pub header_alone : (ran (ring_of (0x60000002 ∷ [])) 0 1).reply ≡ Ran Stopped 1 (size - 2)
  pub part_waits : (ran (ring_of []) 0 16).reply ≡ Ran Waiting 0 (size - 17)
  -- a command that only loads is one unit, and is retired by it; a vector has 14 words
  pub only_loads :
      ran (ring_of (0x20000001 ∷ 0xAB ∷ [])) 0 14
      ≡ answer (engine_at (zeros but RASTER_MODE is 0xAB) 16 14 14 1 0 Idle) (Ran Waiting 1 (size - 1))
  -- a BLT's words in order, all but the last enabled; every other one enabled; across the ring's end, and read after it
  pub blt_words : (ran (ring_of (0x7FFF ∷ numbers)) 0 17).state.core.registers ≡ numbers ++ (0 ∷ 0 ∷ []) but BLT_MODE is 0
  pub skipped_words :
      (ran (ring_of (0x2AAA ∷ numbers)) 0 17).state.core.registers
      ≡ 0 ∷ 2 ∷ 0 ∷ 4 ∷ 0 ∷ 6 ∷ 0 ∷ 8 ∷ 0 ∷ 10 ∷ 0 ∷ 12 ∷ 0 ∷ 14 ∷ 0 ∷ 0 ∷ 0 ∷ 0 ∷ []
  pub across_loads :
      (ran (ring_of (0x12 ∷ 0x34 ∷ []) but size - 14 is 0x6000) (size - 14) 3).state
      ≡ engine_at (zeros but CH3_WIDHI is 0x12 but BASE_OFFSET is 0x34) 16 3 3 1 0 Idle
  -- a refused command loads nothing
  pub refused_loads_nothing : (ran (ring_of (0x8001 ∷ 0x100000AB ∷ [])) 0 17).state ≡ engine_at zeros 16 0 17 0 23 Idle

-- a state with a pointer that is not below the ring size
abbrev pub unfit_state : State
unfit_state = engine zeros 16 size 0 Idle

-- the calls, and row 3
pub record Calls : Type 0 where
  -- "After setup all registers, pointers and the completion number are zero"; refused by 1 or 2, "a state of all zeros"
  pub setup_fresh : setup size 16 ≡ answer (engine zeros 16 0 0 Idle) (Accepted (size - 1))
  pub setup_refused : setup (size - 1) 16 ≡ answer (fresh_state 0 0) (Refused 1)
  pub setup_rings : map (λ n. number_of (setup n 16).reply) (1_023 ∷ 1_024 ∷ 262_144 ∷ 262_145 ∷ []) ≡ 1 ∷ 0 ∷ 0 ∷ 1 ∷ []
  pub setup_frames : map (λ n. number_of (setup size n).reply) (0 ∷ 1 ∷ 67_108_864 ∷ 67_108_865 ∷ []) ≡ 2 ∷ 0 ∷ 0 ∷ 2 ∷ []
  -- "The same position again does nothing."; one between the pointers is 6; asking for room
  pub publish_again : publish (engine zeros 16 3 9 Idle) 9 ≡ answer (engine zeros 16 3 9 Idle) (Accepted (size - 7))
  pub publish_refused : publish (engine zeros 16 3 9 Idle) 8 ≡ answer (engine zeros 16 3 9 Idle) (Refused 6)
  pub room_asked : ask_room (engine zeros 16 3 9 Idle) ≡ answer (engine zeros 16 3 9 Idle) (Accepted (size - 7))
  -- "Restart clears the stop number and moves read to write; all else stays."; 7 where nothing is stopped
  pub restart_moves : restart (engine_at row 16 5 9 7 27 Idle) ≡ answer (engine_at row 16 9 9 7 0 Idle) (Accepted (size - 1))
  pub restart_refused : restart (engine_at row 16 5 9 7 0 Idle) ≡ answer (engine_at row 16 5 9 7 0 Idle) (Refused 7)
  -- 4: a lent ring or frame of another length
  pub ring_lent : (run (ring_of [] ++ (0 ∷ [])) (engine zeros 16 0 0 Idle) (replicate 16 0) 9).reply ≡ Refused 4
  pub frame_lent : (run (ring_of []) (engine zeros 16 0 0 Idle) (replicate 15 0) 9).reply ≡ Refused 4
  -- 3 in each call; pointers, stops, a stop with a command in progress, places past the last pixel, registers that are refused
  pub unfit_refused :
      publish unfit_state 0 ∷ run (ring_of []) unfit_state (replicate 16 0) 9 ∷ restart unfit_state ∷ ask_room unfit_state ∷ []
      ≡ replicate 4 (answer unfit_state (Refused 3))
  pub pointers : map unfit (engine zeros 16 (size - 1) (size - 1) Idle ∷ engine zeros 16 0 size Idle ∷ []) ≡ false ∷ true ∷ []
  pub stops : map (λ n. unfit (engine_at zeros 16 0 0 0 n Idle)) (0 ∷ 20 ∷ 21 ∷ 32 ∷ 33 ∷ []) ≡ false ∷ true ∷ false ∷ false ∷ true ∷ []
  pub stop_drawing : unfit (engine_at row 16 0 0 0 27 (Drawing Blt 0)) ≡ true
  pub places : map (λ k. unfit (engine row 16 0 0 (Drawing Blt k))) (0 ∷ 3 ∷ 4 ∷ []) ≡ false ∷ false ∷ true ∷ []
  pub judged_place : unfit (engine zeros 16 0 0 (Drawing Vector 0)) ≡ true

-- eight pixels of pattern row A5h, clear 2 and set 3: RASTER_MODE 1F0h, or 5F0h with transparency; 4F0h is a solid pattern
abbrev pub mono : ℕ → List ℕ
mono raster =
    zeros but RASTER_MODE is raster but WID_HEIGHT is 0x00080001 but PAT_COLOR_0 is 2 but PAT_COLOR_1 is 3 but PAT_DATA_0 is 0xA5

-- the bits that 3 by 2 pixels get from Y low bits 7 and X low bits 6 of a pattern with columns 0 5 7 of row 0, 4 6 7 of row 6
-- and 5 6 of row 7
abbrev pub patterned : (offset mode : ℕ) → List ℕ
patterned offset mode =
    drawn
    (zeros but RASTER_MODE is 0x1F0 but DST_OFFSET is 0xFB000000 + offset but STRIDE is 3 but WID_HEIGHT is 0x00030002
    but PAT_COLOR_1 is 1 but PAT_DATA_0 is 0x00000085 but PAT_DATA_1 is 0x060B0000 but BLT_MODE is mode)
    (replicate 6 9)

-- the pixels of BLTs
pub record Pixels : Type 0 where
  -- "With no source selected the source value is SRC_COLOR_FG."
  pub foreground : drawn (copy 0 0 0 but SRC_COLOR_FG is 7) (replicate 5 1) ≡ 7 ∷ 7 ∷ 7 ∷ 7 ∷ 1 ∷ []
  -- "Source pixels go the same way with their own offset and stride": 2 by 2, source stride 3, destination stride 2
  pub own_stride :
      drawn (copy 0 4 0x001 but STRIDE is 0x00030002 but WID_HEIGHT is 0x00020002) (1 ∷ 2 ∷ 3 ∷ 4 ∷ 5 ∷ 6 ∷ 7 ∷ 8 ∷ [])
      ≡ 1 ∷ 2 ∷ 3 ∷ 4 ∷ 1 ∷ 2 ∷ 4 ∷ 1 ∷ []
  -- two bytes a pixel, 2 pixels copied one byte on with X negative; four bytes a pixel, one pixel at byte 1 by code 5Ah
  pub two_bytes :
      drawn (copy 3 4 0x201 but RASTER_MODE is 0x600000CC but WID_HEIGHT is 0x00020001) (1 ∷ 2 ∷ 3 ∷ 4 ∷ 5 ∷ []) ≡ 1 ∷ 1 ∷ 2 ∷ 3 ∷ 4 ∷ []
  pub four_bytes :
      drawn (copy 0 1 0x000 but RASTER_MODE is 0x8000005A but WID_HEIGHT is 0x00010001 but PAT_COLOR_0 is 0x01020304) (replicate 6 5)
      ≡ 5 ∷ 1 ∷ 6 ∷ 7 ∷ 4 ∷ 5 ∷ []
  -- "Set gives PAT_COLOR_1, clear PAT_COLOR_0; with pattern transparency a clear bit writes nothing, yet costs its unit."
  pub mono_colours : drawn (mono 0x1F0) (replicate 8 9) ≡ 3 ∷ 2 ∷ 3 ∷ 2 ∷ 2 ∷ 3 ∷ 2 ∷ 3 ∷ []
  pub mono_transparent : drawn (mono 0x5F0) (replicate 8 9) ≡ 3 ∷ 9 ∷ 3 ∷ 9 ∷ 9 ∷ 3 ∷ 9 ∷ 3 ∷ []
  pub mono_units : (run (ring_of []) (engine (mono 0x5F0) 8 0 0 (Drawing Blt 0)) (replicate 8 9) 99).reply ≡ Ran Waiting 8 (size - 1)
  -- "Transparency on a solid pattern .. [has] no effect"
  pub solid_transparent : drawn (mono 0x4F0) (replicate 8 9) ≡ replicate 8 2
  -- "row and column are the offset register's Y and X low bits plus the signed steps from the first pixel"
  pub pattern_right_down : patterned 0 0x000 ≡ 1 ∷ 0 ∷ 0 ∷ 0 ∷ 1 ∷ 1 ∷ []
  pub pattern_left_down : patterned 2 0x200 ≡ 0 ∷ 1 ∷ 1 ∷ 0 ∷ 1 ∷ 0 ∷ []
  pub pattern_right_up : patterned 3 0x100 ≡ 1 ∷ 1 ∷ 0 ∷ 1 ∷ 0 ∷ 0 ∷ []
  pub pattern_left_up : patterned 5 0x300 ≡ 1 ∷ 0 ∷ 1 ∷ 0 ∷ 1 ∷ 1 ∷ []

-- bytes 1 to n
abbrev pub up_to : ℕ → List ℕ
up_to zero = []
up_to (suc n) = up_to n ++ (suc n ∷ [])

-- 2 by 2 pixels of so many bytes, copied within two rows of three pixels
abbrev pub shifted : (depth raster src dst mode : ℕ) → List ℕ
shifted depth raster src dst mode =
    drawn (copy src dst mode but RASTER_MODE is raster but STRIDE is 3 * depth * 0x00010001 but WID_HEIGHT is 0x00020002) (up_to (6 * depth))

-- what judges the block at each of these offsets in 32 bytes of frame memory: as a destination, and as a source
abbrev pub drawn_from : (raster mode : ℕ) → List ℕ → List (ℕ × Option Extent)
drawn_from raster mode offsets = map (λ offset. bounds_of raster offset mode 32) offsets

abbrev pub read_from : (raster mode dst : ℕ) → List ℕ → List ℕ
read_from raster mode dst offsets = map (λ offset. judge Blt (block raster offset dst mode) 32) offsets

-- X negative: the offset names the last byte of the first pixel (W2)
pub record NegativeX : Type 0 where
  -- copies one pixel to the right, down and up: nothing is shifted by a byte, and nothing smears
  pub shifted_16 :
      shifted 2 0x600000CC 3 5 0x201 ∷ shifted 2 0x600000CC 9 11 0x301 ∷ []
      ≡ replicate 2 (1 ∷ 2 ∷ 1 ∷ 2 ∷ 3 ∷ 4 ∷ 7 ∷ 8 ∷ 7 ∷ 8 ∷ 9 ∷ 10 ∷ [])
  pub shifted_32 :
      shifted 4 0x800000CC 7 11 0x201 ∷ shifted 4 0x800000CC 19 23 0x301 ∷ []
      ≡ replicate 2 ((1 ∷ 2 ∷ 3 ∷ 4 ∷ 1 ∷ 2 ∷ 3 ∷ 4 ∷ 5 ∷ 6 ∷ 7 ∷ 8 ∷ []) ++ (13 ∷ 14 ∷ 15 ∷ 16 ∷ 13 ∷ 14 ∷ 15 ∷ 16 ∷ 17 ∷ 18 ∷ 19 ∷ 20 ∷ []))
  -- 27: the first byte of frame memory just missed and just met, the last byte just met and just missed, down and up
  pub drawn_16 :
      drawn_from 0x600000F0 0x200 (4 ∷ 5 ∷ 15 ∷ 16 ∷ []) ∷ drawn_from 0x600000F0 0x300 (20 ∷ 21 ∷ 31 ∷ 32 ∷ []) ∷ []
      ≡ replicate 2 ((27, None) ∷ (0, inside 0 21) ∷ (0, inside 10 31) ∷ (27, None) ∷ [])
  pub drawn_32 :
      drawn_from 0x800000F0 0x200 (10 ∷ 11 ∷ 15 ∷ 16 ∷ []) ∷ drawn_from 0x800000F0 0x300 (26 ∷ 27 ∷ 31 ∷ 32 ∷ []) ∷ []
      ≡ replicate 2 ((27, None) ∷ (0, inside 0 27) ∷ (0, inside 4 31) ∷ (27, None) ∷ [])
  -- 28: the same of a source
  pub read_16 :
      read_from 0x600000F0 0x201 15 (4 ∷ 5 ∷ 15 ∷ 16 ∷ []) ∷ read_from 0x600000F0 0x301 31 (20 ∷ 21 ∷ 31 ∷ 32 ∷ []) ∷ []
      ≡ replicate 2 (28 ∷ 0 ∷ 0 ∷ 28 ∷ [])
  pub read_32 :
      read_from 0x800000F0 0x201 15 (10 ∷ 11 ∷ 15 ∷ 16 ∷ []) ∷ read_from 0x800000F0 0x301 31 (26 ∷ 27 ∷ 31 ∷ 32 ∷ []) ∷ []
      ≡ replicate 2 (28 ∷ 0 ∷ 0 ∷ 28 ∷ [])
  -- one pixel of four bytes in 8: an offset below bytes a pixel - 1, and the last that fits; of one byte, a row of 4 in 16
  pub one_wide :
      map (λ offset. judge Blt (copy 0 offset 0x200 but RASTER_MODE is 0x800000F0 but WID_HEIGHT is 0x00010001) 8) (0 ∷ 2 ∷ 3 ∷ 7 ∷ 8 ∷ [])
      ≡ 27 ∷ 27 ∷ 0 ∷ 0 ∷ 27 ∷ []
  pub bytes_left : map (λ offset. judge Blt (copy 0 offset 0x200) 16) (2 ∷ 3 ∷ 15 ∷ 16 ∷ []) ≡ 27 ∷ 0 ∷ 0 ∷ 27 ∷ []
  -- and so row 3 refuses such a BLT in progress
  pub left_in_progress :
      map (λ offset. unfit (engine (block 0x800000F0 0 offset 0x200) 32 0 0 (Drawing Blt 5))) (10 ∷ 11 ∷ 15 ∷ 16 ∷ [])
      ≡ true ∷ false ∷ false ∷ true ∷ []
  -- with no source selected; and under a mono pattern, whose columns are counted from the first pixel as before
  pub fill_left :
      drawn (copy 0 4 0x200 but RASTER_MODE is 0x800000F0 but WID_HEIGHT is 0x00010001 but PAT_COLOR_0 is 0x01020304) (replicate 6 9)
      ≡ 9 ∷ 4 ∷ 3 ∷ 2 ∷ 1 ∷ 9 ∷ []
  pub pattern_left :
      drawn (mono 0x600001F0 but DST_OFFSET is 15 but BLT_MODE is 0x200) (replicate 16 9)
      ≡ 2 ∷ 0 ∷ 3 ∷ 0 ∷ 2 ∷ 0 ∷ 2 ∷ 0 ∷ 3 ∷ 0 ∷ 2 ∷ 0 ∷ 3 ∷ 0 ∷ 3 ∷ 0 ∷ []
  -- a vector that goes back, X negative left in BLT_MODE: its offset is still a first byte. One pixel of four bytes in 8
  pub vectors_stay :
      map (λ offset. judge Vector (line but RASTER_MODE is 0x800000F0 but DST_OFFSET is offset but BLT_MODE is 0x200) 8) (0 ∷ 4 ∷ 5 ∷ [])
      ≡ 0 ∷ 0 ∷ 27 ∷ []

-- pixels of one byte, 3 for a set bit and 2 for a clear one, expanded into rows of 9 bytes from byte 8 on. The bits begin at byte
-- 0, XLSBS `skip`, source stride 4; BLT_MODE 41h is unpacked, 81h byte-packed mono from frame memory
abbrev pub text : (raster mode skip size : ℕ) → List ℕ
text raster mode skip size =
    zeros but RASTER_MODE is raster but DST_OFFSET is 8 but SRC_OFFSET is skip * 2 ^ 26 but STRIDE is 0x00040009 but WID_HEIGHT is size
    but SRC_COLOR_FG is 3 but SRC_COLOR_BG is 2 but BLT_MODE is mode

-- 8 by 2 of them with XLSBS 2, from the layout of 000's Table 6-23 or 6-24: rows A5h and 0Fh, other bits in between
abbrev pub table23 : ℕ → List ℕ
table23 raster = drop 8 (drawn (text raster 0x81 2 0x00080002) (0xE9 ∷ 0x7F ∷ 0xC3 ∷ 0xC0 ∷ replicate 21 9))

abbrev pub table24 : ℕ → List ℕ
table24 raster = drop 8 (drawn (text raster 0x41 2 0x00080002) (0xE9 ∷ 0x7F ∷ 0x3C ∷ 0x3F ∷ 0xC3 ∷ 0xC0 ∷ replicate 19 9))

-- the first two byte-packed rows of so many pixels from bytes A5h 3Ch 96h 0Fh
abbrev pub packed : (skip width : ℕ) → List ℕ
packed skip width =
    drop 8 (drawn (text 0xCC 0x81 skip (width * 2 ^ 16 + 2) but STRIDE is width) (0xA5 ∷ 0x3C ∷ 0x96 ∷ 0x0F ∷ replicate (4 + 2 * width) 9))

-- 9 by 2 pixels with XLSBS 7, two bytes of bits in each row, and the number that judges them in 32 bytes of frame memory
abbrev pub bits_row : (offset mode : ℕ) → List ℕ
bits_row offset mode = text 0xF0 mode 7 0x00090002 but SRC_OFFSET is 0x1C000000 + offset but DST_OFFSET is 9

abbrev pub bits_at : (offset mode : ℕ) → ℕ
bits_at offset mode = judge Blt (bits_row offset mode) 32

-- mono sources (W1)
pub record MonoSources : Type 0 where
  -- 000, Table 6-23 and, with a source stride of 4, Table 6-24: both colours; inverted; transparent; transparent after inversion
  pub table_6_23 :
      map table23 (0xCC ∷ 0x20CC ∷ 0x08CC ∷ 0x28CC ∷ [])
      ≡ (3 ∷ 2 ∷ 3 ∷ 2 ∷ 2 ∷ 3 ∷ 2 ∷ 3 ∷ 9 ∷ 2 ∷ 2 ∷ 2 ∷ 2 ∷ 3 ∷ 3 ∷ 3 ∷ 3 ∷ [])
      ∷ (2 ∷ 3 ∷ 2 ∷ 3 ∷ 3 ∷ 2 ∷ 3 ∷ 2 ∷ 9 ∷ 3 ∷ 3 ∷ 3 ∷ 3 ∷ 2 ∷ 2 ∷ 2 ∷ 2 ∷ [])
      ∷ (3 ∷ 9 ∷ 3 ∷ 9 ∷ 9 ∷ 3 ∷ 9 ∷ 3 ∷ 9 ∷ 9 ∷ 9 ∷ 9 ∷ 9 ∷ 3 ∷ 3 ∷ 3 ∷ 3 ∷ [])
      ∷ (9 ∷ 3 ∷ 9 ∷ 3 ∷ 3 ∷ 9 ∷ 3 ∷ 9 ∷ 9 ∷ 3 ∷ 3 ∷ 3 ∷ 3 ∷ 9 ∷ 9 ∷ 9 ∷ 9 ∷ [])
      ∷ []
  pub table_6_24 : map table24 (0xCC ∷ 0x20CC ∷ 0x08CC ∷ 0x28CC ∷ []) ≡ map table23 (0xCC ∷ 0x20CC ∷ 0x08CC ∷ 0x28CC ∷ [])
  -- widths 1, 7, 8 and 9 at XLSBS 0 and 7
  pub widths_from_0 :
      map (packed 0) (1 ∷ 7 ∷ 8 ∷ 9 ∷ [])
      ≡ (3 ∷ 2 ∷ [])
      ∷ (3 ∷ 2 ∷ 3 ∷ 2 ∷ 2 ∷ 3 ∷ 2 ∷ 2 ∷ 2 ∷ 3 ∷ 3 ∷ 3 ∷ 3 ∷ 2 ∷ [])
      ∷ (3 ∷ 2 ∷ 3 ∷ 2 ∷ 2 ∷ 3 ∷ 2 ∷ 3 ∷ 2 ∷ 2 ∷ 3 ∷ 3 ∷ 3 ∷ 3 ∷ 2 ∷ 2 ∷ [])
      ∷ (3 ∷ 2 ∷ 3 ∷ 2 ∷ 2 ∷ 3 ∷ 2 ∷ 3 ∷ 2 ∷ 3 ∷ 2 ∷ 2 ∷ 3 ∷ 2 ∷ 3 ∷ 3 ∷ 2 ∷ 2 ∷ [])
      ∷ []
  pub widths_from_7 :
      map (packed 7) (1 ∷ 7 ∷ 8 ∷ 9 ∷ [])
      ≡ (3 ∷ 2 ∷ [])
      ∷ (3 ∷ 2 ∷ 2 ∷ 3 ∷ 3 ∷ 3 ∷ 3 ∷ 2 ∷ 2 ∷ 2 ∷ 2 ∷ 2 ∷ 3 ∷ 3 ∷ [])
      ∷ (3 ∷ 2 ∷ 2 ∷ 3 ∷ 3 ∷ 3 ∷ 3 ∷ 2 ∷ 2 ∷ 2 ∷ 2 ∷ 2 ∷ 2 ∷ 3 ∷ 3 ∷ 3 ∷ [])
      ∷ (3 ∷ 2 ∷ 2 ∷ 3 ∷ 3 ∷ 3 ∷ 3 ∷ 2 ∷ 2 ∷ 2 ∷ 2 ∷ 2 ∷ 2 ∷ 2 ∷ 3 ∷ 3 ∷ 3 ∷ 3 ∷ [])
      ∷ []
  -- unpacked rows go back where Y is negative, and are one row where the source stride is 0
  pub rows_back :
      drop 8 (drawn (text 0xCC 0x141 0 0x00030002 but SRC_OFFSET is 4 but DST_OFFSET is 11 but STRIDE is 0x00040003) (0x60 ∷ 9 ∷ 9 ∷ 9 ∷ 0xA0 ∷ replicate 9 9))
      ≡ 2 ∷ 3 ∷ 3 ∷ 3 ∷ 2 ∷ 3 ∷ []
  pub stride_0 :
      drop 8 (drawn (text 0xCC 0x41 0 0x00030002 but STRIDE is 3) (0xA0 ∷ replicate 13 9)) ≡ 3 ∷ 2 ∷ 3 ∷ 3 ∷ 2 ∷ 3 ∷ []
  -- two bytes a pixel; the raster operation is that of any source: code 66h, S xor D
  pub wide_pixels :
      drop 8 (drawn (text 0x60000066 0x41 5 0x00030001 but SRC_COLOR_FG is 0x9900FF01 but SRC_COLOR_BG is 0x0110) (0x05 ∷ replicate 13 1))
      ≡ 0 ∷ 0xFE ∷ 0x11 ∷ 0 ∷ 0 ∷ 0xFE ∷ []
  -- a clear bit writes nothing, whatever the raster code, and costs its unit
  pub by_pattern_holds :
      map (λ raster. drop 8 (drawn (text raster 0x41 0 0x00040001 but PAT_COLOR_0 is 5) (0xA0 ∷ replicate 11 9))) (0x08F0 ∷ 0x085A ∷ [])
      ≡ (5 ∷ 9 ∷ 5 ∷ 9 ∷ []) ∷ (12 ∷ 9 ∷ 12 ∷ 9 ∷ []) ∷ []
  pub transparent_units :
      let s = engine (text 0x08CC 0x41 0 0x00040001) 12 0 0 (Drawing Blt 0) in
      run (ring_of []) s (replicate 12 0) 99 ≡ answer (engine_at s.core.registers 12 0 0 1 0 Idle) (Ran Waiting 4 (size - 1))
  -- a pixel that is transparent by its pattern, row 90h, or by its source, A0h: the first is neither
  pub by_both :
      drop 8 (drawn (text 0x0DCC 0x41 0 0x00040001 but PAT_DATA_0 is 0x90) (0xA0 ∷ replicate 11 9)) ≡ 3 ∷ 9 ∷ 9 ∷ 9 ∷ []
  -- bits are read as memory then stands: the first pixel is written over them
  pub overwritten :
      drawn (text 0xCC 0x41 0 0x00080001 but DST_OFFSET is 0 but SRC_COLOR_FG is 0x0F) (0xF0 ∷ replicate 7 9)
      ≡ 0x0F ∷ 2 ∷ 2 ∷ 2 ∷ 0x0F ∷ 0x0F ∷ 0x0F ∷ 0x0F ∷ []
  -- "with no source selected inversion and transparency do nothing"
  pub unselected : drawn (copy 0 0 0x040 but RASTER_MODE is 0x28CC but SRC_COLOR_FG is 7) (replicate 5 1) ≡ 7 ∷ 7 ∷ 7 ∷ 7 ∷ 1 ∷ []
  -- 24: mono with X negative, byte-packed with Y negative, both only from frame memory; the source bits with colour, selected or
  -- not; pattern inversion always
  pub directions :
      map (λ mode. judge Blt (copy 8 8 mode) 16) (0x041 ∷ 0x081 ∷ 0x141 ∷ 0x241 ∷ 0x281 ∷ 0x181 ∷ 0x240 ∷ 0x380 ∷ [])
      ≡ 0 ∷ 0 ∷ 0 ∷ 24 ∷ 24 ∷ 24 ∷ 0 ∷ 0 ∷ []
  pub source_bits_holds :
      map (λ mode. map (λ raster. judge Blt (copy 0 0 mode but RASTER_MODE is raster) 16) (0x20CC ∷ 0x08CC ∷ 0x10CC ∷ []))
      (0x000 ∷ 0x001 ∷ 0x040 ∷ 0x041 ∷ 0x081 ∷ [])
      ≡ replicate 3 24 ∷ replicate 3 24 ∷ (0 ∷ 0 ∷ 24 ∷ []) ∷ (0 ∷ 0 ∷ 24 ∷ []) ∷ (0 ∷ 0 ∷ 24 ∷ []) ∷ []
  -- 28: the last byte of bits is the last of frame memory, and one beyond, whatever the raster code; bits 25:24 have no effect
  pub bits_unpacked : map (λ offset. bits_at offset 0x41) (26 ∷ 27 ∷ 0x300001A ∷ []) ≡ 0 ∷ 28 ∷ 0 ∷ []
  pub bits_packed : map (λ offset. bits_at offset 0x81) (28 ∷ 29 ∷ []) ≡ 0 ∷ 28 ∷ []
  pub bits_back : map (λ offset. bits_at offset 0x141) (4 ∷ 3 ∷ 30 ∷ 31 ∷ []) ≡ 0 ∷ 28 ∷ 0 ∷ 28 ∷ []
  -- and so row 3 refuses such a BLT in progress
  pub bits_in_progress : map (λ offset. unfit (engine (bits_row offset 0x41) 32 0 0 (Drawing Blt 17))) (26 ∷ 27 ∷ []) ≡ false ∷ true ∷ []

-- a run of a ring that has these words from word `read` on, past its end from word 0, with n words waiting
abbrev pub given : (read n : ℕ) → List ℕ → Answer
given read n words = ran (placed read words (ring_of [])) read ((read + n) % size)

-- its units, completion number and stop number: the command waits, is loaded and retired, or is refused
abbrev pub outcome : Answer → ℕ × ℕ × ℕ
outcome a = (units_of a.reply, a.state.core.completion, a.state.core.stop)

abbrev pub waits : ℕ × ℕ × ℕ
waits = (0, 0, 0)

abbrev pub loads : ℕ × ℕ × ℕ
loads = (1, 1, 0)

abbrev pub refused_by : ℕ → ℕ × ℕ × ℕ
refused_by number = (1, 0, number)

-- three words of a table load, at index 100h unless its header skips that word, and what they leave from this index on
abbrev pub three_words : ℕ → Answer
three_words header = given 0 6 (header ∷ 0x100 ∷ 0x60000003 ∷ 11 ∷ 12 ∷ 13 ∷ [])

abbrev pub three_left : ℕ → Answer
three_left index =
    answer
    (engine_with (no_table but index is 11 but index + 1 is 12 but index + 2 is 13) (zeros but LUT_INDEX is index + 3) 16 6 6 1 0 Idle)
    (Ran Waiting 1 (size - 1))

-- two words at index 511: they go to 511 and to 0
abbrev pub last_and_first : (header index : ℕ) → List ℕ
last_and_first header index = header ∷ index ∷ 0x60000002 ∷ 11 ∷ 12 ∷ []

abbrev pub last_and_first_left : (index read : ℕ) → State
last_and_first_left index read = engine_with (no_table but 511 is 11 but 0 is 12) (zeros but LUT_INDEX is index) 16 read read 1 0 Idle

-- the count words that 29 is for: counts 0, 513 and 65,535, each DTYPE but 011, the lowest and the highest reserved bit
abbrev pub bad_counts : List ℕ
bad_counts =
    0x60000000 ∷ 0x60000201 ∷ 0x6000FFFF
    ∷ 0x00000001 ∷ 0x20000001 ∷ 0x40000001 ∷ 0x80000001 ∷ 0xA0000001 ∷ 0xC0000001 ∷ 0xE0000001
    ∷ 0x60010001 ∷ 0x70000001 ∷ []

-- what comes of loads with these count words at ring word 0, with n words waiting
abbrev pub counted : (header n : ℕ) → List ℕ → List (ℕ × ℕ × ℕ)
counted header n counts = map (λ c. outcome (given 0 n (header ∷ 0 ∷ c ∷ []))) counts

-- of a load of one word with W at ring word `read`
abbrev pub returning : (read n : ℕ) → ℕ × ℕ × ℕ
returning read n = outcome (given read n (0xC0000003 ∷ 0 ∷ 0x60000001 ∷ []))

-- table loads (W4)
pub record TableLoads : Type 0 where
  -- index, count word, data: one unit, which retires the load. Neither header bit 1 nor S has an effect
  pub three_words_holds : map three_words (0x40000003 ∷ 0x40000001 ∷ 0x50000003 ∷ []) ≡ replicate 3 (three_left 0x100)
  -- "Header bit 0 enables the index": the word is present and skipped
  pub index_skipped : map three_words (0x40000002 ∷ 0x40000000 ∷ []) ≡ replicate 2 (three_left 0)
  -- "the index's bits 8:0 rising after each word and returning from 511 to 0"; bits 31:9 as they were
  pub index_returns :
      map (λ index. (given 0 5 (last_and_first 0x40000003 index)).state) (0xABCDE1FF ∷ 0xFFFFFFFF ∷ [])
      ≡ last_and_first_left 0xABCDE001 5 ∷ last_and_first_left 0xFFFFFE01 5 ∷ []
  -- a later load with bit 0 clear goes on there
  pub goes_on :
      (given 0 9 (last_and_first 0x40000003 0xABCDE1FF ++ (0x40000002 ∷ 0x55 ∷ 0x60000001 ∷ 13 ∷ []))).state
      ≡ engine_with (no_table but 511 is 11 but 0 is 12 but 1 is 13) (zeros but LUT_INDEX is 0xABCDE002) 16 9 9 2 0 Idle
  -- after 512 words, the second of which went to 0, the index is back
  pub index_back :
      let s = (given 0 515 (0x40000003 ∷ 0xABCDE1FF ∷ 0x60000200 ∷ 11 ∷ 12 ∷ [])).state in
      get_or s.table 0 0 ∷ get_or s.core.registers LUT_INDEX 0 ∷ [] ≡ 12 ∷ 0xABCDE1FF ∷ []
  -- it waits for the last of its words, and is one unit, whatever the count
  pub all_words :
      map (λ n. map (λ w. outcome (given 0 w (0x40000003 ∷ 0 ∷ (0x60000000 + n) ∷ []))) ((n + 2) ∷ (n + 3) ∷ [])) (1 ∷ 2 ∷ 512 ∷ [])
      ≡ replicate 3 (waits ∷ loads ∷ [])
  -- 29: "a DTYPE other than 011, a reserved bit set in the count word, or a count of 0 or above 512, judged as soon as three words
  -- wait and before 22": with two words and with three, without W and with it at ring word 0
  pub counts_wait : map (λ header. counted header 2 bad_counts) (0x40000003 ∷ 0xC0000003 ∷ []) ≡ replicate 2 (replicate 12 waits)
  pub counts_refused :
      map (λ header. counted header 3 bad_counts) (0x40000003 ∷ 0xC0000003 ∷ []) ≡ replicate 2 (replicate 12 (refused_by 29))
  pub counts_taken : counted 0x40000003 3 (0x60000001 ∷ 0x60000200 ∷ []) ≡ replicate 2 waits
  -- 21 comes first, with one word and with three: header bits 2 and 27, a bad count, and W at ring word 0
  pub header_first :
      map (λ header. counted header 1 (0 ∷ []) ++ counted header 3 (0 ∷ [])) (0x40000004 ∷ 0x48000000 ∷ 0xC0000004 ∷ [])
      ≡ replicate 3 (replicate 2 (refused_by 21))
  -- "22, which for this kind waits for them too": W at ring word 0 and across the ring's end, with two words and with three; a load
  -- of four words that ends at the ring's end is taken. Of the other kinds 22 is judged with the header
  pub returns_wait : map (λ read. returning read 2) (0 ∷ (size - 1) ∷ (size - 3) ∷ []) ≡ replicate 3 waits
  pub returns_refused :
      map (λ read. returning read 3) (0 ∷ (size - 1) ∷ (size - 3) ∷ (size - 4) ∷ []) ≡ replicate 3 (refused_by 22) ++ (waits ∷ [])
  pub other_kinds : map (λ header. outcome (given 0 1 (header ∷ []))) (0x80000000 ∷ 0xA0000000 ∷ []) ≡ replicate 2 (refused_by 22)
  -- with W it waits until the words waiting reach the ring's end, and read is 0 after it
  pub load_returns :
      map (λ n. (given (size - 10) n (last_and_first 0xC0000003 511)).state) (5 ∷ 9 ∷ 10 ∷ [])
      ≡ engine zeros 16 (size - 10) (size - 5) Idle ∷ engine zeros 16 (size - 10) (size - 1) Idle ∷ last_and_first_left 1 0 ∷ []
  -- without W its words may run across the end: after its first, its second or its fourth word
  pub across_end :
      map (λ read. (given read 5 (last_and_first 0x40000003 511)).state) ((size - 1) ∷ (size - 2) ∷ (size - 4) ∷ [])
      ≡ map (last_and_first_left 1) (4 ∷ 3 ∷ 1 ∷ [])
  -- a refused load, by 29 or by 22, leaves table and index register
  pub refused_load :
      map (λ words. (given 0 5 words).state)
      ((0x40000003 ∷ 511 ∷ 0x40000002 ∷ 11 ∷ 12 ∷ []) ∷ last_and_first 0xC0000003 511 ∷ [])
      ≡ engine_at zeros 16 0 5 0 29 Idle ∷ engine_at zeros 16 0 5 0 22 Idle ∷ []
  -- and publishing, a refused BLT and a restart leave the table
  pub table_kept :
      let s = (publish (engine_with tile_table zeros 16 0 0 0 0 Idle) 17).state in
      let t = (run (ring_of (0x8001 ∷ 0x100000AB ∷ [])) s (replicate 16 0) 9).state in
      s ∷ t ∷ (restart t).state ∷ []
      ≡ engine_with tile_table zeros 16 0 17 0 0 Idle
      ∷ engine_with tile_table zeros 16 0 17 0 23 Idle
      ∷ engine_with tile_table zeros 16 17 17 0 0 Idle
      ∷ []

-- a BLT with these registers drawn with that tile
abbrev pub drawn_tile : (registers frame : List ℕ) → List ℕ
drawn_tile = drawn_with tile_table

-- one pixel at each corner of the tile: upper left, upper right, lower left, lower right. RASTER_MODE 2F0h has one byte a pixel,
-- 600002F0h two, 800002F0h four; 6F0h has pattern transparency
abbrev pub corners : ℕ → List (List ℕ)
corners raster =
    map
    (λ offset. drawn_tile (row but RASTER_MODE is raster but DST_OFFSET is offset but WID_HEIGHT is 0x00010001) (replicate 4 9))
    (0x00000000 ∷ 0x1C000000 ∷ 0xE0000000 ∷ 0xFC000000 ∷ [])

-- 3 by 2 pixels with this RASTER_MODE, DST_OFFSET and BLT_MODE; and with this CH3_MODE_STR, Y low bits 7 and X low bits 0 of
-- CH3_OFFSET, but 2 and 3 of DST_OFFSET. 80200000h is a pattern of one byte a pixel
abbrev pub tile_blt : (raster offset mode : ℕ) → List ℕ
tile_blt raster offset mode =
    zeros but RASTER_MODE is raster but DST_OFFSET is offset but STRIDE is 3 but WID_HEIGHT is 0x00030002 but BLT_MODE is mode

abbrev pub channel3_blt : (raster mode3 : ℕ) → List ℕ
channel3_blt raster mode3 = tile_blt raster 0x4C000000 0 but CH3_OFFSET is 0xE3ABCDEF but CH3_MODE_STR is mode3

abbrev pub tiled : (raster offset mode : ℕ) → List ℕ
tiled raster offset mode = drawn_tile (tile_blt raster offset mode) (replicate 6 9)

abbrev pub channel3_tiled : (raster mode3 : ℕ) → List ℕ
channel3_tiled raster mode3 = drawn_tile (channel3_blt raster mode3) (replicate 6 9)

-- four pixels of row 0 of the tile, from the bits of A0h
abbrev pub tile_text : (raster mode3 : ℕ) → List ℕ
tile_text raster mode3 = text raster 0x41 0 0x00040001 but CH3_MODE_STR is mode3

-- a load of that row, and a BLT of its columns 2 to 5 by channel 3
abbrev pub tile_ring : List ℕ
tile_ring =
    ring_of
    ((0x40000003 ∷ 0x100 ∷ 0x60000002 ∷ 0x03020100 ∷ 0x07060504 ∷ [])
    ++ (0x9813 ∷ 0xF0 ∷ 0 ∷ 0 ∷ 0 ∷ 0x00040001 ∷ replicate 6 0)
    ++ (0x08000000 ∷ 0x80200000 ∷ []))

-- the numbers that judge the row with each of these in CH3_MODE_STR, for each of these in RASTER_MODE
abbrev pub channel3_with : (rasters modes : List ℕ) → List (List ℕ)
channel3_with rasters modes =
    map (λ raster. map (λ mode3. judge Blt (row but RASTER_MODE is raster but CH3_MODE_STR is mode3) 16) modes) rasters

-- colour patterns (W4)
pub record ColorPatterns : Type 0 where
  -- 000, 6.3.7: "the top left pixel is in the least significant byte of the DWORD at address 100h .., the top right pixel is in the
  -- most significant byte of the DWORD at address 101. The bottom left pixel is in the least significant byte of the DWORD at
  -- address 10Eh and the bottom right pixel is in the most significant byte of the DWORD at address 10Fh."
  pub corners_8 : corners 0x2F0 ≡ (0 ∷ 9 ∷ 9 ∷ 9 ∷ []) ∷ (7 ∷ 9 ∷ 9 ∷ 9 ∷ []) ∷ (56 ∷ 9 ∷ 9 ∷ 9 ∷ []) ∷ (63 ∷ 9 ∷ 9 ∷ 9 ∷ []) ∷ []
  -- "In 16-bpp mode, the upper right most pixel is contained in the most significant bytes of the fourth DWORD, and for 32-bpp
  -- mode, the eighth DWORD contains the upper right most pixel."; the last pixel ends word 11Fh and is word 13Fh
  pub corners_16 :
      corners 0x600002F0 ≡ (0 ∷ 1 ∷ 9 ∷ 9 ∷ []) ∷ (14 ∷ 15 ∷ 9 ∷ 9 ∷ []) ∷ (112 ∷ 113 ∷ 9 ∷ 9 ∷ []) ∷ (126 ∷ 127 ∷ 9 ∷ 9 ∷ []) ∷ []
  pub corners_32 :
      corners 0x800002F0
      ≡ (0 ∷ 1 ∷ 2 ∷ 3 ∷ []) ∷ (28 ∷ 29 ∷ 30 ∷ 31 ∷ []) ∷ (224 ∷ 225 ∷ 226 ∷ 227 ∷ []) ∷ (252 ∷ 253 ∷ 254 ∷ 255 ∷ []) ∷ []
  -- row and column are DST_OFFSET's low bits plus the signed steps, modulo 8: right and down from row 7, column 6, left and down
  -- from 7, 1, right and up from 0, 6, left and up from 0, 1. "pattern transparency has no effect on it"
  pub tile_right_down : map (λ raster. tiled raster 0xFB000000 0x000) (0x2F0 ∷ 0x6F0 ∷ []) ≡ replicate 2 (62 ∷ 63 ∷ 56 ∷ 6 ∷ 7 ∷ 0 ∷ [])
  pub tile_left_down : tiled 0x2F0 0xE7000002 0x200 ≡ 63 ∷ 56 ∷ 57 ∷ 7 ∷ 0 ∷ 1 ∷ []
  pub tile_right_up : tiled 0x2F0 0x1B000003 0x100 ≡ 62 ∷ 63 ∷ 56 ∷ 6 ∷ 7 ∷ 0 ∷ []
  pub tile_left_up : tiled 0x2F0 0x07000005 0x300 ≡ 63 ∷ 56 ∷ 57 ∷ 7 ∷ 0 ∷ 1 ∷ []
  -- 2 by 2 of two bytes, left and up from row 0, column 0, whose last byte is byte 7
  pub tile_16 :
      drawn_tile (tile_blt 0x600002F0 0x00000007 0x300 but STRIDE is 4 but WID_HEIGHT is 0x00020002) (replicate 8 9)
      ≡ 126 ∷ 127 ∷ 112 ∷ 113 ∷ 14 ∷ 15 ∷ 0 ∷ 1 ∷ []
  -- "in place of any pattern there, by channel 3's pattern mode": solid, mono and colour, without and with transparency, from
  -- CH3_OFFSET's low bits. Its own X and Y, reserved bits and stride have no effect; BLT_MODE's X and Y have theirs
  pub channel_3_tile :
      map (λ raster. channel3_tiled raster 0x80200000) (0x0F0 ∷ 0x1F0 ∷ 0x2F0 ∷ 0x4F0 ∷ 0x5F0 ∷ 0x6F0 ∷ [])
      ≡ replicate 6 (56 ∷ 57 ∷ 58 ∷ 0 ∷ 1 ∷ 2 ∷ [])
  pub channel_3_bits : channel3_tiled 0x0F0 0xB023FFFF ≡ 56 ∷ 57 ∷ 58 ∷ 0 ∷ 1 ∷ 2 ∷ []
  pub channel_3_left_up :
      drawn_tile (channel3_blt 0x0F0 0x80200000 but DST_OFFSET is 0x4C000005 but BLT_MODE is 0x300) (replicate 6 9)
      ≡ 54 ∷ 55 ∷ 48 ∷ 62 ∷ 63 ∷ 56 ∷ []
  -- not enabled it has none: the pattern is RASTER_MODE's, from DST_OFFSET's low bits
  pub channel_3_off : channel3_tiled 0x2F0 0x7FFFFFFF ≡ 19 ∷ 20 ∷ 21 ∷ 27 ∷ 28 ∷ 29 ∷ []
  -- code B8h, P where S is 0 and D where it is 1: pattern 3Eh, 3Fh and 38h, source F0h, 0Fh and 0 from byte 3 on, destination 55h
  pub with_source_holds :
      drawn_tile
      (tile_blt 0x2B8 0xF8000000 1 but SRC_OFFSET is 3 but WID_HEIGHT is 0x00030001)
      (0x55 ∷ 0x55 ∷ 0x55 ∷ 0xF0 ∷ 0x0F ∷ 0 ∷ [])
      ≡ 0x5E ∷ 0x35 ∷ 0x38 ∷ 0xF0 ∷ 0x0F ∷ 0 ∷ []
  -- a pixel that is transparent by its mono source writes nothing; each costs its unit, and the table stays
  pub by_source :
      map (λ registers. drop 8 (drawn_tile registers (0xA0 ∷ replicate 11 9))) (tile_text 0xAF0 0 ∷ tile_text 0x8F0 0x80200000 ∷ [])
      ≡ replicate 2 (0 ∷ 9 ∷ 2 ∷ 9 ∷ [])
  pub tile_units :
      let s = engine_with tile_table (tile_text 0xAF0 0) 12 0 0 0 0 (Drawing Blt 0) in
      run (ring_of []) s (replicate 12 0) 99
      ≡ answer (engine_with tile_table s.core.registers 12 0 0 1 0 Idle) (Ran Waiting 4 (size - 1))
  -- loaded and drawn from one ring
  pub load_and_draw : run_frame tile_ring (engine zeros 6 0 22 Idle) (replicate 6 9) 9 ≡ 2 ∷ 3 ∷ 4 ∷ 5 ∷ 9 ∷ 9 ∷ []
  -- 24 "keeps channel 3 enabled without that mode, steered to the source, in another format than RASTER_MODE's, or with further
  -- mode bits but X and Y set": rotation, BGR, PL, PE and HS. X, Y, each reserved bit and the stride refuse nothing
  pub channel_3_taken : row_with CH3_MODE_STR (0x80200000 ∷ 0xA0200000 ∷ 0x90200000 ∷ 0x80220000 ∷ 0x80210000 ∷ 0x8020FFFF ∷ []) ≡ replicate 6 0
  pub channel_3_modes :
      row_with CH3_MODE_STR (0x80000000 ∷ 0xC0200000 ∷ 0x81200000 ∷ 0x80A00000 ∷ 0x80600000 ∷ 0x80300000 ∷ 0x80280000 ∷ 0x80240000 ∷ [])
      ≡ replicate 8 24
  -- each of the five formats, with each of them in channel 3: the codes must be the same, not only the bytes a pixel
  pub channel_3_formats :
      channel3_with
      (0x000000F0 ∷ 0x400000F0 ∷ 0x500000F0 ∷ 0x600000F0 ∷ 0x800000F0 ∷ [])
      (0x80200000 ∷ 0x84200000 ∷ 0x85200000 ∷ 0x86200000 ∷ 0x88200000 ∷ [])
      ≡ (0 ∷ 24 ∷ 24 ∷ 24 ∷ 24 ∷ [])
      ∷ (24 ∷ 0 ∷ 24 ∷ 24 ∷ 24 ∷ [])
      ∷ (24 ∷ 24 ∷ 0 ∷ 24 ∷ 24 ∷ [])
      ∷ (24 ∷ 24 ∷ 24 ∷ 0 ∷ 24 ∷ [])
      ∷ (24 ∷ 24 ∷ 24 ∷ 24 ∷ 0 ∷ [])
      ∷ []
  -- each pattern mode without channel 3, with its pattern, and with it enabled in no such mode: mode 11 is always refused
  pub pattern_modes :
      channel3_with (0x0F0 ∷ 0x1F0 ∷ 0x2F0 ∷ 0x3F0 ∷ []) (0 ∷ 0x80200000 ∷ 0x80000000 ∷ [])
      ≡ replicate 3 (0 ∷ 0 ∷ 24 ∷ []) ++ (replicate 3 24 ∷ [])
  -- vectors keep 24 for channel 3 enabled, in whatever mode
  pub channel_3_vectors : line_with CH3_MODE_STR (0x80000000 ∷ 0x80200000 ∷ 0x7FFFFFFF ∷ []) ≡ 24 ∷ 24 ∷ 0 ∷ []
  -- and so row 3 accepts a colour pattern's BLT in progress, and refuses one whose channel 3 is refused
  pub tile_in_progress :
      map (λ registers. unfit (engine_with tile_table registers 6 0 0 0 0 (Drawing Blt 5)))
      (tile_blt 0x2F0 0xFB000000 0 ∷ channel3_blt 0x0F0 0x80200000 ∷ channel3_blt 0x0F0 0xC0200000 ∷ channel3_blt 0x0F0 0x86200000 ∷ [])
      ≡ false ∷ false ∷ true ∷ true ∷ []

-- a vector by code 3Ch (P xor S), its thirteen words in order: the marked case's terms, length 5, X negative
abbrev pub vector_ring : List ℕ
vector_ring = ring_of (0x20001FFF ∷ 0x3C ∷ 5 ∷ 0x0004FFFA ∷ 6 ∷ 0x0005FFFF ∷ 9 ∷ 10 ∷ 11 ∷ 12 ∷ 13 ∷ 14 ∷ 0 ∷ 4 ∷ [])

abbrev pub vector_start : State
vector_start = engine_at (replicate register_count 7) 14 0 14 8 0 Idle

-- the pixels of vectors
pub record Vectors : Type 0 where
  -- an error of exactly 0 takes the diagonal step
  pub zero_error : first_six 0 0x0004FFFA 0x00060000 6 ≡ (0, 0) ∷ (1, 1) ∷ (2, 1) ∷ (3, 1) ∷ (4, 2) ∷ (5, 2) ∷ []
  -- Y major, major direction positive, minor negative
  pub other_axis : first_six 5 0x0004FFFA 0x0006FFFF 3 ≡ (5, 0) ∷ (5, 1) ∷ (4, 2) ∷ (4, 3) ∷ (3, 4) ∷ (3, 5) ∷ []
  -- from its words in the ring: thirteen registers, the others as they were; its pixels, 9 xor 10
  pub vector_words :
      run vector_ring vector_start (replicate 14 0) 99
      ≡ answer
      (engine_at (0x3C ∷ 5 ∷ 0x0004FFFA ∷ 6 ∷ 0x0005FFFF ∷ 9 ∷ 7 ∷ 10 ∷ 11 ∷ 12 ∷ 13 ∷ 7 ∷ 14 ∷ 7 ∷ 0 ∷ 7 ∷ 4 ∷ 7 ∷ []) 14 14 14 9 0 Idle)
      (Ran Waiting 6 (size - 1))
  pub vector_frame :
      run_frame vector_ring vector_start (replicate 14 0) 99
      ≡ 0 ∷ 0 ∷ 0 ∷ 0 ∷ 3 ∷ 3 ∷ 0 ∷ 0 ∷ 3 ∷ 3 ∷ 0 ∷ 0 ∷ 0 ∷ 3 ∷ []

pub record Further : Type 0 where
  pub extremes : Extremes
  pub judged : Judged
  pub commands : Commands
  pub calls : Calls
  pub pixels : Pixels
  pub negative_x : NegativeX
  pub mono_sources : MonoSources
  pub table_loads : TableLoads
  pub color_patterns : ColorPatterns
  pub vectors : Vectors
  pub host_sources : HostSources
  pub host_judged : HostJudged
  pub data_commands : DataCommands
  pub data_refused : DataRefused
  pub host_places : HostPlaces
  pub bases : Bases

-- ---- a recording

-- the words that a released Geode LX display driver wrote for document 01's example: 8 bpp, 4 by 2 at 10, stride 16, colour 5Ah
abbrev pub shop_ring : List ℕ
shop_ring = ring_of (0xF09B ∷ 0xF0 ∷ 0x0A ∷ 0 ∷ 0x100010 ∷ 0x40002 ∷ 0 ∷ 0 ∷ 0x5A ∷ replicate 8 0)

abbrev pub shop_start : State
shop_start = (publish (setup size 64).state 17).state

abbrev pub shop_run : ℕ → Answer
shop_run budget = run shop_ring shop_start (replicate 64 0) budget

-- "bytes 10 to 13 and 26 to 29 become 5Ah"
abbrev pub shop_frame : List ℕ
shop_frame = replicate 10 0 ++ replicate 4 0x5A ++ replicate 12 0 ++ replicate 4 0x5A ++ replicate 34 0

pub record Recorded : Type 0 where
  pub shop_setup : (setup size 64).reply ≡ Accepted (size - 1)
  pub shop_publish : (publish (setup size 64).state 17).reply ≡ Accepted (size - 18)
  -- retired=1 units=9 read=17 write=17 state=waiting refusal=0
  pub shop_run_holds : (shop_run 100).reply ≡ Ran Waiting 9 (size - 1)
  pub shop_read : (shop_run 100).state.core.read ≡ 17
  pub shop_write : (shop_run 100).state.write ≡ 17
  pub shop_retired : (shop_run 100).state.core.completion ≡ 1
  pub shop_frame_holds : run_frame shop_ring shop_start (replicate 64 0) 100 ≡ shop_frame
  -- a budget that is used up, exactly at the end and before it
  pub shop_budgets :
      map (λ b. (shop_run b).reply) (0 ∷ 1 ∷ 8 ∷ 9 ∷ [])
      ≡ Ran Spent 0 (size - 18) ∷ Ran Spent 1 (size - 1) ∷ Ran Spent 8 (size - 1) ∷ Ran Waiting 9 (size - 1) ∷ []
  -- after the load no byte has changed yet
  pub shop_load : run_frame shop_ring shop_start (replicate 64 0) 1 ≡ replicate 64 0

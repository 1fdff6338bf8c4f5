-- Two screens in one memory (document 02, W6), by cases: where pixels lie with a base, the refusals 27 and 28 by the whole place, and
-- row 3. Memories of many MiB stand here by their length alone: 27, 28 and row 3 look at no byte. The one table of Cases shows them.
use Rattle.std.specs.Prelude.{ℕ, ◌+◌, ◌-◌, ◌*◌, ◌≡◌, true, false, List, [], ◌∷◌, ◌++◌, map, replicate, Option, None}
use Rattle.model.specs.Bounds.{inside}
use Rattle.model.specs.Registers.{RASTER_MODE, DST_OFFSET, STRIDE, WID_HEIGHT, PAT_COLOR_0, BASE_OFFSET, VEC_LEN, VEC_ERR, VECTOR_MODE}
use Rattle.model.specs.Rectangle.{pixel_byte, column_of, row_of, pixels_of, rectangle_extent}
use Rattle.model.specs.BltPixel.{blt_of}
use Rattle.model.specs.VectorPixel.{vector_of, vector_extent}
use Rattle.model.specs.Command.{bad_data_word}
use Rattle.model.specs.Judging.{judge}
use Rattle.model.specs.Unit.{Done, units}
use Rattle.model.specs.Calls.{unfit, machine_of}
use Rattle.model.specs.CaseSetup.{◌but◌is◌, zeros, ring_of, no_table, engine, series, row, copy, line}
use Rattle.model.specs.HostCases.{picture, counting, data_of, command, sent, steps, feed}
use Rattle.model.specs.declared.Extent.{Extent}
use Rattle.model.specs.declared.Primitive.TheVariants.{Blt, Vector}
use Rattle.model.specs.declared.Place.TheVariants.{Idle, Drawing, Fed}
use Rattle.model.specs.declared.Rectangle.{Rectangle}
use Rattle.model.specs.declared.Source.{Source}
use Rattle.model.specs.declared.Source.TheVariants.{Unselected, Frame, Bits}
use Rattle.model.specs.declared.State.{State}

-- ---- how they are set up

-- so many MiB
abbrev pub mebibyte : ℕ → ℕ
mebibyte n = n * 1_048_576

-- BASE_OFFSET with these bases: DBASE 31:22, SBASE 21:12
abbrev pub bases : (destination source : ℕ) → ℕ
bases destination source = destination * 0x00400000 + source * 0x00001000

-- the bytes at which the pixels of a rectangle begin, in the order of drawing; those of a BLT, and of what its source reads
abbrev pub begins : Rectangle → List ℕ
begins r = map (λ k. pixel_byte r (column_of r k) (row_of r k)) (series 0 1 (pixels_of r))

abbrev pub drawn_at : List ℕ → List ℕ
drawn_at registers = begins (blt_of registers).destination

abbrev pub read_by : Source → List ℕ
read_by (Unselected color) = []
read_by (Frame r) = begins r
read_by (Bits m) = begins m.bytes

abbrev pub read_at : List ℕ → List ℕ
read_at registers = read_by (blt_of registers).source

-- where two pixels go and what they read, DBASE 2 and SBASE 5, destination offset C00001h, source offset 400003h
abbrev pub two_bases : (mode : ℕ) → List ℕ × List ℕ
two_bases mode =
    let registers = copy 0x400003 0xC00001 mode but BASE_OFFSET is bases 2 5 but WID_HEIGHT is 0x00020001 in
    (drawn_at registers, read_at registers)

-- the row of four bytes with this base and offset: what judges it in so many bytes, and its extent
abbrev pub row_in : (framelength base offset : ℕ) → ℕ × Option Extent
row_in framelength base offset =
    let registers = row but BASE_OFFSET is bases base 0 but DST_OFFSET is offset in
    (judge Blt registers framelength, rectangle_extent framelength (blt_of registers).destination)

-- what judges a copy of the row to byte 0, with this source base and source offset, in 4 MiB and 16 bytes; and of 9 by 2 bits, XLSBS 7
-- and source stride 4, unpacked (41h) and byte-packed (81h): two bytes a row
abbrev pub copy_from : (base offset : ℕ) → ℕ
copy_from base offset = judge Blt (copy offset 0 1 but BASE_OFFSET is bases 0 base) (mebibyte 4 + 16)

abbrev pub bits_from : (mode base offset : ℕ) → ℕ
bits_from mode base offset =
    judge Blt
    (copy (0x1C000000 + offset) 0 mode but STRIDE is 0x00040009 but WID_HEIGHT is 0x00090002 but BASE_OFFSET is bases 0 base) (mebibyte 4 + 16)

-- the line with terms 4 and -6, initial -1, length 6, X major, both signs positive, and this base: what judges it in so many bytes, and
-- its extent
abbrev pub line_in : (framelength base offset : ℕ) → ℕ × Option Extent
line_in framelength base offset =
    let v = line but VEC_ERR is 0x0004FFFA but VEC_LEN is 0x0006FFFF but VECTOR_MODE is 6 but BASE_OFFSET is bases base 3
    but DST_OFFSET is offset in
    (judge Vector v framelength, vector_extent framelength (vector_of v))

-- what judges the row and the line in 16 bytes with this in BASE_OFFSET
abbrev pub judged_with : ℕ → ℕ × ℕ
judged_with base = (judge Blt (row but BASE_OFFSET is base) 16, judge Vector (line but BASE_OFFSET is base) 16)

-- one command stream: document 01's example, and then a BLT that enables BASE_OFFSET and BLT_MODE alone, with a destination base of 1
abbrev pub screens : List ℕ
screens =
    ring_of
    (command (row but DST_OFFSET is 10 but STRIDE is 16 but WID_HEIGHT is 0x00040002 but PAT_COLOR_0 is 0x5A)
    ++ 0xC000 ∷ replicate 14 0 ++ (bases 1 0 ∷ 0 ∷ []))

-- after n units of it, in a memory of 8 MiB
abbrev pub screens_after : (frame : List ℕ) → (n : ℕ) → Done
screens_after frame n = units screens 34 n 0 (machine_of (engine zeros (mebibyte 8) 0 34 Idle) frame)

-- frame memory after a picture of four bytes through the ring, with this in BASE_OFFSET
abbrev pub sent_with : ℕ → List ℕ
sent_with base = (sent (picture 0xCC 4 0x00040001 0 0x002 but BASE_OFFSET is base) (data_of (counting 1)) (replicate 4 9)).0

-- a picture of which a data command with so many words is accepted, in a ring of so many words that are all published
abbrev pub saved_count : (ringlength count : ℕ) → State
saved_count ringlength count = record {
  core = record {
    registers = steps;
    read = 0;
    ringlength = ringlength;
    framelength = 6;
    completion = 0;
    stop = 0;
    place = Fed 0 (feed 0 count false);
  };
  table = no_table;
  write = ringlength - 1;
}

-- ---- the cases

pub record Bases : Type 0 where
  -- two fills of one command stream into two halves of a memory, whatever stands there: the bytes after each load, and 2 retired
  pub two_screens :
      (frame : List ℕ) → map (λ n. drawn_at (screens_after frame n).machine.core.registers) (1 ∷ 10 ∷ [])
      ≡ (series 10 1 4 ++ series 26 1 4) ∷ (series (mebibyte 4 + 10) 1 4 ++ series (mebibyte 4 + 26) 1 4) ∷ []
  pub two_retired :
      (frame : List ℕ) → (screens_after frame 99).used ∷ (screens_after frame 99).machine.core.completion ∷ [] ≡ 18 ∷ 2 ∷ []
  -- "each base is added to its own channel's offset": DBASE 2 and SBASE 5, in colour and in bits. All 24 bits of an offset count
  pub own_channels :
      map two_bases (0x001 ∷ 0x041 ∷ 0x081 ∷ [])
      ≡ ((mebibyte 20 + 1) ∷ (mebibyte 20 + 2) ∷ [], (mebibyte 24 + 3) ∷ (mebibyte 24 + 4) ∷ [])
      ∷ replicate 2 ((mebibyte 20 + 1) ∷ (mebibyte 20 + 2) ∷ [], (mebibyte 24 + 3) ∷ [])
  -- the last byte of 64 MiB drawn and the one after it refused, by base 15 and by base 12 with an offset near 16 MiB
  pub last_byte :
      map (row_in (mebibyte 64) 15) (0x3FFFFC ∷ 0x3FFFFD ∷ []) ++ map (row_in (mebibyte 64) 12) (0xFFFFFC ∷ 0xFFFFFD ∷ [])
      ≡ (0, inside (mebibyte 64 - 4) (mebibyte 64 - 1)) ∷ (27, None) ∷ (0, inside (mebibyte 64 - 4) (mebibyte 64 - 1)) ∷ (27, None) ∷ []
  -- base 1023 lies outside; with 4 MiB more it would be byte 0 of a memory in which 32 bits are counted. "Positions are .. never reduced"
  pub base_1023 : map (row_in (mebibyte 64) 1_023) (0 ∷ 0x400000 ∷ 0xFFFFFF ∷ []) ≡ replicate 3 (27, None)
  -- 000's wrap at the end of a region of 16 MiB is void, and so is its beginning: across 16 MiB from base 0, and up and left from base 1
  pub no_region : row_in (mebibyte 64) 0 0xFFFFFE ≡ (0, inside (mebibyte 16 - 2) (mebibyte 16 + 1))
  pub below_base :
      drawn_at (copy 0 1 0x300 but RASTER_MODE is 0x600000F0 but STRIDE is 16 but WID_HEIGHT is 0x00020002 but BASE_OFFSET is bases 1 0)
      ≡ mebibyte 4 ∷ (mebibyte 4 - 2) ∷ (mebibyte 4 - 16) ∷ (mebibyte 4 - 18) ∷ []
  -- 28 by the whole place: just inside and just outside, and a base of which every offset is outside; colour and bits
  pub source_in :
      map (copy_from 1) (0 ∷ 12 ∷ 13 ∷ []) ++ map (copy_from 2) (0 ∷ []) ++ map (copy_from 0) (0x40000C ∷ 0x40000D ∷ [])
      ≡ 0 ∷ 0 ∷ 28 ∷ 28 ∷ 0 ∷ 28 ∷ []
  pub bits_in :
      map (bits_from 0x41 1) (10 ∷ 11 ∷ []) ++ map (bits_from 0x81 1) (12 ∷ 13 ∷ []) ++ (bits_from 0x41 1_023 0 ∷ []) ≡ 0 ∷ 28 ∷ 0 ∷ 28 ∷ 28 ∷ []
  -- a vector has the destination's base, and the source's has no effect on it
  pub line_in_holds :
      map (line_in (mebibyte 12 + 16) 3) (6 ∷ 7 ∷ []) ++ (line_in (mebibyte 12) 3 0 ∷ [])
      ≡ (0, inside (mebibyte 12 + 6) (mebibyte 12 + 15)) ∷ (27, None) ∷ (27, None) ∷ []
  -- "Number 24 stops covering BASE_OFFSET": in 16 bytes its reserved bits, channel 3's base and, with no source in frame memory, the
  -- source's have no effect, of a BLT and of a vector; the destination's is 27
  pub bases_judged :
      map judged_with
      (0x00000003 ∷ 0x00000FFC ∷ 0x003FF000 ∷ 0x003FFFFF ∷ 0x00400000 ∷ 0x80000000 ∷ 0xFFFFFFFF ∷ [])
      ≡ replicate 4 (0, 0) ++ replicate 3 (27, 27)
  -- host sources have none: a picture is the same whatever the source's base
  pub host_stays : map sent_with (0 ∷ 0x00001000 ∷ 0x003FFFFF ∷ []) ≡ replicate 3 (0 ∷ 1 ∷ 2 ∷ 3 ∷ [])
  -- row 3 judges a command in progress by the whole place
  pub base_in_progress :
      map (λ base. unfit (engine (row but BASE_OFFSET is bases base 0) (mebibyte 8) 0 0 (Drawing Blt 3))) (0 ∷ 1 ∷ 2 ∷ []) ≡ false ∷ false ∷ true ∷ []
  -- the largest count that a count word holds, by 32; and counts of a command in progress, by row 3, whatever the ring
  pub counts_of_rings : map (λ size. bad_data_word size 0xFFFF) (65_537 ∷ 65_538 ∷ 262_144 ∷ []) ≡ true ∷ false ∷ false ∷ []
  pub saved_counts :
      map (λ (s : ℕ × ℕ). unfit (saved_count s.0 s.1))
      ((65_538, 65_535) ∷ (65_538, 65_536) ∷ (65_539, 65_536) ∷ (262_144, 65_535) ∷ (262_144, 65_536) ∷ (262_144, 262_141) ∷ [])
      ≡ false ∷ true ∷ true ∷ false ∷ true ∷ true ∷ []

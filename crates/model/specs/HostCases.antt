-- Pictures sent through the ring (document 02, W5), by cases: where the pixels of a host source lie in its data words, what the
-- engine's state is after each unit, the refusals 30 to 32 with their order, and row 3. The one table of Cases shows them.
use Rattle.std.specs.Prelude.{ℕ, ◌+◌, ◌-◌, ◌*◌, ◌%◌, ◌^◌, ◌≡◌, Bool, true, false, List, [], ◌∷◌, ◌++◌, map, length, replicate, take, drop}
use Rattle.model.specs.Registers.{RASTER_MODE, DST_OFFSET, SRC_OFFSET, STRIDE, WID_HEIGHT, SRC_COLOR_FG, SRC_COLOR_BG, PAT_COLOR_0, PAT_COLOR_1, PAT_DATA_0, CH3_OFFSET, CH3_MODE_STR, BLT_MODE, VEC_LEN}
use Rattle.model.specs.Command.{bad_data_word}
use Rattle.model.specs.Judging.{judge}
use Rattle.model.specs.Calls.{units_of, unfit, publish, restart, ask_room, run, run_frame}
use Rattle.model.specs.CaseSetup.{size, ◌but◌is◌, zeros, ring_of, engine_with, engine_at, engine, answer, series, placed, tile_table}
use Rattle.model.specs.declared.State.{State}
use Rattle.model.specs.declared.Answer.{Answer}
use Rattle.model.specs.declared.Feed.{Feed}
use Rattle.model.specs.declared.Primitive.TheVariants.{Blt, Vector}
use Rattle.model.specs.declared.Place.{Place}
use Rattle.model.specs.declared.Place.TheVariants.{Idle, Drawing, Wanting, Fed}
use Rattle.model.specs.declared.RunWord.TheVariants.{Stopped, Waiting, Spent}
use Rattle.model.specs.declared.Reply.{Reply}
use Rattle.model.specs.declared.Reply.TheVariants.{Refused, Accepted, Ran}

-- ---- pictures

-- the registers of a BLT with host source: drawn from byte 0 on, a set bit 3, a clear one 2. BLT_MODE 2h is colour, 42h unpacked,
-- 82h byte-packed mono; 200h more is left, 100h up. RASTER_MODE CCh has one byte a pixel, 600000CCh two, 800000CCh four
abbrev pub picture : (raster stride size src mode : ℕ) → List ℕ
picture raster stride size src mode =
    zeros but RASTER_MODE is raster but SRC_OFFSET is src but STRIDE is stride but WID_HEIGHT is size but SRC_COLOR_FG is 3
    but SRC_COLOR_BG is 2 but BLT_MODE is mode

-- n data words in which byte number n of a BLT's data is n: 03020100h, 07060504h, ..
abbrev pub counting : ℕ → List ℕ
counting n = series 0x03020100 0x04040404 n

-- a data command of these words, with the header that drivers write; data commands that have so many of these words each
abbrev pub data_of : List ℕ → List ℕ
data_of words = 0x60000001 ∷ length words ∷ words

abbrev pub split : (counts words : List ℕ) → List ℕ
split [] words = []
split (n ∷ counts) words = data_of (take n words) ++ split counts (drop n words)

-- a BLT command with these registers, which draws
abbrev pub command : List ℕ → List ℕ
command registers = 0x0000FFFF ∷ take 16 registers

-- what is seen of a run: its answer, the read pointer, the completion number and the place
abbrev pub Seen : Type 0
Seen = Reply × ℕ × ℕ × Place

abbrev pub seen : Answer → Seen
seen a = (a.reply, a.state.core.read, a.state.core.completion, a.state.core.place)

-- frame memory after a run, and what is seen of it
abbrev pub shown : (ring : List ℕ) → State → (frame : List ℕ) → List ℕ × Seen
shown ring s frame = (run_frame ring s frame 99, seen (run ring s frame 99))

-- the same of a BLT that wants its first pixel, with these words waiting from ring word 0 on
abbrev pub sent : (registers words frame : List ℕ) → List ℕ × Seen
sent registers words frame = shown (ring_of words) (engine registers (length frame) 0 (length words) (Wanting 0)) frame

-- it in four words, of six: in one data command, in one word each, split inside a row twice, and with two words left over
abbrev pub splits : (registers frame : List ℕ) → List (List ℕ × Seen)
splits registers frame =
    map (λ counts. sent registers (split counts (counting 6)) frame)
    ((4 ∷ []) ∷ (1 ∷ 1 ∷ 1 ∷ 1 ∷ []) ∷ (1 ∷ 3 ∷ []) ∷ (3 ∷ 1 ∷ []) ∷ (6 ∷ []) ∷ [])

-- and the same picture each time, with a unit for each data command and each of its pixels
abbrev pub same : (pixels : ℕ) → List ℕ → List (List ℕ × Seen)
same pixels frame =
    map (λ (s : ℕ × ℕ). (frame, (Ran Waiting s.0 (size - 1), s.1, 1, Idle)))
    ((1 + pixels, 6) ∷ (4 + pixels, 12) ∷ (2 + pixels, 8) ∷ (2 + pixels, 8) ∷ (1 + pixels, 8) ∷ [])

-- 5 by 2 pixels of one byte from starting byte 1: two words a row, bytes 1 to 5 and 9 to 13
abbrev pub logo : List ℕ
logo = picture 0xCC 5 0x00050002 1 0x002

abbrev pub logo_frame : List ℕ
logo_frame = 1 ∷ 2 ∷ 3 ∷ 4 ∷ 5 ∷ 9 ∷ 10 ∷ 11 ∷ 12 ∷ 13 ∷ []

-- the n bytes that a BLT with these registers gets of twelve words in one data command, and of these words in one each
abbrev pub bytes : (n : ℕ) → List ℕ → List ℕ
bytes n registers = (sent registers (data_of (counting 12)) (replicate n 99)).0

abbrev pub in_words : (n : ℕ) → (registers words : List ℕ) → List ℕ
in_words n registers words = (sent registers (split (replicate (length words) 1) words) (replicate n 9)).0

-- XLSBS `skip` and starting byte f, all other bits of SRC_OFFSET set
abbrev pub from : (skip f : ℕ) → ℕ
from skip f = 0xE3FFFFFC + skip * 2 ^ 26 + f

-- 8 by 3 pixels with XLSBS 2, as Tables 6-23 and 6-24 have them: rows A5h, 0Fh and 3Ch, that is E9h 7Fh, C3h C0h and CFh 3Fh with the
-- bits skipped before and the trailing ones after them
abbrev pub letters : (raster f mode : ℕ) → List ℕ
letters raster f mode = picture raster 8 0x00080003 (from 2 f) mode

abbrev pub letters_frame : (set clear : ℕ) → List ℕ
letters_frame set clear =
    (set ∷ clear ∷ set ∷ clear ∷ clear ∷ set ∷ clear ∷ set ∷ [])
    ++ (clear ∷ clear ∷ clear ∷ clear ∷ set ∷ set ∷ set ∷ set ∷ [])
    ++ (clear ∷ clear ∷ set ∷ set ∷ set ∷ set ∷ clear ∷ clear ∷ [])

-- them with both colours; inverted; transparent; transparent after inversion
abbrev pub four_ways : (mode : ℕ) → List ℕ → List (List ℕ)
four_ways mode words = map (λ raster. (sent (letters raster 0 mode) (data_of words) (replicate 24 9)).0) (0xCC ∷ 0x20CC ∷ 0x08CC ∷ 0x28CC ∷ [])

-- two rows with XLSBS 7 from starting byte 3, the last bit of a word
abbrev pub last_bit : (mode width : ℕ) → List ℕ → List ℕ
last_bit mode width words = in_words (2 * width) (picture 0xCC width (width * 2 ^ 16 + 2) (from 7 3) mode) words

-- 3 by 2 pixels right and down, left and down, right and up, left and up
abbrev pub four_directions : (mode : ℕ) → List ℕ → List (List ℕ)
four_directions mode words =
    map (λ (d : ℕ × ℕ). in_words 6 (picture 0xCC 3 0x00030002 0 (mode + d.0) but DST_OFFSET is d.1) words)
    ((0x000, 0) ∷ (0x200, 2) ∷ (0x100, 3) ∷ (0x300, 5) ∷ [])

-- a row of four pixels by code 3Ch, P xor S, from bytes 0 to 3: with a mono pattern of row A5h, clear 10h, set 20h; and two rows of
-- them with the tile, from its row 7 and column 6
abbrev pub patterned : (raster offset mode : ℕ) → List ℕ
patterned raster offset mode =
    (sent
    (picture raster 4 0x00040001 0 mode but DST_OFFSET is offset but PAT_COLOR_0 is 0x10 but PAT_COLOR_1 is 0x20 but PAT_DATA_0 is 0xA5)
    (data_of (counting 1)) (replicate 4 9)).0

abbrev pub tiled : (registers words : List ℕ) → List ℕ
tiled registers words =
    run_frame (ring_of (data_of words)) (engine_with tile_table registers 8 0 (2 + length words) 0 0 (Wanting 0)) (replicate 8 9) 99

-- host sources: where their pixels lie, and what becomes of them
pub record HostSources : Type 0 where
  -- "rows packed as 000 says": each begins at byte f of a new word. "Such a BLT takes its pixels from the data commands that follow",
  -- however they are split, at one, two and four bytes a pixel. "Data commands don't raise the completion number."; "words left over
  -- at the last pixel are dropped"
  pub splits_8 : splits logo (replicate 10 99) ≡ same 10 logo_frame
  pub splits_16 :
      splits (picture 0x600000CC 6 0x00030002 2 0x002) (replicate 12 99) ≡ same 6 (2 ∷ 3 ∷ 4 ∷ 5 ∷ 6 ∷ 7 ∷ 10 ∷ 11 ∷ 12 ∷ 13 ∷ 14 ∷ 15 ∷ [])
  pub splits_32 : splits (picture 0x800000CC 8 0x00020002 0 0x002) (replicate 16 99) ≡ same 4 (series 0 1 16)
  -- "The two LSBs of the source OFFSET are used to determine the starting byte", of colour pixels nothing else of that register: each
  -- that is accepted, two rows of two pixels of one byte, of one and of two of two bytes, of one of four
  pub starts_8 :
      map (λ f. bytes 4 (picture 0xCC 2 0x00020002 (from 7 f) 0x002)) (0 ∷ 1 ∷ 2 ∷ 3 ∷ [])
      ≡ (0 ∷ 1 ∷ 4 ∷ 5 ∷ []) ∷ (1 ∷ 2 ∷ 5 ∷ 6 ∷ []) ∷ (2 ∷ 3 ∷ 6 ∷ 7 ∷ []) ∷ (3 ∷ 4 ∷ 11 ∷ 12 ∷ []) ∷ []
  pub starts_16 :
      map (λ f. bytes 4 (picture 0x400000CC 2 0x00010002 (from 7 f) 0x002)) (0 ∷ 1 ∷ 2 ∷ [])
      ++ map (λ f. bytes 8 (picture 0x500000CC 4 0x00020002 (from 7 f) 0x002)) (0 ∷ 2 ∷ [])
      ≡ (0 ∷ 1 ∷ 4 ∷ 5 ∷ []) ∷ (1 ∷ 2 ∷ 5 ∷ 6 ∷ []) ∷ (2 ∷ 3 ∷ 6 ∷ 7 ∷ [])
      ∷ (0 ∷ 1 ∷ 2 ∷ 3 ∷ 4 ∷ 5 ∷ 6 ∷ 7 ∷ []) ∷ (2 ∷ 3 ∷ 4 ∷ 5 ∷ 10 ∷ 11 ∷ 12 ∷ 13 ∷ []) ∷ []
  pub starts_32 : bytes 8 (picture 0x800000CC 4 0x00010002 (from 7 0) 0x002) ≡ series 0 1 8
  -- "discards any data remaining in the DWORD .. and begins the next line .. in the next DWORD received": rows that end before, at
  -- and after the end of a word
  pub row_ends :
      map (λ w. bytes (2 * w) (picture 0xCC w (w * 2 ^ 16 + 2) 0 0x002)) (3 ∷ 4 ∷ 5 ∷ [])
      ++ map (λ w. bytes (2 * w) (picture 0xCC w (w * 2 ^ 16 + 2) 1 0x002)) (2 ∷ 3 ∷ 4 ∷ [])
      ≡ (0 ∷ 1 ∷ 2 ∷ 4 ∷ 5 ∷ 6 ∷ []) ∷ series 0 1 8 ∷ (series 0 1 5 ++ series 8 1 5)
      ∷ (1 ∷ 2 ∷ 5 ∷ 6 ∷ []) ∷ (1 ∷ 2 ∷ 3 ∷ 5 ∷ 6 ∷ 7 ∷ []) ∷ (series 1 1 4 ++ series 9 1 4) ∷ []
  -- 000, Table 6-23, byte-packed: two rows in a word; and Table 6-24, unpacked: each row in a word of its own
  pub table_6_23 :
      four_ways 0x082 (0xC0C37FE9 ∷ 0x00003FCF ∷ []) ≡ letters_frame 3 2 ∷ letters_frame 2 3 ∷ letters_frame 3 9 ∷ letters_frame 9 3 ∷ []
  pub table_6_24 :
      four_ways 0x042 (0xFFFF7FE9 ∷ 0x0000C0C3 ∷ 0xFFFF3FCF ∷ [])
      ≡ letters_frame 3 2 ∷ letters_frame 2 3 ∷ letters_frame 3 9 ∷ letters_frame 9 3 ∷ []
  -- a transparent pixel costs its unit
  pub transparent_units :
      (sent (letters 0x08CC 0 0x082) (data_of (0xC0C37FE9 ∷ 0x00003FCF ∷ [])) (replicate 24 9)).1 ≡ (Ran Waiting 25 (size - 1), 4, 1, Idle)
  -- "In byte-packed mode, the XLSBSs are used to index into the first byte of every new line": the first row begins at byte f, the
  -- others right after it. "In unpacked mode, both the OFFSET and XLSBSs are used to index into the first DWORD of every new line"
  pub packed_starts :
      in_words 24 (letters 0xCC 1 0x082) (0xC37FE9FF ∷ 0xFF3FCFC0 ∷ [])
      ∷ in_words 24 (letters 0xCC 2 0x082) (0x7FE90000 ∷ 0x3FCFC0C3 ∷ [])
      ∷ in_words 24 (letters 0xCC 3 0x082) (0xE9000000 ∷ 0xCFC0C37F ∷ 0xFFFFFF3F ∷ []) ∷ []
      ≡ replicate 3 (letters_frame 3 2)
  pub unpacked_starts :
      in_words 24 (letters 0xCC 1 0x042) (0x007FE9FF ∷ 0xFFC0C300 ∷ 0x003FCFFF ∷ [])
      ∷ in_words 24 (letters 0xCC 2 0x042) (0x7FE90000 ∷ 0xC0C3FFFF ∷ 0x3FCF0000 ∷ [])
      ∷ in_words 24 (letters 0xCC 3 0x042) (0xE9FFFFFF ∷ 0x0000007F ∷ 0xC3000000 ∷ 0xFFFFFFC0 ∷ 0xCFFFFFFF ∷ 0x0000003F ∷ []) ∷ []
      ≡ replicate 3 (letters_frame 3 2)
  -- a row that ends with its word, and one with a bit in the next word: unpacked rows then take two words, byte-packed ones two bytes
  pub last_bit_holds :
      last_bit 0x042 1 (0x01000000 ∷ 0xFEFFFFFF ∷ []) ∷ last_bit 0x042 2 (0x01000000 ∷ 0xFFFFFF7F ∷ 0xFEFFFFFF ∷ 0x00000080 ∷ [])
      ∷ last_bit 0x082 1 (0x01000000 ∷ 0xFFFFFFFE ∷ []) ∷ last_bit 0x082 2 (0x01000000 ∷ 0xFF80FE7F ∷ []) ∷ []
      ≡ (3 ∷ 2 ∷ []) ∷ (3 ∷ 2 ∷ 2 ∷ 3 ∷ []) ∷ (3 ∷ 2 ∷ []) ∷ (3 ∷ 2 ∷ 2 ∷ 3 ∷ []) ∷ []
  -- the colours of two and of four bytes
  pub wide_pixels :
      map
      (λ raster. in_words 8 (picture raster 0 0x00020001 0 0x042 but SRC_COLOR_FG is 0x04030201 but SRC_COLOR_BG is 0x08070605) (0x80 ∷ []))
      (0x600000CC ∷ 0x800000CC ∷ [])
      ≡ (1 ∷ 2 ∷ 5 ∷ 6 ∷ 9 ∷ 9 ∷ 9 ∷ 9 ∷ []) ∷ series 1 1 8 ∷ []
  -- "X and Y moving only the destination": colour; unpacked and byte-packed mono, rows A0h and 60h; two bytes a pixel, the first at
  -- bytes 2 and 3
  pub directions :
      four_directions 0x002 (counting 2)
      ≡ (0 ∷ 1 ∷ 2 ∷ 4 ∷ 5 ∷ 6 ∷ []) ∷ (2 ∷ 1 ∷ 0 ∷ 6 ∷ 5 ∷ 4 ∷ []) ∷ (4 ∷ 5 ∷ 6 ∷ 0 ∷ 1 ∷ 2 ∷ []) ∷ (6 ∷ 5 ∷ 4 ∷ 2 ∷ 1 ∷ 0 ∷ []) ∷ []
  pub mono_directions :
      four_directions 0x042 (0xA0 ∷ 0x60 ∷ []) ∷ four_directions 0x082 (0x60A0 ∷ []) ∷ []
      ≡ replicate 2
      ((3 ∷ 2 ∷ 3 ∷ 2 ∷ 3 ∷ 3 ∷ []) ∷ (3 ∷ 2 ∷ 3 ∷ 3 ∷ 3 ∷ 2 ∷ []) ∷ (2 ∷ 3 ∷ 3 ∷ 3 ∷ 2 ∷ 3 ∷ []) ∷ (3 ∷ 3 ∷ 2 ∷ 3 ∷ 2 ∷ 3 ∷ []) ∷ [])
  pub left_16 : bytes 4 (picture 0x600000CC 4 0x00020001 0 0x202 but DST_OFFSET is 3) ≡ 2 ∷ 3 ∷ 0 ∷ 1 ∷ []
  -- beside a mono pattern: right, left, and with pattern transparency
  pub mono_pattern :
      patterned 0x13C 0 0x002 ∷ patterned 0x13C 3 0x202 ∷ patterned 0x53C 0 0x002 ∷ []
      ≡ (0x20 ∷ 0x11 ∷ 0x22 ∷ 0x13 ∷ []) ∷ (0x23 ∷ 0x12 ∷ 0x21 ∷ 0x20 ∷ []) ∷ (0x20 ∷ 9 ∷ 0x22 ∷ 9 ∷ []) ∷ []
  -- beside the tile, by RASTER_MODE and by channel 3; a pixel that is transparent by its source writes nothing
  pub color_pattern :
      tiled (picture 0x23C 4 0x00040002 0 0x002 but DST_OFFSET is 0xF8000000) (counting 2)
      ∷ tiled (picture 0x03C 4 0x00040002 0 0x002 but CH3_OFFSET is 0xF8000000 but CH3_MODE_STR is 0x80200000) (counting 2)
      ∷ tiled (picture 0xAF0 0 0x00040001 0 0x042) (0xA0 ∷ []) ∷ []
      ≡ (62 ∷ 62 ∷ 58 ∷ 58 ∷ 2 ∷ 2 ∷ 6 ∷ 6 ∷ []) ∷ (62 ∷ 62 ∷ 58 ∷ 58 ∷ 2 ∷ 2 ∷ 6 ∷ 6 ∷ []) ∷ (0 ∷ 9 ∷ 2 ∷ 9 ∷ 9 ∷ 9 ∷ 9 ∷ 9 ∷ []) ∷ []

-- ---- what judges them

-- the numbers for a host source of this size from starting bytes 0 to 3, in 16 bytes of frame memory
abbrev pub judged_from : (raster size mode : ℕ) → List ℕ
judged_from raster size mode = map (λ f. judge Blt (picture raster 0 size (from 7 f) mode) 16) (0 ∷ 1 ∷ 2 ∷ 3 ∷ [])

pub record HostJudged : Type 0 where
  -- 24 keeps "host source [where] a pixel would straddle two words": at four bytes a pixel from bytes 1 to 3, at two from byte 3, and
  -- from byte 1 where a row has a second pixel
  pub straddling_32 : map (λ size. judged_from 0x800000CC size 0x002) (0x00010001 ∷ 0x00020002 ∷ []) ≡ replicate 2 (0 ∷ 24 ∷ 24 ∷ 24 ∷ [])
  pub straddling_16 :
      map (λ raster. map (λ size. judged_from raster size 0x002) (0x00010001 ∷ 0x00010004 ∷ 0x00020001 ∷ []))
      (0x400000CC ∷ 0x500000CC ∷ 0x600000CC ∷ [])
      ≡ replicate 3 ((0 ∷ 0 ∷ 0 ∷ 24 ∷ []) ∷ (0 ∷ 0 ∷ 0 ∷ 24 ∷ []) ∷ (0 ∷ 24 ∷ 0 ∷ 24 ∷ []) ∷ [])
  pub straddling_8 : map (λ size. judged_from 0x000000CC size 0x002) (0x00010001 ∷ 0x00050003 ∷ []) ≡ replicate 2 (replicate 4 0)
  -- with width or height 0 there is no pixel that would, so 25; and 24 comes before 27
  pub no_pixel :
      map (λ raster. map (λ size. judged_from raster size 0x002) (0x00000001 ∷ 0x00020000 ∷ [])) (0x600000CC ∷ 0x800000CC ∷ [])
      ≡ replicate 2 (replicate 2 (replicate 4 25))
  pub before_27 : judged_from 0x800000CC 0x00050001 0x002 ≡ 27 ∷ 24 ∷ 24 ∷ 24 ∷ []
  -- not of a mono source, nor of one that is not the host's; 24 stays for source select 11 and source mode 11; 28 is judged of frame
  -- memory alone
  pub mono_taken : map (judged_from 0x800000CC 0x00020002) (0x042 ∷ 0x082 ∷ []) ≡ replicate 2 (replicate 4 0)
  pub selects :
      map (judged_from 0x800000CC 0x00010001) (0x000 ∷ 0x001 ∷ 0x002 ∷ 0x003 ∷ 0x043 ∷ 0x0C2 ∷ [])
      ≡ replicate 4 0 ∷ replicate 4 28 ∷ (0 ∷ 24 ∷ 24 ∷ 24 ∷ []) ∷ replicate 4 24 ∷ replicate 4 24 ∷ replicate 4 24 ∷ []
  -- W1's 24 is for mono "from frame memory with X negative, or byte-packed with Y negative": not for the host's
  pub host_directions :
      map (λ mode. judge Blt (picture 0xCC 2 0x00020002 0 mode but DST_OFFSET is 8) 16) (0x242 ∷ 0x282 ∷ 0x142 ∷ 0x182 ∷ 0x342 ∷ 0x382 ∷ [])
      ≡ replicate 6 0
  -- 24 keeps source transparency and inversion of a colour source, and pattern inversion
  pub host_bits :
      map (λ mode. map (λ raster. judge Blt (picture raster 2 0x00020002 0 mode) 16) (0x20CC ∷ 0x08CC ∷ 0x10CC ∷ []))
      (0x002 ∷ 0x042 ∷ 0x082 ∷ [])
      ≡ replicate 3 24 ∷ (0 ∷ 0 ∷ 24 ∷ []) ∷ (0 ∷ 0 ∷ 24 ∷ []) ∷ []

-- ---- data commands

abbrev pub feed : (before count : ℕ) → Bool → Feed
feed before count w = record { before = before; count = count; returns = w }

-- 3 by 2 pixels of one byte from starting byte 2: pixels 0 and 1 in word 0, 2 in word 1, 3 and 4 in word 2, 5 in word 3
abbrev pub steps : List ℕ
steps = picture 0xCC 3 0x00030002 2 0x002

-- two rows of four bytes, a word each: the first by a data command with W ten words before the ring's end, the second by one at ring
-- word 0; with the write pointer at `write`
abbrev pub returning : List ℕ
returning = placed (size - 10) (0xE0000001 ∷ 1 ∷ counting 1) (ring_of (data_of (0x07060504 ∷ [])))

abbrev pub returning_at : (write : ℕ) → State
returning_at write = engine (picture 0xCC 4 0x00040002 0 0x002) 8 (size - 10) write (Wanting 0)

-- a row of four bytes
abbrev pub one_word : (mode : ℕ) → List ℕ
one_word mode = picture 0xCC 4 0x00040001 0 mode

-- the logo's words from ring word `read` on, in data commands of so many words each
abbrev pub across : (counts : List ℕ) → (read : ℕ) → List ℕ × Seen
across counts read =
    let words = split counts (counting 4) in
    shown (placed read words (ring_of [])) (engine logo 10 read ((read + length words) % size) (Wanting 0)) (replicate 10 99)

-- a ring with the logo in one data command, and the state once that is accepted
abbrev pub logo_ring : List ℕ
logo_ring = ring_of (data_of (counting 4))

abbrev pub accepted : State
accepted = (run logo_ring (engine logo 10 0 6 (Wanting 0)) (replicate 10 99) 1).state

-- what comes of a place with n of these words waiting from ring word `read` on: units, completion number, stop number and place
abbrev pub meets : Place → (read n : ℕ) → List ℕ → ℕ × ℕ × ℕ × Place
meets place read n words =
    let a = run (placed read words (ring_of [])) (engine_at steps 6 read ((read + n) % size) 7 0 place) (replicate 6 9) 9 in
    (units_of a.reply, a.state.core.completion, a.state.core.stop, a.state.core.place)

-- it waits; it is refused by this number; the picture is taken, in a data command
abbrev pub stays : ℕ × ℕ × ℕ × Place
stays = (0, 7, 0, Wanting 0)

abbrev pub stopped_by : ℕ → ℕ × ℕ × ℕ × Place
stopped_by number = (1, 7, number, Idle)

abbrev pub taken : ℕ × ℕ × ℕ × Place
taken = (7, 8, 0, Idle)

-- the count words that 32 is for: counts 0, ring size less 2, 8001h and FFFFh, each DTYPE but 000, the lowest and the highest reserved
-- bit
abbrev pub bad_words : List ℕ
bad_words =
    0x00000000 ∷ (size - 2) ∷ 0x00008001 ∷ 0x0000FFFF
    ∷ 0x20000001 ∷ 0x40000001 ∷ 0x60000001 ∷ 0x80000001 ∷ 0xA0000001 ∷ 0xC0000001 ∷ 0xE0000001
    ∷ 0x00010001 ∷ 0x10000001 ∷ []

abbrev pub counted : Place → (header n : ℕ) → List ℕ → List (ℕ × ℕ × ℕ × Place)
counted place header n counts = map (λ c. meets place 0 n (header ∷ c ∷ [])) counts

-- the first word of a picture, then a command that is refused by 30, 21, 32 or 22
abbrev pub between : List ℕ → Answer
between words = run (ring_of (data_of (counting 1) ++ words)) (engine_at steps 6 0 5 7 0 (Wanting 0)) (replicate 6 9) 9

-- data commands, and the BLT that they feed
pub record DataCommands : Type 0 where
  -- loaded, a host BLT wants data, whatever the raster code: one with F0h still waits for its data and takes it. With 16 words, the
  -- BLT's 17, and the first, second and last word of a data command
  pub from_the_load :
      let blt = one_word 0x002 but RASTER_MODE is 0xF0 but PAT_COLOR_0 is 5 in
      map (λ n. shown (ring_of (command blt ++ data_of (counting 1))) (engine zeros 4 0 n Idle) (replicate 4 9)) (16 ∷ 17 ∷ 18 ∷ 19 ∷ 20 ∷ [])
      ≡ (replicate 4 9, (Ran Waiting 0 (size - 17), 0, 0, Idle))
      ∷ (replicate 4 9, (Ran Waiting 1 (size - 1), 17, 0, Wanting 0))
      ∷ (replicate 4 9, (Ran Waiting 1 (size - 2), 17, 0, Wanting 0))
      ∷ (replicate 4 9, (Ran Waiting 1 (size - 3), 17, 0, Wanting 0))
      ∷ (replicate 4 5, (Ran Waiting 6 (size - 1), 20, 1, Idle))
      ∷ []
  -- one that only loads wants no data, and is retired by its load; nor does a vector want any, whatever BLT_MODE has
  pub wants_none :
      seen (run (ring_of (command (one_word 0x002) but 0 is 0x7FFF)) (engine (one_word 0x002) 4 0 17 Idle) (replicate 4 9) 9)
      ∷ seen (run (ring_of (0x20001000 ∷ [])) (engine (one_word 0x002 but VEC_LEN is 0x00010000) 4 0 14 Idle) (replicate 4 9) 1)
      ∷ []
      ≡ (Ran Waiting 1 (size - 1), 17, 1, Idle) ∷ (Ran Spent 1 (size - 1), 14, 0, Drawing Vector 0) ∷ []
  -- "Accepting a whole data command is one unit; its words stay waiting, and the read pointer passes it in the unit that draws the last
  -- pixel it feeds": three of them, with one, two and two words, the last of which is left over, after each unit. The completion number
  -- rises once, with the last pixel
  pub each_unit :
      map
      (λ n. seen (run (ring_of (split (1 ∷ 2 ∷ 2 ∷ []) (counting 5))) (engine_at steps 6 0 11 7 0 (Wanting 0)) (replicate 6 9) n))
      (series 0 1 11)
      ≡ (Ran Spent 0 (size - 12), 0, 7, Wanting 0)
      ∷ (Ran Spent 1 (size - 12), 0, 7, Fed 0 (feed 0 1 false))
      ∷ (Ran Spent 2 (size - 12), 0, 7, Fed 1 (feed 0 1 false))
      ∷ (Ran Spent 3 (size - 9), 3, 7, Wanting 2)
      ∷ (Ran Spent 4 (size - 9), 3, 7, Fed 2 (feed 1 2 false))
      ∷ (Ran Spent 5 (size - 9), 3, 7, Fed 3 (feed 1 2 false))
      ∷ (Ran Spent 6 (size - 9), 3, 7, Fed 4 (feed 1 2 false))
      ∷ (Ran Spent 7 (size - 5), 7, 7, Wanting 5)
      ∷ (Ran Spent 8 (size - 5), 7, 7, Fed 5 (feed 3 2 false))
      ∷ replicate 2 (Ran Waiting 9 (size - 1), 11, 8, Idle)
  -- nothing else of the state moves: registers, table and write pointer, at the acceptance and at the end; header bit 0 and S have no
  -- effect
  pub headers_taken :
      map
      (λ header. map (λ n. (run (logo_ring but 0 is header) (engine logo 10 0 6 (Wanting 0)) (replicate 10 99) n).state) (1 ∷ 11 ∷ []))
      (0x60000001 ∷ 0x60000000 ∷ 0x70000000 ∷ 0x70000001 ∷ [])
      ≡ replicate 4 (engine logo 10 0 6 (Fed 0 (feed 0 4 false)) ∷ engine_at logo 10 6 6 1 0 Idle ∷ [])
  -- the completion number goes from 4,294,967,295 to 0
  pub wraps : (run logo_ring (engine_at logo 10 0 6 0xFFFFFFFF 0 (Wanting 0)) (replicate 10 99) 99).state ≡ engine_at logo 10 6 6 0 0 Idle
  -- words of an accepted data command still wait: publishing and asking for room
  pub words_wait :
      let s = engine steps 6 3 11 (Fed 2 (feed 1 2 false)) in
      map (λ p. (publish s p).reply) (3 ∷ 6 ∷ 7 ∷ 10 ∷ 11 ∷ 2 ∷ []) ++ ((ask_room s).reply ∷ [])
      ≡ replicate 4 (Refused 6) ++ (Accepted (size - 9) ∷ Accepted 0 ∷ Accepted (size - 9) ∷ [])
  -- "its header and count word are not read again": the host makes them a BLT's, a bad one, one with W and another count
  pub not_read_again :
      map (λ (w : ℕ × ℕ). shown (logo_ring but 0 is w.0 but 1 is w.1) accepted (replicate 10 99))
      ((0x60000001, 4) ∷ (0, 0) ∷ (0x48000000, 0xFFFFFFFF) ∷ (0xE0000001, 1) ∷ [])
      ≡ replicate 4 (logo_frame, (Ran Waiting 10 (size - 1), 6, 1, Idle))
  -- W: it waits for the words up to the ring's end, and the read pointer goes to 0 with the last pixel that it feeds; the picture goes
  -- on there
  pub returns_waits :
      map (λ write. seen (run returning (returning_at write) (replicate 8 9) 99)) ((size - 7) ∷ (size - 1) ∷ 0 ∷ 2 ∷ 3 ∷ [])
      ≡ (Ran Waiting 0 (size - 4), size - 10, 0, Wanting 0)
      ∷ (Ran Waiting 0 (size - 10), size - 10, 0, Wanting 0)
      ∷ (Ran Waiting 5 (size - 1), 0, 0, Wanting 4)
      ∷ (Ran Waiting 5 (size - 3), 0, 0, Wanting 4)
      ∷ (Ran Waiting 10 (size - 1), 3, 1, Idle)
      ∷ []
  pub returns_units :
      map (λ n. seen (run returning (returning_at 0) (replicate 8 9) n)) (0 ∷ 1 ∷ 4 ∷ 5 ∷ [])
      ≡ (Ran Spent 0 (size - 11), size - 10, 0, Wanting 0)
      ∷ (Ran Spent 1 (size - 11), size - 10, 0, Fed 0 (feed 0 1 true))
      ∷ (Ran Spent 4 (size - 11), size - 10, 0, Fed 3 (feed 0 1 true))
      ∷ (Ran Waiting 5 (size - 1), 0, 0, Wanting 4)
      ∷ []
  pub returns_frame : run_frame returning (returning_at 3) (replicate 8 9) 99 ≡ series 0 1 8
  -- without W its words may run across the ring's end: after its header, its count word and its first and third data word; and a
  -- second one, whose header is the ring's last word
  pub across_end :
      map (across (4 ∷ [])) ((size - 1) ∷ (size - 2) ∷ (size - 3) ∷ (size - 5) ∷ []) ++ (across (1 ∷ 3 ∷ []) (size - 4) ∷ [])
      ≡ map (λ (s : ℕ × ℕ). (logo_frame, (Ran Waiting s.0 (size - 1), s.1, 1, Idle)))
      ((11, 5) ∷ (11, 4) ∷ (11, 3) ∷ (11, 1) ∷ (12, 4) ∷ [])
  -- "Words left over at the last pixel are dropped": the next BLT takes none of them. With W the read pointer goes to 0
  pub left_over :
      sent (one_word 0x002)
      (data_of (0x03020100 ∷ 0xAAAAAAAA ∷ 0xBBBBBBBB ∷ []) ++ command (one_word 0x002 but DST_OFFSET is 4) ++ data_of (0x07060504 ∷ []))
      (replicate 8 9)
      ≡ (series 0 1 8, (Ran Waiting 11 (size - 1), 25, 2, Idle))
  pub left_over_returns :
      shown (placed 5 (0xE0000001 ∷ 3 ∷ counting 3) (ring_of [])) (engine (one_word 0x002) 4 5 0 (Wanting 0)) (replicate 4 9)
      ≡ (0 ∷ 1 ∷ 2 ∷ 3 ∷ [], (Ran Waiting 5 (size - 1), 0, 1, Idle))
  -- "a BLT that wants data, with no data command accepted, counts as not being drawn": waiting is said until a whole one waits
  pub waiting_said :
      map (λ n. (run (ring_of (data_of (counting 2))) (engine steps 6 0 n (Wanting 0)) (replicate 6 9) 0).reply) (0 ∷ 1 ∷ 2 ∷ 3 ∷ 4 ∷ [])
      ≡ map (λ room. Ran Waiting 0 room) ((size - 1) ∷ (size - 2) ∷ (size - 3) ∷ (size - 4) ∷ []) ++ (Ran Spent 0 (size - 5) ∷ [])
  -- a BLT that wants data is left only by its data or by a stop: until then "engine not stopped", 7
  pub restart_refused :
      map (λ place. restart (engine steps 6 3 11 place)) (Wanting 2 ∷ Fed 2 (feed 1 2 false) ∷ [])
      ≡ map (λ place. answer (engine steps 6 3 11 place) (Refused 7)) (Wanting 2 ∷ Fed 2 (feed 1 2 false) ∷ [])

-- 30, 31, 32, and 21 and 22 with them
pub record DataRefused : Type 0 where
  -- 30: "any other command while a BLT still wants data", by its header alone: loads and drawing commands, S, and W at ring word 0,
  -- which would be 22; of each kind
  pub others_refused :
      map (λ header. meets (Wanting 2) 0 1 (header ∷ []))
      (0x00000000 ∷ 0x0000FFFF ∷ 0x1000FFFF ∷ 0x80000000 ∷ 0x20000000 ∷ 0xA0001FFF ∷ 0x40000003 ∷ 0xC0000003 ∷ [])
      ≡ replicate 8 (stopped_by 30)
  -- and whole ones: a register load, one that 23 would be for, a table load, and one that 29 would be for
  pub whole_others :
      map (λ (w : ℕ × List ℕ). meets (Wanting 0) 0 w.0 w.1)
      ((17, 0x00000001 ∷ []) ∷ (17, 0x00008001 ∷ 0x100000AB ∷ []) ∷ (4, 0x40000003 ∷ 0 ∷ 0x60000001 ∷ []) ∷ (3, 0x40000003 ∷ []) ∷ [])
      ≡ replicate 4 (stopped_by 30)
  -- 31: "data that nobody wants", by its header alone, with W at ring word 0 too; before 32; after a picture's last pixel, and after
  -- those of a BLT that wants none, until which it is not looked at
  pub data_first :
      map (λ header. meets Idle 0 1 (header ∷ [])) (0x60000000 ∷ 0x60000001 ∷ 0x70000001 ∷ 0xE0000001 ∷ []) ≡ replicate 4 (stopped_by 31)
  pub data_first_counts :
      map (λ header. counted Idle header 2 bad_words) (0x60000001 ∷ 0xE0000001 ∷ []) ≡ replicate 2 (replicate 13 (stopped_by 31))
  pub data_after :
      (sent logo (split (4 ∷ 1 ∷ []) (counting 5)) (replicate 10 99)).1
      ∷ seen (run (ring_of (data_of (counting 1))) (engine (one_word 0x000) 4 0 3 (Drawing Blt 2)) (replicate 4 9) 99) ∷ []
      ≡ (Ran Stopped 12 (size - 4), 6, 1, Idle) ∷ (Ran Stopped 3 (size - 4), 0, 1, Idle) ∷ []
  -- 21 before both: a bit of each kind's header, and the lowest and the highest of a data command's
  pub headers_first :
      map (λ place. map (λ header. meets place 0 1 (header ∷ [])) (0x00010000 ∷ 0x20002000 ∷ 0x40000004 ∷ 0x60000002 ∷ 0x68000000 ∷ []))
      (Idle ∷ Wanting 0 ∷ [])
      ≡ replicate 2 (replicate 5 (stopped_by 21))
  -- 32: "a count of 0, a count above ring size less 3, a reserved bit or another DTYPE", "when the count word waits, then 22": with one
  -- word and with two, without W and with it at ring word 0
  pub counts_wait : map (λ header. counted (Wanting 0) header 1 bad_words) (0x60000001 ∷ 0xE0000001 ∷ []) ≡ replicate 2 (replicate 13 stays)
  pub counts_refused :
      map (λ header. counted (Wanting 0) header 2 bad_words) (0x60000001 ∷ 0xE0000001 ∷ []) ≡ replicate 2 (replicate 13 (stopped_by 32))
  -- a count of ring size less 3 fills the ring: it is taken once all its words wait; a larger ring takes more
  pub count_most_holds :
      map (λ n. meets (Wanting 0) 0 n (0x60000001 ∷ (size - 3) ∷ [])) (2 ∷ (size - 2) ∷ (size - 1) ∷ []) ≡ stays ∷ stays ∷ taken ∷ []
  pub count_larger : map (bad_data_word 2_048) (2_045 ∷ 2_046 ∷ []) ≡ false ∷ true ∷ []
  -- "22, which for this kind waits for the count word": W at ring word 0 and across the ring's end, with one word and with two; three
  -- words, and six, that end at the ring's end are taken
  pub returns_wait :
      map (λ read. meets (Wanting 0) read 1 (0xE0000001 ∷ 1 ∷ [])) (0 ∷ (size - 1) ∷ (size - 2) ∷ (size - 3) ∷ []) ≡ replicate 4 stays
  pub returns_refused :
      map (λ read. meets (Wanting 0) read 2 (0xE0000001 ∷ 1 ∷ [])) (0 ∷ (size - 1) ∷ (size - 2) ∷ (size - 3) ∷ [])
      ++ map (λ read. meets (Wanting 0) read 6 (0xE0000001 ∷ 4 ∷ [])) ((size - 5) ∷ (size - 6) ∷ [])
      ≡ replicate 3 (stopped_by 22) ++ (stays ∷ stopped_by 22 ∷ taken ∷ [])
  -- "Any stop while data is wanted abandons the BLT unretired": 30, 21, 32 and 22 after the first word. What was drawn stays; after a
  -- restart nothing is in progress
  pub abandoned :
      map (λ words. (between words).state) ((0xFFFF ∷ []) ∷ (0x60000002 ∷ []) ∷ (0x60000001 ∷ []) ∷ (0xE0000001 ∷ (size - 4) ∷ []) ∷ [])
      ≡ map (λ number. engine_at steps 6 3 5 7 number Idle) (30 ∷ 21 ∷ 32 ∷ 22 ∷ [])
  pub abandoned_seen :
      shown (ring_of (data_of (counting 1) ++ (0xFFFF ∷ []))) (engine_at steps 6 0 5 7 0 (Wanting 0)) (replicate 6 9)
      ≡ (2 ∷ 3 ∷ 9 ∷ 9 ∷ 9 ∷ 9 ∷ [], (Ran Stopped 4 (size - 3), 3, 7, Idle))
  pub restarted : restart (between (0xFFFF ∷ [])).state ≡ answer (engine_at steps 6 5 5 7 0 Idle) (Accepted (size - 1))

-- ---- row 3

-- the state that the steps are in at pixel 3, which lies in word 2, with nine words waiting from ring word 1 on
abbrev pub fed_unfit : (before count : ℕ) → Bool
fed_unfit before count = unfit (engine steps 6 1 10 (Fed 3 (feed before count false)))

-- with W or without, the read and the write pointer at these
abbrev pub feed_unfit : (w : Bool) → (count read write : ℕ) → Bool
feed_unfit w count read write = unfit (engine steps 6 read write (Fed 3 (feed 0 count w)))

pub record HostPlaces : Type 0 where
  -- "a place that no split of the BLT's words into data commands reaches": with none accepted the next pixel is the first of its word,
  -- and one of the BLT's. Colour; byte-packed and unpacked mono, two rows of two pixels from the last bit of a word
  pub wanting : map (λ k. unfit (engine steps 6 0 0 (Wanting k))) (series 0 1 7) ≡ false ∷ true ∷ false ∷ false ∷ true ∷ false ∷ true ∷ []
  pub wanting_mono :
      map (λ mode. map (λ k. unfit (engine (picture 0xCC 2 0x00020002 (from 7 3) mode) 4 0 0 (Wanting k))) (series 0 1 5))
      (0x082 ∷ 0x042 ∷ [])
      ≡ (false ∷ false ∷ true ∷ true ∷ true ∷ []) ∷ (false ∷ false ∷ false ∷ false ∷ true ∷ []) ∷ []
  -- with one accepted, the next pixel lies in one of its words: not before them, not after them, and there is one
  pub fed_before : map (λ before. fed_unfit before 1) (0 ∷ 1 ∷ 2 ∷ 3 ∷ []) ≡ true ∷ true ∷ false ∷ true ∷ []
  pub fed_after : map (λ count. fed_unfit 0 count) (0 ∷ 2 ∷ 3 ∷ 4 ∷ []) ≡ true ∷ true ∷ false ∷ false ∷ []
  pub fed_none : fed_unfit 2 0 ≡ true
  pub fed_last : map (λ k. unfit (engine steps 6 1 10 (Fed k (feed 3 4 false)))) (5 ∷ 6 ∷ []) ≡ false ∷ true ∷ []
  -- "a count or W that 32 or 22 would refuse at the read pointer": ring size less 3 and less 2, with the ring full; W at ring word 0, and
  -- five words that end at the ring's end and one later
  pub fed_count : map (λ count. feed_unfit false count 5 4) ((size - 3) ∷ (size - 2) ∷ []) ≡ false ∷ true ∷ []
  pub fed_return :
      feed_unfit true 3 0 (size - 1) ∷ map (λ read. feed_unfit true 3 read 9) ((size - 5) ∷ (size - 4) ∷ []) ≡ true ∷ false ∷ true ∷ []
  -- "a data command whose words, with W also those up to the ring's end, don't all wait"
  pub fed_waiting :
      map (feed_unfit false 3 1) (1 ∷ 5 ∷ 6 ∷ [])
      ∷ map (feed_unfit false 3 (size - 2)) (2 ∷ 3 ∷ [])
      ∷ map (feed_unfit true 3 (size - 9)) ((size - 4) ∷ (size - 1) ∷ 0 ∷ [])
      ∷ []
      ≡ (true ∷ true ∷ false ∷ []) ∷ (true ∷ false ∷ []) ∷ (true ∷ true ∷ false ∷ []) ∷ []
  -- and so each call refuses such a state by 3
  pub fed_calls :
      let s = engine steps 6 1 5 (Fed 3 (feed 0 3 false)) in
      publish s 6 ∷ restart s ∷ ask_room s ∷ run (ring_of []) s (replicate 6 9) 9 ∷ [] ≡ replicate 4 (answer s (Refused 3))
  -- a BLT wants data or is fed exactly where its source is the host's; BLT_MODE says nothing of a vector
  pub selected :
      map (λ mode. map (λ place. unfit (engine (one_word mode) 4 0 3 place)) (Drawing Blt 0 ∷ Wanting 0 ∷ Fed 0 (feed 0 1 false) ∷ []))
      (0x000 ∷ 0x001 ∷ 0x002 ∷ 0x042 ∷ [])
      ≡ replicate 2 (false ∷ true ∷ true ∷ []) ++ replicate 2 (true ∷ false ∷ false ∷ [])
  pub vector_drawn : unfit (engine (one_word 0x002 but VEC_LEN is 0x00010000) 4 0 0 (Drawing Vector 0)) ≡ false
  -- "a stop together with a command in progress"; one that judging would refuse: a pixel would straddle, or lies outside
  pub host_stopped :
      map (λ place. map (λ stop. unfit (engine_at (one_word 0x002) 4 0 3 0 stop place)) (0 ∷ 21 ∷ 30 ∷ 32 ∷ []))
      (Wanting 0 ∷ Fed 0 (feed 0 1 false) ∷ [])
      ≡ replicate 2 (false ∷ true ∷ true ∷ true ∷ [])
  pub host_judged :
      map (λ registers. map (λ place. unfit (engine registers 4 0 3 place)) (Wanting 0 ∷ Fed 0 (feed 0 1 false) ∷ []))
      (picture 0x800000CC 0 0x00010001 0 0x002 ∷ picture 0x800000CC 0 0x00010001 1 0x002 ∷ (one_word 0x002 but DST_OFFSET is 1) ∷ [])
      ≡ (false ∷ false ∷ []) ∷ (true ∷ true ∷ []) ∷ (true ∷ true ∷ []) ∷ []

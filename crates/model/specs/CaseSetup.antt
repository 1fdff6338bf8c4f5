-- How the cases are set up: rings, registers and engines that differ from zeros in a few places.
use Rattle.std.specs.Prelude.{ℕ, zero, suc, ◌+◌, ◌-◌, ◌%◌, List, [], ◌∷◌, ◌++◌, length, replicate, set}
use Rattle.model.specs.Registers.{register_count, RASTER_MODE, DST_OFFSET, SRC_OFFSET, STRIDE, WID_HEIGHT, BLT_MODE, VEC_LEN}
use Rattle.model.specs.declared.State.{State}
use Rattle.model.specs.declared.Answer.{Answer}
use Rattle.model.specs.declared.Place.{Place}
use Rattle.model.specs.declared.Reply.{Reply}

-- the ring of the cases, the least that W4 leaves: "Number 1 now refuses rings below 1,024; the 64-word cases are restated at
-- 1,024". Late positions are counted from its end: word 50 of 64 is now word 1010, size - 14
abbrev pub size : ℕ
size = 1_024

-- a list with another value in one place
infixl 30 ◌but◌is◌
abbrev pub ◌but◌is◌ : List ℕ → ℕ → ℕ → List ℕ
list but place is value = set list place value

-- registers that are all 0, and a ring that begins with these words
abbrev pub zeros : List ℕ
zeros = replicate register_count 0

abbrev pub ring_of : List ℕ → List ℕ
ring_of words = words ++ replicate (size - length words) 0

-- a table that is all 0: W4's "512-word table"
abbrev pub no_table : List ℕ
no_table = replicate 512 0

-- an engine with this table, one whose table is all 0, and one that has neither retired a command nor stopped
abbrev pub engine_with : (table registers : List ℕ) → (framelength read write completion stop : ℕ) → Place → State
engine_with table registers framelength read write completion stop place = record {
  core = record {
    registers = registers;
    read = read;
    ringlength = size;
    framelength = framelength;
    completion = completion;
    stop = stop;
    place = place;
  };
  table = table;
  write = write;
}

abbrev pub engine_at : List ℕ → (framelength read write completion stop : ℕ) → Place → State
engine_at = engine_with no_table

abbrev pub engine : List ℕ → (framelength read write : ℕ) → Place → State
engine registers framelength read write place = engine_at registers framelength read write 0 0 place

abbrev pub answer : State → Reply → Answer
answer s reply = record { state = s; reply = reply }

-- one row of four pixels of one byte by code F0h, and a copy of one by CCh (BLT_MODE 1h, or 201h with X negative)
abbrev pub row : List ℕ
row = zeros but RASTER_MODE is 0xF0 but WID_HEIGHT is 0x00040001

abbrev pub copy : (src dst mode : ℕ) → List ℕ
copy src dst mode = row but RASTER_MODE is 0xCC but SRC_OFFSET is src but DST_OFFSET is dst but BLT_MODE is mode

-- a vector of one pixel of one byte by code F0h, stride 2
abbrev pub line : List ℕ
line = zeros but RASTER_MODE is 0xF0 but STRIDE is 2 but VEC_LEN is 0x00010000

-- n numbers from `first` on, `step` apart
abbrev pub series : (first step n : ℕ) → List ℕ
series first step zero = []
series first step (suc n) = first ∷ series (first + step) step n

-- a ring with these words from word `at` on, past its end from word 0
abbrev pub placed : (at : ℕ) → List ℕ → List ℕ → List ℕ
placed at [] ring = ring
placed at (w ∷ words) ring = placed (at + 1) words (ring but at % size is w)

-- a table with a tile in which byte number n is n: word 100h is 03020100h, word 13Fh is FFFEFDFCh
abbrev pub tile_table : List ℕ
tile_table = replicate 256 0 ++ series 0x03020100 0x04040404 64 ++ replicate 192 0

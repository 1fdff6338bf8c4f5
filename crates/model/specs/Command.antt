-- Commands in the ring: header, kind, length, what is drawn, wholeness, and the loading of the enabled words (document 01, The ring,
-- and document 02, W4 and W5; 000, Tables 6-8 to 6-12).
use Rattle.std.specs.Prelude.{ℕ, ◌+◌, ◌-◌, ◌%◌, Bool, true, false, not, ◌&&◌, ◌||◌, List, [], ◌∷◌, length, set, if◌then◌else◌, Option, Some, None}
use Rattle.model.specs.Choice.{◌<?◌, ◌=?◌}
use Rattle.model.specs.Refusals.{Rule, ◌when◌}
use Rattle.model.specs.Bits.{set?, field}
use Rattle.model.specs.Registers.{RASTER_MODE, DST_OFFSET, SRC_OFFSET, STRIDE, WID_HEIGHT, SRC_COLOR_FG, SRC_COLOR_BG, PAT_COLOR_0, PAT_COLOR_1, PAT_DATA_0, PAT_DATA_1, CH3_OFFSET, CH3_MODE_STR, CH3_WIDHI, BASE_OFFSET, BLT_MODE, VECTOR_MODE, LUT_INDEX, VEC_ERR, VEC_LEN, word}
use Rattle.model.specs.Ring.{word_at}
use Rattle.model.specs.Lookup.{data_type, data_count, bad_count, index_after, data_stored}
use Rattle.model.specs.declared.Primitive.{Primitive}
use Rattle.model.specs.declared.Kind.{Kind}
use Rattle.model.specs.declared.Kind.TheVariants.{Blt, Vector, Table, Data}
use Rattle.model.specs.declared.Primitive.TheVariants.{Blt as BltPrimitive, Vector as VectorPrimitive}

-- ---- the header

-- "bit 31 W (return to ring word 0 afterwards)"
abbrev pub returns : ℕ → Bool
returns header = set? header 31

-- "bits 30:29 kind (00 BLT, 01 vector)", 10 a table load (000, Table 6-10), 11 a data command (Table 6-11)
unfoldable pub kind_of : ℕ → Kind
kind_of header =
    if field header 30 29 =? 0b00 then Blt
    else if field header 30 29 =? 0b01 then Vector
    else if field header 30 29 =? 0b10 then Table
    else Data

-- 21: "header kind 10 or 11, or a header bit set that must be zero", where W4 has "21 stops covering kind 10" and W5 "21 stops
-- covering kind 11". W, kind, S (bit 28) and the write enables, 15:0 of a BLT, 12:0 of a vector and 1:0 of a table load, may be
-- set, and bit 0 of a data command, which has no effect there: "all other header bits are zero"
unfoldable pub bad_header : ℕ → Bool
bad_header header =
    if field header 30 29 =? 0b00 then not (field header 27 16 =? 0)
    else if field header 30 29 =? 0b01 then not (field header 27 13 =? 0)
    else if field header 30 29 =? 0b10 then not (field header 27 2 =? 0)
    else not (field header 27 1 =? 0)

abbrev pub is_data : Kind → Bool
is_data Blt = false
is_data Vector = false
is_data Table = false
is_data Data = true

-- ---- layout

-- the registers of the words after the header, in order. Of a table load's words the first is one: "Header bit 0 enables the
-- index". Then come its count word, which bit 1 leaves as it is, and the data. A data command has no word for a register
abbrev pub word_registers : Kind → List ℕ
word_registers Blt =
    RASTER_MODE ∷ DST_OFFSET ∷ SRC_OFFSET ∷ STRIDE ∷ WID_HEIGHT ∷ SRC_COLOR_FG ∷ SRC_COLOR_BG ∷ PAT_COLOR_0 ∷ PAT_COLOR_1
    ∷ PAT_DATA_0 ∷ PAT_DATA_1 ∷ CH3_OFFSET ∷ CH3_MODE_STR ∷ CH3_WIDHI ∷ BASE_OFFSET ∷ BLT_MODE ∷ []
word_registers Vector =
    RASTER_MODE ∷ DST_OFFSET ∷ VEC_ERR ∷ STRIDE ∷ VEC_LEN ∷ SRC_COLOR_FG ∷ PAT_COLOR_0 ∷ PAT_COLOR_1 ∷ PAT_DATA_0
    ∷ PAT_DATA_1 ∷ CH3_MODE_STR ∷ BASE_OFFSET ∷ VECTOR_MODE ∷ []
word_registers Table = LUT_INDEX ∷ []
word_registers Data = []

-- the place of the count word, which a table load and a data command have. The others are judged by the header alone
abbrev pub count_place : Kind → ℕ
count_place Blt = 0
count_place Vector = 0
count_place Table = 2
count_place Data = 1

-- that word, of the command at `read`
abbrev pub count_word : Kind → List ℕ → ℕ → ℕ
count_word kind ring read = word_at ring read (count_place kind)

-- "BLT, 17 words", "Vector, 14 words": the header and those; a table load is header, index, count word and data, a data command
-- header, count word and data
abbrev pub data_length : (count : ℕ) → ℕ
data_length count = 2 + count

abbrev pub command_length : Kind → (counted : ℕ) → ℕ
command_length Blt counted = 1 + length (word_registers Blt)
command_length Vector counted = 1 + length (word_registers Vector)
command_length Table counted = 3 + data_count counted
command_length Data counted = data_length (data_count counted)

-- ---- what it draws

-- "If the last enable (BLT 15, vector 12) is clear, the command only loads its enabled registers."
abbrev pub drawn_of : Kind → ℕ → Option Primitive
drawn_of Blt header = if set? header 15 then Some BltPrimitive else None
drawn_of Vector header = if set? header 12 then Some VectorPrimitive else None
drawn_of Table header = None
drawn_of Data header = None

unfoldable pub drawn_by : ℕ → Option Primitive
drawn_by header = drawn_of (kind_of header) header

-- ---- waiting for a command of so many words, with W or without

-- 22: "W on a command that begins at ring word 0, or whose words run across the end"
unfoldable pub bad_return : (size read length : ℕ) → Bool → Bool
bad_return size read length w = w && (read =? 0 || size <? read + length)

-- 30: "any other command while a BLT still wants data", 31: "data that nobody wants"
abbrev pub unwanted : (wants : Bool) → Kind → Bool
unwanted wants kind = wants && not (is_data kind)

abbrev pub unasked : (wants : Bool) → Kind → Bool
unasked wants kind = not wants && is_data kind

-- 29, of a table load
abbrev pub bad_table : Kind → (counted : ℕ) → Bool
bad_table Blt counted = false
bad_table Vector counted = false
bad_table Table counted = bad_count counted
bad_table Data counted = false

-- 32: "a count of 0, a count above ring size less 3, a reserved bit or another DTYPE" than 000
abbrev pub bad_data_count : (size count : ℕ) → Bool
bad_data_count size count = count =? 0 || size - 3 <? count

unfoldable pub bad_data_word : (size counted : ℕ) → Bool
bad_data_word size counted =
    not (data_type counted =? 0b000) || not (field counted 28 16 =? 0) || bad_data_count size (data_count counted)

abbrev pub bad_data : (size : ℕ) → Kind → (counted : ℕ) → Bool
bad_data size Blt counted = false
bad_data size Vector counted = false
bad_data size Table counted = false
bad_data size Data counted = bad_data_word size counted

-- the rules that the header decides, of a table load or a data command with its count word, in the order of judging. W5: "21, 30 and
-- 31 when the header waits, these before every other number, 32 when the count word waits, then 22"; W4 has 29 "before 22".
-- `wants` says whether a BLT wants data
abbrev pub header_rules : (wants : Bool) → (size read header counted : ℕ) → List Rule
header_rules wants size read header counted =
    21 when bad_header header
    ∷ 30 when unwanted wants (kind_of header)
    ∷ 31 when unasked wants (kind_of header)
    ∷ 29 when bad_table (kind_of header) counted
    ∷ 32 when bad_data size (kind_of header) counted
    ∷ 22 when bad_return size read (command_length (kind_of header) counted) (returns header)
    ∷ []

-- by its header alone it is refused with the first three
abbrev pub bad_start : (wants : Bool) → (header : ℕ) → Bool
bad_start wants header = bad_header header || unwanted wants (kind_of header) || unasked wants (kind_of header)

-- "21 and 22 are judged as soon as the header waits"; 29 "as soon as three words wait and before 22, which for this kind waits for
-- them too"; 32 "when the count word waits, then 22, which for this kind waits for the count word": the words that must wait
-- before 29, 32 and 22 are judged
abbrev pub judged_words : Kind → ℕ
judged_words kind = 1 + count_place kind

-- "It is whole when all its words wait and, with W, when the words waiting also reach the ring's end": so many must wait
unfoldable pub whole_words : (size read length : ℕ) → Bool → ℕ
whole_words size read length w = if w && length <? size - read then size - read else length

-- "After it, read moves past it, or to 0 with W"
unfoldable pub read_after : (size read length : ℕ) → Bool → ℕ
read_after size read length w = if w then 0 else (read + length) % size

-- ---- loading

-- "Bit i enables word i after the header, counted from 0; a clear bit means the word is present and skipped": the registers
-- after the words from number i on, of which `rest` are the registers
unfoldable pub load_words : List ℕ → ℕ → ℕ → List ℕ → ℕ → List ℕ → List ℕ
load_words ring read header [] i registers = registers
load_words ring read header (r ∷ rest) i registers =
    load_words ring read header rest (i + 1)
    (if set? header i then set registers r (word_at ring read (i + 1)) else registers)

-- the registers with the words that a command has for them
abbrev pub enabled : List ℕ → ℕ → ℕ → List ℕ → List ℕ
enabled ring read header registers = load_words ring read header (word_registers (kind_of header)) 0 registers

-- a table load leaves the index advanced by its data
abbrev pub advanced : Kind → (counted : ℕ) → List ℕ → List ℕ
advanced Blt counted registers = registers
advanced Vector counted registers = registers
advanced Table counted registers = set registers LUT_INDEX (index_after (data_count counted) (word registers LUT_INDEX))
advanced Data counted registers = registers

-- the registers as they would be after loading the command at `read`
unfoldable pub loaded : List ℕ → ℕ → ℕ → List ℕ → List ℕ
loaded ring read header registers =
    advanced (kind_of header) (count_word (kind_of header) ring read) (enabled ring read header registers)

-- and the table: the data, from word 3 of a table load on, go into it from the index on
abbrev pub filled : Kind → List ℕ → ℕ → (index : ℕ) → List ℕ → List ℕ
filled Blt ring read index table = table
filled Vector ring read index table = table
filled Table ring read index table = data_stored ring read 3 (data_count (count_word Table ring read)) index table
filled Data ring read index table = table

unfoldable pub loaded_table : List ℕ → ℕ → ℕ → List ℕ → List ℕ → List ℕ
loaded_table ring read header registers table =
    filled (kind_of header) ring read (word (enabled ring read header registers) LUT_INDEX) table

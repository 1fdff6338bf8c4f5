-- The lookup table: the words that a table load writes into it, and the tile of a colour pattern that stands in it (document 02, W4;
-- 000, Table 6-10, 6.3.7, 6.4.2.25 and 6.4.2.26).
use Rattle.std.specs.Prelude.{ℕ, zero, suc, ◌+◌, ◌-◌, ◌*◌, ◌/◌, ◌%◌, Bool, not, ◌||◌, List, get_or, set}
use Rattle.model.specs.Choice.{◌<?◌, ◌=?◌}
use Rattle.model.specs.Bits.{field}
use Rattle.model.specs.Limits.{table_length}
use Rattle.model.specs.Ring.{word_at}

-- ---- the count word: DTYPE 31:29, reserved 28:16, DCOUNT 15:0

abbrev pub data_type : ℕ → ℕ
data_type counted = field counted 31 29

abbrev pub data_count : ℕ → ℕ
data_count counted = field counted 15 0

-- 29: "a DTYPE other than 011, a reserved bit set in the count word, or a count of 0 or above 512"
unfoldable pub bad_count : ℕ → Bool
bad_count counted =
    not (data_type counted =? 0b011) || not (field counted 28 16 =? 0) || data_count counted =? 0 || table_length <? data_count counted

-- ---- data

-- "the index's bits 8:0 rising after each word and returning from 511 to 0"; its other bits stay
unfoldable pub next_index : ℕ → ℕ
next_index index = index - field index 8 0 + (field index 8 0 + 1) % table_length

-- the index after n data words
unfoldable pub index_after : ℕ → ℕ → ℕ
index_after zero index = index
index_after (suc n) index = index_after n (next_index index)

-- the table after n data words, the first of which is word number i from position `read`: each goes to where the index points
unfoldable pub data_stored : List ℕ → (read i n index : ℕ) → List ℕ → List ℕ
data_stored ring read i zero index table = table
data_stored ring read i (suc n) index table =
    data_stored ring read (i + 1) n (next_index index) (set table (field index 8 0) (word_at ring read i))

-- ---- the tile

-- "table words 100h to 13Fh"
abbrev pub tile_word : ℕ
tile_word = 0x100

-- byte number n of those words, the lowest byte of a word first
unfoldable pub tile_byte : List ℕ → ℕ → ℕ
tile_byte table n = field (get_or table (tile_word + n / 4) 0) (8 * (n % 4) + 7) (8 * (n % 4))

-- the value of the `depth` bytes from byte `at`, the lowest first
unfoldable pub tile_value : (depth : ℕ) → List ℕ → (at : ℕ) → ℕ
tile_value zero table at = 0
tile_value (suc n) table at = tile_byte table at + 256 * tile_value n table (at + 1)

-- "The tile is read as eight rows of eight colours .., packed by depth and placed as 000 says": the first row first, and in it the
-- leftmost colour
unfoldable pub tile_color : (depth : ℕ) → List ℕ → (row column : ℕ) → ℕ
tile_color depth table row column = tile_value depth table ((8 * row + column) * depth)

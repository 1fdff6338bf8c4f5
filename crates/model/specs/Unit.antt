-- One unit of work, and n of them (document 01, Units, and how a run ends; document 02, W5).
use Rattle.std.specs.Prelude.{ℕ, zero, suc, ◌+◌, ◌-◌, Bool, true, false, ◌&&◌, ◌||◌, List, [], ◌++◌, get_or, if◌then◌else◌, Option, Some, None}
use Rattle.model.specs.Choice.{◌≤?◌, ◌=?◌}
use Rattle.model.specs.Refusals.{Rule, first}
use Rattle.model.specs.Ring.{waiting, word_at}
use Rattle.model.specs.Lookup.{data_count}
use Rattle.model.specs.Completion.{retired}
use Rattle.model.specs.Rectangle.{pixels_of}
use Rattle.model.specs.Command.{returns, kind_of, is_data, count_word, data_length, command_length, drawn_by, header_rules, bad_start, judged_words, whole_words, read_after, loaded, loaded_table}
use Rattle.model.specs.Judging.{judge_rules}
use Rattle.model.specs.BltPixel.{color_pattern_of, blt_of, draw_tiled}
use Rattle.model.specs.Host.{host_word, draw_host, takes_data}
use Rattle.model.specs.VectorPixel.{vector_of, draw_vector}
use Rattle.model.specs.declared.Core.{Core}
use Rattle.model.specs.declared.Feed.{Feed}
use Rattle.model.specs.declared.Primitive.{Primitive}
use Rattle.model.specs.declared.Primitive.TheVariants.{Blt, Vector}
use Rattle.model.specs.declared.Place.{Place}
use Rattle.model.specs.declared.Place.TheVariants.{Idle, Drawing, Wanting, Fed}

-- the engine state without the write pointer, and frame memory: the core, the lookup table and frame memory
pub record Machine : Type 0 where
  pub core : Core
  pub table : List ℕ
  pub frame : List ℕ

-- ---- the place

-- a pixel can be drawn. W5: "a BLT that wants data, with no data command accepted, counts as not being drawn"
abbrev pub drawing : Place → Bool
drawing Idle = false
drawing (Drawing primitive k) = true
drawing (Wanting k) = false
drawing (Fed k feed) = true

-- a BLT wants data
abbrev pub wants : Place → Bool
wants Idle = false
wants (Drawing primitive k) = false
wants (Wanting k) = true
wants (Fed k feed) = false

-- how many pixels of the command in progress are drawn
abbrev pub pixels_drawn : Place → ℕ
pixels_drawn Idle = 0
pixels_drawn (Drawing primitive k) = k
pixels_drawn (Wanting k) = k
pixels_drawn (Fed k feed) = k

-- ---- the command at the read pointer

abbrev pub header_at : List ℕ → Core → ℕ
header_at ring c = get_or ring c.read 0

abbrev pub loaded_at : List ℕ → Core → List ℕ
loaded_at ring c = loaded ring c.read (header_at ring c) c.registers

-- its count word, where it has one, its length, and its W
abbrev pub counted_at : List ℕ → Core → ℕ
counted_at ring c = count_word (kind_of (header_at ring c)) ring c.read

abbrev pub length_at : List ℕ → Core → ℕ
length_at ring c = command_length (kind_of (header_at ring c)) (counted_at ring c)

abbrev pub returns_at : List ℕ → Core → Bool
returns_at ring c = returns (header_at ring c)

-- 21, 30, 31, 29, 32 and 22
abbrev pub rules_at : List ℕ → Core → List Rule
rules_at ring c = header_rules (wants c.place) c.ringlength c.read (header_at ring c) (counted_at ring c)

unfoldable pub header_refusal : List ℕ → Core → ℕ
header_refusal ring c = first (rules_at ring c)

-- "23 to 28 only for commands that draw, on the registers as they would be after loading"
abbrev pub drawn_rules : Option Primitive → List ℕ → ℕ → List Rule
drawn_rules None registers framelength = []
drawn_rules (Some primitive) registers framelength = judge_rules primitive registers framelength

abbrev pub command_rules : List ℕ → Core → List Rule
command_rules ring c =
    rules_at ring c ++ drawn_rules (drawn_by (header_at ring c)) (loaded_at ring c) c.framelength

unfoldable pub command_refusal : List ℕ → Core → ℕ
command_refusal ring c = first (command_rules ring c)

-- so many words must wait before it is refused by its header or its count word: one for 21, 30 and 31, and as many as its kind has
-- for 29, 32 and 22
abbrev pub refused_words : List ℕ → Core → ℕ
refused_words ring c = if bad_start (wants c.place) (header_at ring c) then 1 else judged_words (kind_of (header_at ring c))

-- "21 and 22 are judged as soon as the header waits, the others when the command is whole": the words that must wait before
-- it can be loaded or refused
unfoldable pub needed : List ℕ → Core → ℕ
needed ring c =
    if header_refusal ring c =? 0 then whole_words c.ringlength c.read (length_at ring c) (returns_at ring c) else refused_words ring c

unfoldable pub ready : List ℕ → Core → ℕ → Bool
ready ring c write = needed ring c ≤? waiting c.ringlength c.read write

-- "Refusing a command costs one unit and moves nothing but the stop number"; W5: "Any stop while data is wanted abandons the BLT
-- unretired"
unfoldable pub stopped : Core → ℕ → Core
stopped c number = record {
  registers = c.registers;
  read = c.read;
  ringlength = c.ringlength;
  framelength = c.framelength;
  completion = c.completion;
  stop = number;
  place = Idle;
}

-- "A command is retired by its last pixel, or by its load if it draws nothing"
abbrev pub completion_after : Option Primitive → ℕ → ℕ
completion_after None completion = retired completion
completion_after (Some primitive) completion = completion

-- W5: a BLT with host source "takes its pixels from the data commands that follow"
abbrev pub place_after : Option Primitive → (registers : List ℕ) → Place
place_after None registers = Idle
place_after (Some primitive) registers = if takes_data primitive registers then Wanting 0 else Drawing primitive 0

-- "Loading moves the read pointer and enabled registers."
unfoldable pub loaded_core : List ℕ → Core → Core
loaded_core ring c =
    let drawn = drawn_by (header_at ring c) in
    record {
      registers = loaded_at ring c;
      read = read_after c.ringlength c.read (length_at ring c) (returns_at ring c);
      ringlength = c.ringlength;
      framelength = c.framelength;
      completion = completion_after drawn c.completion;
      stop = c.stop;
      place = place_after drawn (loaded_at ring c);
    }

-- and, of a table load, the table: "its load is one unit" whatever its count
unfoldable pub table_after : List ℕ → Core → List ℕ → List ℕ
table_after ring c table = loaded_table ring c.read (header_at ring c) c.registers table

-- W5: "Accepting a whole data command is one unit; its words stay waiting .. The state then holds that command's count and W", and
-- how many of the BLT's words came before it
abbrev pub feed_at : List ℕ → Core → Feed
feed_at ring c = record {
  before = host_word c.registers (pixels_drawn c.place);
  count = data_count (counted_at ring c);
  returns = returns_at ring c;
}

unfoldable pub taken_core : List ℕ → Core → Core
taken_core ring c = record {
  registers = c.registers;
  read = c.read;
  ringlength = c.ringlength;
  framelength = c.framelength;
  completion = c.completion;
  stop = c.stop;
  place = Fed (pixels_drawn c.place) (feed_at ring c);
}

-- a command that no rule refuses
abbrev pub accepted_core : List ℕ → Core → Core
accepted_core ring c = if is_data (kind_of (header_at ring c)) then taken_core ring c else loaded_core ring c

-- ---- the command that is being drawn

-- how many pixels it has: "LENGTH pixels are drawn" of a vector
unfoldable pub pixel_count : Primitive → List ℕ → ℕ
pixel_count Blt registers = pixels_of (blt_of registers).destination
pixel_count Vector registers = (vector_of registers).length

-- frame memory after its pixel number k
unfoldable pub draw_pixel : Primitive → (registers table : List ℕ) → ℕ → List ℕ → List ℕ
draw_pixel Blt registers table k frame = draw_tiled (color_pattern_of registers) table (blt_of registers) k frame
draw_pixel Vector registers table k frame = draw_vector (vector_of registers) k frame

-- the core once k of its pixels are drawn: "a command is retired by its last pixel"
unfoldable pub drawn_core : Core → Primitive → ℕ → Core
drawn_core c primitive k =
    let last = pixel_count primitive c.registers ≤? k in
    record {
      registers = c.registers;
      read = c.read;
      ringlength = c.ringlength;
      framelength = c.framelength;
      completion = if last then retired c.completion else c.completion;
      stop = c.stop;
      place = if last then Idle else Drawing primitive k;
    }

-- ---- the BLT that a data command feeds

-- its word number n, of all the BLT's data words: those of the data command follow its header and its count word
unfoldable pub fed_word : List ℕ → Core → Feed → (n : ℕ) → ℕ
fed_word ring c feed n = word_at ring c.read (2 + (n - feed.before))

-- the core once k of its pixels are drawn. W5: "the read pointer passes it in the unit that draws the last pixel it feeds", so where
-- the next pixel lies beyond its words, or there is none: "words left over at the last pixel are dropped"
unfoldable pub fed_core : Core → (k : ℕ) → Feed → Core
fed_core c k feed =
    let last = pixel_count Blt c.registers ≤? k in
    let passed = last || feed.before + feed.count ≤? host_word c.registers k in
    record {
      registers = c.registers;
      read = if passed then read_after c.ringlength c.read (data_length feed.count) feed.returns else c.read;
      ringlength = c.ringlength;
      framelength = c.framelength;
      completion = if last then retired c.completion else c.completion;
      stop = c.stop;
      place = if last then Idle else if passed then Wanting k else Fed k feed;
    }

-- ---- units

-- of an engine that draws nothing: the command at the read pointer is accepted or refused
unfoldable pub command_unit : List ℕ → Machine → Machine
command_unit ring m =
    if command_refusal ring m.core =? 0
    then record { core = accepted_core ring m.core; table = table_after ring m.core m.table; frame = m.frame }
    else record { core = stopped m.core (command_refusal ring m.core); table = m.table; frame = m.frame }

-- "One unit is either the loading of one whole command (judging included) or the drawing of one pixel."
unfoldable pub unit_at : List ℕ → Place → Machine → Machine
unit_at ring Idle m = command_unit ring m
unit_at ring (Wanting k) m = command_unit ring m
unit_at ring (Fed k feed) m = record {
  core = fed_core m.core (k + 1) feed;
  table = m.table;
  frame = draw_host m.core.registers m.table k (fed_word ring m.core feed (host_word m.core.registers k)) m.frame;
}
unit_at ring (Drawing primitive k) m = record {
  core = drawn_core m.core primitive (k + 1);
  table = m.table;
  frame = draw_pixel primitive m.core.registers m.table k m.frame;
}

unfoldable pub unit : List ℕ → Machine → Machine
unit ring m = unit_at ring m.core.place m

-- n of them, whether or not they can be done
abbrev pub times : List ℕ → ℕ → Machine → Machine
times ring zero m = m
times ring (suc n) m = times ring n (unit ring m)

-- whether a further unit can be done, with the write pointer at `write`. (Row 3 has a data command's words wait as long as it feeds
-- pixels)
unfoldable pub possible : List ℕ → Core → ℕ → Bool
possible ring c write = (c.stop =? 0) && (drawing c.place || ready ring c write)

-- "It does units until one of the first two holds or the budget is used": at most n units, counted on from `used`.
-- "Units used is the number of steps of the definition taken."
pub record Done : Type 0 where
  pub machine : Machine
  pub used : ℕ

abbrev pub done : Machine → ℕ → Done
done m used = record { machine = m; used = used }

unfoldable pub units : List ℕ → ℕ → ℕ → ℕ → Machine → Done
units ring write zero used m = done m used
units ring write (suc n) used m =
    let further = units ring write n (used + 1) (unit ring m) in
    if possible ring m.core write then further else done m used

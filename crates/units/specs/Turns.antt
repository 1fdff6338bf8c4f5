-- What the functions of units are handed and answer.
use Rattle.std.specs.Prelude.{◌≡◌, ℕ, ◌+◌, ◌-◌, ◌<◌, ◌≤◌, Bool, true, false, List, [], length, Option, Some, None, if◌then◌else◌}
use Rattle.model.specs.Choice.{◌=?◌}
use Rattle.model.specs.Limits.{ring_least, ring_most, table_length}
use Rattle.model.specs.Refusals.{first}
use Rattle.model.specs.Lookup.{data_count}
use Rattle.model.specs.Command.{kind_of, is_data, count_word, data_length, drawn_by, read_after}
use Rattle.model.specs.Formats.{Depth, format_of, depth_of}
use Rattle.model.specs.Registers.{format_code}
use Rattle.model.specs.Host.{host_word, draw_host}
use Rattle.model.specs.Unit.{Machine, pixels_drawn, header_at, counted_at, length_at, returns_at, loaded_at, drawn_rules, command_refusal, ready, stopped, accepted_core, table_after, pixel_count, drawn_core, fed_word, fed_core, possible, units, done}
use Rattle.model.specs.Calls.{run_word}
use Rattle.model.specs.declared.Core.{Core}
use Rattle.model.specs.declared.Feed.{Feed}
use Rattle.model.specs.declared.Kind.TheVariants.{Table as TableKind, Data as DataKind}
use Rattle.model.specs.declared.Place.{Place}
use Rattle.model.specs.declared.Place.TheVariants.{Idle, Drawing, Wanting, Fed}
use Rattle.model.specs.declared.Primitive.{Primitive}
use Rattle.model.specs.declared.Primitive.TheVariants.{Blt}
use Rattle.model.specs.declared.RunWord.{RunWord}
use Rattle.laws.specs.Order.{in_order, pixels}
use Rattle.laws.specs.WellFormed.{WellFormed}

-- a core whose pointers lie in a ring of so many words
pub record FitCore (c : Core) (write ringlength : ℕ) : Type 0 where
  pub ring_least_holds : ring_least ≤ c.ringlength
  pub ring_most_holds : c.ringlength ≤ ring_most
  pub read_in : c.read < c.ringlength
  pub write_in : write < c.ringlength
  pub ring_is : ringlength ≡ c.ringlength

-- the core after the unit that accepts or refuses a command, and the table
unfoldable pub load_unit : List ℕ → Core → Core
load_unit ring c = if command_refusal ring c =? 0 then accepted_core ring c else stopped c (command_refusal ring c)

unfoldable pub table_unit : List ℕ → Core → List ℕ → List ℕ
table_unit ring c table = if command_refusal ring c =? 0 then table_after ring c table else table

-- the whole BLT or vector at the read pointer: its header, what it draws, and where the read pointer stands after it
pub record Loadable (ring : List ℕ) (c : Core) (header : ℕ) (drawn : Option Primitive) (next : ℕ) : Type 0 where
  pub ring_least_holds : ring_least ≤ length ring
  pub read_in : c.read < length ring
  pub header_is : header ≡ header_at ring c
  pub drawn_is : drawn_by (header_at ring c) ≡ drawn
  pub next_is : read_after c.ringlength c.read (length_at ring c) (returns_at ring c) ≡ next
  pub refusal_is : command_refusal ring c ≡ first (drawn_rules drawn (loaded_at ring c) c.framelength)
  pub no_table_holds : kind_of (header_at ring c) ≡ TableKind → ⊥
  pub no_data : is_data (kind_of (header_at ring c)) ≡ false

-- the whole table load at the read pointer: its header, its count, and where the read pointer stands after it
pub record Fillable (ring : List ℕ) (c : Core) (header count next : ℕ) : Type 0 where
  pub ring_least_holds : ring_least ≤ length ring
  pub read_in : c.read < length ring
  pub header_is : header ≡ header_at ring c
  pub kind_is : kind_of (header_at ring c) ≡ TableKind
  pub count_is : count ≡ data_count (count_word TableKind ring c.read)
  pub count_most_holds : count ≤ table_length
  pub drawn_is : drawn_by (header_at ring c) ≡ None
  pub next_is : read_after c.ringlength c.read (length_at ring c) (returns_at ring c) ≡ next
  pub accepted : command_refusal ring c ≡ 0

-- the whole data command at the read pointer, with its count and its W, which a BLT wants
pub record Acceptable (ring : List ℕ) (c : Core) (count : ℕ) (w : Bool) : Type 0 where
  pub kind_is : kind_of (header_at ring c) ≡ DataKind
  pub count_is : count ≡ data_count (counted_at ring c)
  pub returns_is : w ≡ returns_at ring c
  pub accepted : command_refusal ring c ≡ 0
  pub deep : Depth (depth_of (format_of (format_code c.registers)))
  pub within : pixels_drawn c.place < pixel_count Blt c.registers

-- a data command that feeds a BLT of which k pixels are drawn
pub record Feedable (c : Core) (k : ℕ) (feed : Feed) : Type 0 where
  pub deep : Depth (depth_of (format_of (format_code c.registers)))
  pub read_in : c.read < c.ringlength
  pub length_most : data_length feed.count ≤ c.ringlength

-- the core after the unit of an engine that draws nothing, and the table after it; both as they were where the command waits
unfoldable pub command_core : List ℕ → Core → ℕ → Core
command_core ring c write = if ready ring c write then load_unit ring c else c

unfoldable pub command_table : List ℕ → Core → ℕ → List ℕ → List ℕ
command_table ring c write table = if ready ring c write then table_unit ring c table else table

-- some pixels of the command in progress are drawn, at most `left`
pub record Painted (c : Core) (primitive : Primitive) (k : ℕ) (table before after : List ℕ) (left : ℕ) (d : Core) (used : ℕ) : Type 0 where
  pub some : 0 < used
  pub most : used ≤ left
  pub within : k + used ≤ pixel_count primitive c.registers
  pub core_is : d ≡ drawn_core c primitive (k + used)
  pub frame_is : after ≡ pixels primitive c.registers table k used before

-- some pixels are drawn that a data command feeds, at most `left`
pub record FedOn (ring : List ℕ) (c : Core) (k : ℕ) (feed : Feed) (table before after : List ℕ) (left : ℕ) (d : Core) (used : ℕ) : Type 0 where
  pub some : 0 < used
  pub most : used ≤ left
  pub within : k + used ≤ pixel_count Blt c.registers
  pub feeding : (x : ℕ) → x < used → host_word c.registers (k + x) < feed.before + feed.count
  pub core_is : d ≡ fed_core c (k + used) feed
  pub frame_is : after ≡ in_order (λ k. draw_host c.registers table k (fed_word ring c feed (host_word c.registers k))) k used before

-- a BLT takes data: it wants some or is fed
abbrev pub hosts : Place → Bool
hosts Idle = false
hosts (Drawing primitive k) = false
hosts (Wanting k) = true
hosts (Fed k feed) = true

-- nothing is done: if some budget is left and the engine is of the sort that was asked for, no unit is possible
pub record Rests (Sort : Type 0) (ring : List ℕ) (write : ℕ) (before after : Machine) (left : ℕ) : Type 0 where
  pub no_more : 0 < left → Sort → possible ring before.core write ≡ false
  pub kept : after ≡ before

-- some units are done, at most `left`, and what is left of the budget goes on from there
pub record Onward (ring : List ℕ) (write : ℕ) (before after : Machine) (left used : ℕ) : Type 0 where
  pub some : 0 < used
  pub most : used ≤ left
  pub wellformed : WellFormed ring write after
  pub length_kept : length after.frame ≡ length before.frame
  pub same : (u : ℕ) → units ring write left u before ≡ units ring write (left - used) (u + used) after

-- nothing is done; or so many units
abbrev pub Advanced : (Sort : Type 0) → List ℕ → ℕ → (before after : Machine) → (left : ℕ) → Option ℕ → Type 0
Advanced Sort ring write before after left None = Rests Sort ring write before after left
Advanced Sort ring write before after left (Some used) = Onward ring write before after left used

-- some of a budget's units are done, and the rest go on from there
pub record Going (ring : List ℕ) (write : ℕ) (before now : Machine) (budget used : ℕ) : Type 0 where
  pub most : used ≤ budget
  pub wellformed : WellFormed ring write now
  pub length_kept : length now.frame ≡ length before.frame
  pub same : units ring write budget 0 before ≡ units ring write (budget - used) used now

-- as many as could be without a BLT that takes data
pub record Plain (ring : List ℕ) (write : ℕ) (before now : Machine) (budget used : ℕ) : Type 0 where
  pub going : Going ring write before now budget used
  pub rests : used < budget → hosts now.core.place ≡ false → possible ring now.core write ≡ false

-- none by a BLT that takes data; or some, and then as many as could be without one
abbrev pub Stepped : List ℕ → ℕ → (before after : Machine) → (left : ℕ) → Option ℕ → Type 0
Stepped ring write before after left None = Rests (hosts before.core.place ≡ true) ring write before after left
Stepped ring write before after left (Some used) = (0 < used) × Plain ring write before after left used

-- all the units of a budget were done, or as many as could be
pub record Finished (ring : List ℕ) (write : ℕ) (before after : Machine) (budget used : ℕ) : Type 0 where
  pub wellformed : WellFormed ring write after
  pub same : units ring write budget 0 before ≡ done after used

-- the word that a run reports of a core that it leaves; the table has no part in it
abbrev pub word_of : List ℕ → Core → ℕ → RunWord
word_of ring c write = run_word ring (record { core = c; table = []; write = write })

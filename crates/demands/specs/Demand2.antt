-- Demand 2. Every pixel: after each unit of work state and frame memory are those that the definition's units give.
use Rattle.std.specs.Prelude.{ℕ, ◌+◌, ◌-◌, ◌≤◌, ◌<◌, ◌≡◌, true, false, ◌||◌, List, if◌then◌else◌}
use Rattle.model.specs.Choice.{◌≤?◌}
use Rattle.model.specs.Ring.{word_at}
use Rattle.model.specs.Lookup.{data_count}
use Rattle.model.specs.Completion.{retired}
use Rattle.model.specs.Command.{kind_of, data_length, read_after}
use Rattle.model.specs.Host.{from_host, host_word, draw_host}
use Rattle.model.specs.Judging.{judge}
use Rattle.model.specs.Unit.{Machine, Done, header_at, counted_at, returns_at, command_refusal, table_after, pixel_count, draw_pixel, unit, drawing, possible, units, done, times}
use Rattle.model.specs.Calls.{unfit, run_refusal, run_units, run, run_frame, units_of, state_after, machine_of}
use Rattle.model.specs.declared.Core.{Core}
use Rattle.model.specs.declared.State.{State}
use Rattle.model.specs.declared.Feed.{Feed}
use Rattle.model.specs.declared.Kind.TheVariants.{Table}
use Rattle.model.specs.declared.Primitive.{Primitive}
use Rattle.model.specs.declared.Primitive.TheVariants.{Blt as BltPrimitive}
use Rattle.model.specs.declared.Place.TheVariants.{Idle, Drawing, Wanting, Fed}

-- ---- the statement

-- some units with the write pointer at w, and a budget: they are the n-fold unit for the number n that is reported, each of
-- them could be done, and fewer than the budget are done only where no further one can be. Ruled out: an engine that reports
-- an invented number of units; one that answers waiting always.
pub record Counted (ring : List ℕ) (w budget : ℕ) (m : Machine) (d : Done) : Type 0 where
  pub fold : d.machine ≡ times ring d.used m
  pub each_possible : (k : ℕ) → k < d.used → possible ring (times ring k m).core w ≡ true
  pub within : d.used ≤ budget
  pub at_rest : d.used < budget → possible ring d.machine.core w ≡ false

-- an accepted run, whatever its budget
abbrev pub RunCounted : Type 0
RunCounted =
    (ring : List ℕ) (s : State) (frame : List ℕ) (budget : ℕ)
    → Counted ring s.write budget (machine_of s frame) (run_units ring s frame budget)

-- its state, frame memory and reported units are those
abbrev pub RunIs : Type 0
RunIs =
    (ring : List ℕ) (s : State) (frame : List ℕ) (budget : ℕ) → run_refusal ring s frame ≡ 0
    → ((run ring s frame budget).state ≡ state_after s (run_units ring s frame budget))
    × (units_of (run ring s frame budget).reply ≡ (run_units ring s frame budget).used)
    × (run_frame ring s frame budget ≡ (run_units ring s frame budget).machine.frame)

-- two budgets one after the other are their sum
abbrev pub BudgetsAdd : Type 0
BudgetsAdd =
    (ring : List ℕ) (w a b : ℕ) (m : Machine)
    → let first = units ring w a 0 m in
    let second = units ring w b 0 first.machine in
    units ring w (a + b) 0 m ≡ done second.machine (first.used + second.used)

-- the unit that accepts a command, or refuses it, changes no byte of frame memory. Ruled out: an engine that paints a whole
-- command at its load.
abbrev pub LoadPaintsNothing : Type 0
LoadPaintsNothing = (ring : List ℕ) (m : Machine) → drawing m.core.place ≡ false → (unit ring m).frame ≡ m.frame

-- the unit that loads a table load stores all its data, and the unit that accepts another command, or refuses one, changes no word
-- of the lookup table: "demands 1 and 2 count it with the registers" (W4). Ruled out: an engine that takes a unit for each data word;
-- one that clears the table when it loads a BLT.
pub record LoadFills : Type 0 where
  pub loads_data : (ring : List ℕ) (m : Machine) → drawing m.core.place ≡ false → command_refusal ring m.core ≡ 0
      → (unit ring m).table ≡ table_after ring m.core m.table
  pub others_leave : (ring : List ℕ) (m : Machine) → drawing m.core.place ≡ false
      → (command_refusal ring m.core ≡ 0 → kind_of (header_at ring m.core) ≡ Table → ⊥)
      → (unit ring m).table ≡ m.table

-- the unit of pixel k paints that pixel and no other, and moves no register, no word of the table and no pointer; the last one
-- retires the command. Ruled out: an engine that paints nothing; one that retires a command early.
abbrev pub PixelPaints : Type 0
PixelPaints =
    (ring : List ℕ) (m : Machine) (primitive : Primitive) (k : ℕ) → m.core.place ≡ Drawing primitive k
    → ((unit ring m).frame ≡ draw_pixel primitive m.core.registers m.table k m.frame)
    × ((unit ring m).core.registers ≡ m.core.registers)
    × ((unit ring m).table ≡ m.table)
    × ((unit ring m).core.read ≡ m.core.read)
    × ((unit ring m).core.completion
    ≡ (if pixel_count primitive m.core.registers ≤? k + 1 then retired m.core.completion else m.core.completion))

-- ---- the statement: pictures sent through the ring (W5)

-- A BLT that wants data accepts data commands alone. "Accepting a whole data command is one unit; its words stay waiting .. The state then
-- holds that command's count and W", and how many of the BLT's words came before it; all else stays: "Data commands don't raise the
-- completion number". Ruled out: an engine that passes a data command where it accepts it; one that counts it as a command done.
abbrev pub TakesData : Type 0
TakesData =
    (ring : List ℕ) (m : Machine) (k : ℕ) → m.core.place ≡ Wanting k → command_refusal ring m.core ≡ 0
    → let c = m.core in
    ((unit ring m).core.place
    ≡ Fed k (record { before = host_word c.registers k; count = data_count (counted_at ring c); returns = returns_at ring c }))
    × ((unit ring m).core.registers ≡ c.registers)
    × ((unit ring m).table ≡ m.table)
    × ((unit ring m).frame ≡ m.frame)
    × ((unit ring m).core.read ≡ c.read)
    × ((unit ring m).core.completion ≡ c.completion)

-- the read pointer past a data command, "or to 0 with W"
abbrev pub past : Core → Feed → ℕ
past c feed = read_after c.ringlength c.read (data_length feed.count) feed.returns

-- the unit of pixel k of a BLT that a data command feeds paints that pixel from the word that holds it, and no other, and moves no
-- register and no word of the table. The read pointer passes the data command with the BLT's last pixel, and where the next pixel lies
-- beyond its words; then the BLT wants data again. The last pixel retires the BLT, and "words left over at the last pixel are
-- dropped". Ruled out: an engine that passes a data command with each pixel; one that leaves its last words for the next BLT.
abbrev pub FedPaints : Type 0
FedPaints =
    (ring : List ℕ) (m : Machine) (k : ℕ) (feed : Feed) → m.core.place ≡ Fed k feed
    → let c = m.core in
    let at = host_word c.registers in
    let last = pixel_count BltPrimitive c.registers ≤? k + 1 in
    let passed = last || feed.before + feed.count ≤? at (k + 1) in
    ((unit ring m).frame ≡ draw_host c.registers m.table k (word_at ring c.read (2 + (at k - feed.before))) m.frame)
    × ((unit ring m).core.registers ≡ c.registers)
    × ((unit ring m).table ≡ m.table)
    × ((unit ring m).core.read ≡ (if passed then past c feed else c.read))
    × ((unit ring m).core.completion ≡ (if last then retired c.completion else c.completion))
    × ((unit ring m).core.place ≡ (if last then Idle else if passed then Wanting (k + 1) else Fed (k + 1) feed))

-- the data command feeds pixel k: that is one of the BLT's, and its word is one of the command's
pub record Feeds (registers : List ℕ) (feed : Feed) (k : ℕ) : Type 0 where
  pub pixel : k < pixel_count BltPrimitive registers
  pub begun : feed.before ≤ host_word registers k
  pub reached : host_word registers k < feed.before + feed.count

-- what holds of the unit of pixel k where such a command feeds a BLT, in a state that row 3 does not refuse
pub record FedFor (ring : List ℕ) (s : State) (frame : List ℕ) (k : ℕ) (feed : Feed) : Type 0 where
  -- "the read pointer passes it in the unit that draws the last pixel it feeds": where it feeds no later one. Ruled out: an engine
  -- that waits for a pixel of the last word, where words are left over.
  pub passes : ((j : ℕ) → k < j → Feeds s.core.registers feed j → ⊥)
      → (unit ring (machine_of s frame)).core.read ≡ past s.core feed
  -- and in no earlier one
  pub stays : (j : ℕ) → k < j → Feeds s.core.registers feed j
      → (unit ring (machine_of s frame)).core.read ≡ s.core.read
  -- "its header and count word are not read again": the unit is that over every ring with the same data words. Ruled out: an engine
  -- that reads the count word again with each pixel.
  pub not_read_again : (other : List ℕ)
      → ((i : ℕ) → i < feed.count → word_at ring s.core.read (2 + i) ≡ word_at other s.core.read (2 + i))
      → unit ring (machine_of s frame) ≡ unit other (machine_of s frame)
  -- where the BLT wants data again, its next word is the one after those that came. Ruled out: an engine that drops the words between
  -- two rows.
  pub none_skipped : (unit ring (machine_of s frame)).core.place ≡ Wanting (k + 1)
      → host_word s.core.registers (k + 1) ≡ feed.before + feed.count

pub record HostData : Type 0 where
  pub fed : (ring : List ℕ) (s : State) (frame : List ℕ) (k : ℕ) (feed : Feed) → unfit s ≡ false → s.core.place ≡ Fed k feed
      → FedFor ring s frame k feed
  -- a data command that is accepted feeds the next pixel: so "or in its own unit if it feeds none" cannot come up
  pub feeds_next : (ring : List ℕ) (s : State) (frame : List ℕ) (k : ℕ) → unfit s ≡ false → s.core.place ≡ Wanting k
      → command_refusal ring s.core ≡ 0
      → (feed : Feed) × ((unit ring (machine_of s frame)).core.place ≡ Fed k feed) × Feeds s.core.registers feed k
  -- the words of a BLT begin with the first pixel's, and every word that it takes, up to the last pixel's, feeds a pixel
  pub first_word : (registers : List ℕ) (framelength : ℕ) → judge BltPrimitive registers framelength ≡ 0
      → from_host registers ≡ true → host_word registers 0 ≡ 0
  pub every_word_feeds : (registers : List ℕ) (framelength : ℕ) → judge BltPrimitive registers framelength ≡ 0
      → from_host registers ≡ true → (k : ℕ) → k < pixel_count BltPrimitive registers → (n : ℕ) → n ≤ host_word registers k
      → (i : ℕ) × (i ≤ k) × (host_word registers i ≡ n)

pub record Demand2 : Type 0 where
  pub run_counted : RunCounted
  pub run_is : RunIs
  pub budgets_add : BudgetsAdd
  pub load_paints_nothing : LoadPaintsNothing
  pub load_fills : LoadFills
  pub pixel_paints : PixelPaints
  pub takes_data_holds : TakesData
  pub fed_paints : FedPaints
  pub host_data : HostData

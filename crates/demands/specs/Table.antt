-- The refusal table of document 01: a call or a command gets exactly the number that the table gives. The rows themselves are the
-- rules of the definitions, each a number and its test.
use Rattle.std.specs.Prelude.{ℕ, ◌+◌, ◌≤◌, ◌<◌, ◌≡◌, true, false, ◌⊎◌, ◌↔◌, List, length}
use Rattle.model.specs.Refusals.{Rule, First, Exactly, Lowest}
use Rattle.model.specs.Ring.{waiting}
use Rattle.model.specs.Rectangle.{pixels_of, plus, minus}
use Rattle.model.specs.BltPixel.{blt_of}
use Rattle.model.specs.VectorPixel.{vector_of, position}
use Rattle.model.specs.Command.{data_length, bad_return, bad_data_count, whole_words}
use Rattle.model.specs.Host.{host_word}
use Rattle.model.specs.Judging.{row27, row28}
use Rattle.model.specs.Unit.{command_rules, command_refusal}
use Rattle.model.specs.Calls.{setup_rules, publish_rules, run_rules, restart_rules, room_rules, setup, number_of}
use Rattle.model.specs.Course.{Call, publishing, running, asking, restarting, Configuration}
use Rattle.model.specs.Perform.{answer_of}
use Rattle.model.specs.declared.Core.{Core}
use Rattle.model.specs.declared.State.{State}
use Rattle.model.specs.declared.Feed.{Feed}
use Rattle.model.specs.declared.Primitive.{Primitive}
use Rattle.model.specs.declared.Primitive.TheVariants.{Blt, Vector}
use Rattle.model.specs.declared.Rectangle.{Rectangle}
use Rattle.model.specs.declared.Source.{Source}
use Rattle.model.specs.declared.Source.TheVariants.{Unselected, Frame, Bits}

-- ---- the statement

-- the rules by which a call is refused
abbrev pub rules_of : List ℕ → Call → Configuration → List Rule
rules_of ring (publishing p) y = publish_rules y.state p
rules_of ring (running budget) y = run_rules y.state (length ring) (length y.frame)
rules_of ring asking y = room_rules y.state
rules_of ring restarting y = restart_rules y.state

-- a number that is "given exactly when" its rule is the first that applies, which is the rule with the lowest number: "Where
-- several apply the lowest wins". Lowest is meant by `order`, since W4 has 29 judged "before 22", and W5 has 30 and 31 judged "before
-- every other number" but 21, and 32, "then 22". Ruled out: an engine that refuses everything; one that looks for 24 before 23; one
-- that looks for 22 before 29 or 32; one that looks for 22 before 30.
pub record Given (rules : List Rule) (number : ℕ) : Type 0 where
  pub exact : Exactly rules number
  pub lowest : (n : ℕ) → First rules n ↔ Lowest rules n

-- of `count` pixels of `depth` bytes some byte lies below 0 or past the end of frame memory
abbrev pub PixelOutside : (framelength depth count offset : ℕ) → (plus minus : ℕ → ℕ) → Type 0
PixelOutside framelength depth count offset plus minus =
    (k : ℕ) × (k < count) × (i : ℕ) × (i < depth)
    × ((offset + plus k + i < minus k) ⊎ (framelength + minus k ≤ offset + plus k + i))

abbrev pub RectangleOutside : ℕ → Rectangle → Type 0
RectangleOutside framelength r = PixelOutside framelength r.depth (pixels_of r) r.offset (plus r) (minus r)

abbrev pub DestinationOutside : Primitive → List ℕ → ℕ → Type 0
DestinationOutside Blt registers framelength = RectangleOutside framelength (blt_of registers).destination
DestinationOutside Vector registers framelength =
    let v = vector_of registers in
    PixelOutside framelength v.depth v.length v.offset (λ k. (position v k).plus) (λ k. (position v k).minus)

-- some byte that a source reads lies outside: one of a colour source's pixels, or one of those that hold a mono source's bits
abbrev pub ReadOutside : ℕ → Source → Type 0
ReadOutside framelength (Unselected color) = ⊥
ReadOutside framelength (Frame r) = RectangleOutside framelength r
ReadOutside framelength (Bits m) = RectangleOutside framelength m.bytes

abbrev pub SourceOutside : Primitive → List ℕ → ℕ → Type 0
SourceOutside Blt registers framelength = ReadOutside framelength (blt_of registers).source
SourceOutside Vector registers framelength = ⊥

pub record Table : Type 0 where
  pub setup_number : (rl fl : ℕ) → Given (setup_rules rl fl) (number_of (setup rl fl).reply)
  pub call_number : (ring : List ℕ) (call : Call) (y : Configuration)
      → Given (rules_of ring call y) (number_of (answer_of ring call y).reply)
  pub command_number : (ring : List ℕ) (c : Core) → Given (command_rules ring c) (command_refusal ring c)
  -- 3: of "a count .. that 32 .. would refuse" nothing is left to ask, by what else row 3 asks of a data command that feeds a BLT: its
  -- words hold the next pixel's, so the count is not 0, and they wait, so it is not above ring size less 3
  pub row_3_count : (s : State) (k : ℕ) (feed : Feed) → let c = s.core in
      c.read < c.ringlength → s.write < c.ringlength
      → feed.before ≤ host_word c.registers k → host_word c.registers k < feed.before + feed.count
      → bad_return c.ringlength c.read (data_length feed.count) feed.returns ≡ false
      → whole_words c.ringlength c.read (data_length feed.count) feed.returns ≤ waiting c.ringlength c.read s.write
      → bad_data_count c.ringlength feed.count ≡ false
  -- 27: "some byte of some destination pixel lies outside frame memory"
  pub row_27 : (primitive : Primitive) (registers : List ℕ) (framelength : ℕ)
      → (row27 registers primitive framelength ≡ true) ↔ DestinationOutside primitive registers framelength
  -- 28: "a BLT's source select is frame memory .. and some byte of some source pixel lies outside"
  pub row_28 : (primitive : Primitive) (registers : List ℕ) (framelength : ℕ)
      → (row28 registers primitive framelength ≡ true) ↔ SourceOutside primitive registers framelength

-- Demand 1. Every ring word and every pointer: a bad call or command gets exactly its number from the table and changes
-- nothing else; "waiting" and the reported room are always true; what one call left the next one takes.
-- (That each call ends and touches nothing out of range is what the check of the code itself proves. The table, row by row, is
-- in `Table`, and what "waiting" and "whole" mean in `Waits`.)
use Prim.Native.Nat.{ℕ, ◌-◌, ◌≤◌}
use Rattle.std.proofs.Math.Path.{◌≡◌}
use Rattle.std.specs.Prelude.{Bool, ◌||◌, List, if◌then◌else◌}
use Rattle.std.proofs.Math.Bool.{true, false}
use Rattle.model.specs.Choice.{◌=?◌}
use Rattle.model.specs.Ring.{waiting}
use Rattle.model.specs.Command.{kind_of, judged_words}
use Rattle.model.specs.Unit.{Machine, done, header_at, command_refusal, stopped, unit, wants, drawing, possible, units}
use Rattle.model.specs.Steps.{machine}
use Rattle.model.specs.Calls.{unfit, setup, run, fresh_state, room_of}
use Rattle.model.specs.Course.{Call, asking, Configuration}
use Rattle.model.specs.Perform.{answer_of, perform, Accepted}
use Rattle.model.specs.declared.Core.{Core}
use Rattle.model.specs.declared.State.{State}
use Rattle.model.specs.declared.Answer.{Answer}
use Rattle.model.specs.declared.Kind.{Kind}
use Rattle.model.specs.declared.Place.TheVariants.{Idle}
use Rattle.model.specs.declared.RunWord.TheVariants.{Waiting}
use Rattle.model.specs.declared.Reply.TheVariants.{Ran}
use Rattle.demands.specs.Waits.{Whole, GoodHeader, Unjudged, Waits}
use Rattle.demands.specs.Table.{Table}

-- ---- the statement

-- A refused call hands everything back as it came, and reports no unit; a refused setup gives "a state of all zeros". (Its room
-- is 0 by what a refusal is.) Ruled out: an engine that moves the write pointer before it judges; one whose run draws a pixel
-- before it looks at the frame's length.
pub record RefusedKeeps : Type 0 where
  pub refused_setup : (rl fl : ℕ) → (Accepted (setup rl fl) → ⊥) → (setup rl fl).state ≡ fresh_state 0 0
  pub refused_call : (ring : List ℕ) (call : Call) (y : Configuration) → (Accepted (answer_of ring call y) → ⊥)
      → perform (record { ring = ring; call = call }) y ≡ y
  pub asking_keeps : (ring : List ℕ) (y : Configuration) → perform (record { ring = ring; call = asking }) y ≡ y

-- An accepted call tells the room after it, and leaves a state that row 3 does not refuse. Ruled out: an engine that answers
-- the room before the call; one that leaves a place past the last pixel.
pub record Reported (a : Answer) : Type 0 where
  pub room_is : room_of a.reply
      ≡ a.state.core.ringlength - 1 - waiting a.state.core.ringlength a.state.core.read a.state.write
  pub state_fit : unfit a.state ≡ false

pub record AcceptedReports : Type 0 where
  pub accepted_setup : (rl fl : ℕ) → Accepted (setup rl fl) → Reported (setup rl fl)
  pub accepted_call : (ring : List ℕ) (call : Call) (y : Configuration) → Accepted (answer_of ring call y)
      → Reported (answer_of ring call y)

-- "A bad command stops the engine with its number, unexecuted, registers and frame memory unchanged": nothing but the stop
-- number moves, and it is not retired. The lookup table stays too: W4 has "demands 1 and 2 count it with the registers". (And W5 has
-- "Any stop while data is wanted abandons the BLT unretired": `stopped` leaves nothing in progress.) Ruled out: an engine that loads
-- registers, or words of that table, from a command that it then refuses; one that skips a bad command.
abbrev pub RefusedCommand : Type 0
RefusedCommand =
    (ring : List ℕ) (m : Machine) → drawing m.core.place ≡ false → (command_refusal ring m.core ≡ 0 → ⊥)
    → unit ring m ≡ machine (stopped m.core (command_refusal ring m.core)) m.table m.frame

-- W5: "Any stop while data is wanted abandons the BLT unretired." Ruled out: an engine that stops by 30 and keeps the BLT, a state
-- that row 3 refuses; one that counts the BLT as done.
abbrev pub Abandons : Type 0
Abandons =
    (ring : List ℕ) (m : Machine) → wants m.core.place ≡ true → (command_refusal ring m.core ≡ 0 → ⊥)
    → ((unit ring m).core.place ≡ Idle) × ((unit ring m).core.completion ≡ m.core.completion)

-- Nothing but a refusal moves the stop number: an accepted command leaves it alone, and so does a pixel. Ruled out: an engine that
-- stops with a number after a command that it drew; one that loads a command and clears a stop number.
abbrev pub StopStays : List ℕ → Machine → Type 0
StopStays ring m = (unit ring m).core.stop ≡ m.core.stop

pub record StopAlone : Type 0 where
  pub accepted_command : (ring : List ℕ) (m : Machine) → drawing m.core.place ≡ false → command_refusal ring m.core ≡ 0
      → StopStays ring m
  pub pixel : (ring : List ℕ) (m : Machine) → drawing m.core.place ≡ true → StopStays ring m

-- the numbers that the header alone gives
abbrev pub of_start : ℕ → Bool
of_start number = number =? 21 || number =? 30 || number =? 31

-- those and the numbers that it gives with the count word of a table load or of a data command
abbrev pub of_header : ℕ → Bool
of_header number = of_start number || number =? 29 || number =? 32 || number =? 22

-- so many words must wait before such a number is judged: one for 21, 30 and 31, and for 22 of a BLT or a vector; two for 32 and for
-- 22 of a data command; three for 29 and for 22 of a table load
abbrev pub judged_on : ℕ → Kind → ℕ
judged_on number kind = if of_start number then 1 else judged_words kind

-- "21 and 22 are judged as soon as the header waits, the others when the command is whole", of an engine that draws nothing; but
-- W4 has 29 "judged as soon as three words wait and before 22, which for this kind waits for them too", and W5 "21, 30 and 31 when
-- the header waits, these before every other number, 32 when the count word waits, then 22, which for this kind waits for the count
-- word"
pub record JudgedWhen : Type 0 where
  -- where one of these applies so many words that wait are enough, whatever else waits: the next unit stops with it. Ruled out:
  -- an engine that waits for the rest of a command that has no length; one that waits for the ring's end with a W at word 0; one
  -- that judges 29 or 32 only when the command is whole, and with a large count never; one that gives 22 where 29 applies too; one
  -- that takes the words of a BLT in between for data.
  pub header_waits : (ring : List ℕ) (m : Machine) (write : ℕ) → m.core.stop ≡ 0 → drawing m.core.place ≡ false
      → judged_on (command_refusal ring m.core) (kind_of (header_at ring m.core)) ≤ waiting m.core.ringlength m.core.read write
      → of_header (command_refusal ring m.core) ≡ true
      → (possible ring m.core write ≡ true) × ((unit ring m).core.stop ≡ command_refusal ring m.core)
  -- while fewer wait, and none of 21, 30 and 31 applies, no budget does a unit, and nothing changes. Ruled out: an engine that
  -- judges 22 at a table load's or a data command's header; one that judges 29 or 32 by a count word that is not published.
  pub few_wait : (ring : List ℕ) (m : Machine) (write budget used : ℕ) → drawing m.core.place ≡ false
      → Unjudged ring m.core write → units ring write budget used m ≡ done m used
  -- a command that a unit accepts, or refuses by another number, is whole. Ruled out: an engine that judges the registers by words
  -- that are not published; one that with W returns to word 0 before the words up to the ring's end are in.
  pub others_whole : (ring : List ℕ) (c : Core) (write : ℕ) → drawing c.place ≡ false → possible ring c write ≡ true
      → of_header (command_refusal ring c) ≡ false → Whole ring c write
  -- and a whole one is accepted or refused by the next unit. Ruled out: an engine that answers waiting always.
  pub whole_judged : (ring : List ℕ) (c : Core) (write : ℕ) → c.stop ≡ 0 → drawing c.place ≡ false → Whole ring c write
      → possible ring c write ≡ true
  -- while the header is good and the command is not whole no budget does a unit, and nothing changes. Ruled out: an engine
  -- that loads the words of a command as they come.
  pub part_waits : (ring : List ℕ) (m : Machine) (write budget used : ℕ) → drawing m.core.place ≡ false
      → GoodHeader ring m.core → (Whole ring m.core write → ⊥) → units ring write budget used m ≡ done m used

-- "'Waiting' is said only when nothing is being drawn and no whole command waits", and none that the header's numbers refuse:
-- `Waits` has it word for word. W5: "In demand 1 a BLT that wants data, with no data command accepted, counts as not being drawn." An
-- accepted run that leaves the engine so says it. Ruled out: an engine that answers waiting always; one that waits on a bad header;
-- one that answers spent for ever where nothing is left to do, or while a BLT wants data.
pub record WaitingTrue : Type 0 where
  pub only_when : (ring : List ℕ) (s : State) (frame : List ℕ) (budget units room : ℕ)
      → (run ring s frame budget).reply ≡ Ran Waiting units room → Waits ring (run ring s frame budget).state
  pub always_when : (ring : List ℕ) (s : State) (frame : List ℕ) (budget : ℕ)
      → Accepted (run ring s frame budget) → Waits ring (run ring s frame budget).state
      → (units : ℕ) × (room : ℕ) × ((run ring s frame budget).reply ≡ Ran Waiting units room)

pub record Demand1 : Type 0 where
  pub numbers : Table
  pub refused_keeps : RefusedKeeps
  pub accepted_reports : AcceptedReports
  pub refused_command : RefusedCommand
  pub abandons : Abandons
  pub stop_alone : StopAlone
  pub judged_when : JudgedWhen
  pub waiting_true : WaitingTrue

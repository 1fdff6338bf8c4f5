-- The calls: setup, publish, run, restart and asking for room, with the state, frame memory and answer of each (document 01,
-- Refusal numbers).
use Rattle.std.specs.Prelude.{ℕ, ◌+◌, Bool, not, ◌&&◌, ◌||◌, List, [], ◌∷◌, ◌++◌, length, replicate, if◌then◌else◌}
use Rattle.model.specs.Choice.{◌<?◌, ◌≤?◌, ◌=?◌}
use Rattle.model.specs.Refusals.{Rule, ◌when◌, first, any}
use Rattle.model.specs.Limits.{ring_least, ring_most, frame_most, count_most, stop_least, stop_most, table_length}
use Rattle.model.specs.Registers.{register_count}
use Rattle.model.specs.Ring.{waiting, room, position_rules}
use Rattle.model.specs.Command.{data_length, bad_return, bad_data_count, whole_words}
use Rattle.model.specs.Host.{from_host, host_word, first_of_word, takes_data}
use Rattle.model.specs.Judging.{judge}
use Rattle.model.specs.Unit.{Machine, Done, pixel_count, possible, units}
use Rattle.model.specs.declared.Core.{Core}
use Rattle.model.specs.declared.State.{State}
use Rattle.model.specs.declared.Feed.{Feed}
use Rattle.model.specs.declared.Primitive.{Primitive}
use Rattle.model.specs.declared.Primitive.TheVariants.{Blt}
use Rattle.model.specs.declared.Place.{Place}
use Rattle.model.specs.declared.Place.TheVariants.{Idle, Drawing, Wanting, Fed}
use Rattle.model.specs.declared.RunWord.{RunWord}
use Rattle.model.specs.declared.RunWord.TheVariants.{Stopped, Waiting, Spent}
use Rattle.model.specs.declared.Reply.{Reply}
use Rattle.model.specs.declared.Reply.TheVariants.{Refused, Accepted, Ran}
use Rattle.model.specs.declared.Answer.{Answer}

-- ---- what a reply says, as document 01 words it

-- the number: "Accepted, each answers 0"; "a refused call answers its number"
abbrev pub number_of : Reply → ℕ
number_of (Refused number) = number
number_of (Accepted room) = 0
number_of (Ran word units room) = 0

-- "units (0 except from a run)"; a refused call answers "units 0"
abbrev pub units_of : Reply → ℕ
units_of (Refused number) = 0
units_of (Accepted room) = 0
units_of (Ran word units room) = units

-- "the room after it"; a refused call answers "room 0"
abbrev pub room_of : Reply → ℕ
room_of (Refused number) = 0
room_of (Accepted room) = room
room_of (Ran word units room) = room

-- ---- row 3

-- 1 and 2: the lengths
abbrev pub bad_ring : ℕ → Bool
bad_ring ringlength = ringlength <? ring_least || ring_most <? ringlength

abbrev pub bad_frame : ℕ → Bool
bad_frame framelength = framelength =? 0 || frame_most <? framelength

-- "neither 0 nor one of 21 and above in this table"
abbrev pub bad_stop : ℕ → Bool
bad_stop stop = not (stop =? 0) && (stop <? stop_least || stop_most <? stop)

-- "a stop together with a command in progress, or a command in progress that judging would refuse or whose place isn't one
-- of its pixels as reached by its own steps"
abbrev pub pixel_tests : Core → Primitive → (k : ℕ) → List Bool
pixel_tests c primitive k =
    not (c.stop =? 0)
    ∷ not (judge primitive c.registers c.framelength =? 0)
    ∷ (pixel_count primitive c.registers ≤? k)
    ∷ []

-- W5: "a place that no split of the BLT's words into data commands reaches, a count or W that 32 or 22 would refuse at the read
-- pointer, and a data command whose words, with W also those up to the ring's end, don't all wait". No data command has a count above
-- 65,535, which its count word cannot hold, so no split has one either: with W6's rings 32 alone would let it pass
abbrev pub feed_tests : Core → (write k : ℕ) → Feed → List Bool
feed_tests c write k feed =
    (host_word c.registers k <? feed.before)
    ∷ (feed.before + feed.count ≤? host_word c.registers k)
    ∷ (count_most <? feed.count)
    ∷ bad_data_count c.ringlength feed.count
    ∷ bad_return c.ringlength c.read (data_length feed.count) feed.returns
    ∷ not (whole_words c.ringlength c.read (data_length feed.count) feed.returns ≤? waiting c.ringlength c.read write)
    ∷ []

-- these of each place. A BLT wants data or is fed exactly where its source is the host, and it wants data, with no data command
-- accepted, only where the next pixel is the first of its word: every data command ends with the last pixel of its last word
abbrev pub place_tests : Core → (write : ℕ) → Place → List Bool
place_tests c write Idle = []
place_tests c write (Drawing primitive k) = pixel_tests c primitive k ++ (takes_data primitive c.registers ∷ [])
place_tests c write (Wanting k) = pixel_tests c Blt k ++ (not (from_host c.registers) ∷ not (first_of_word c.registers k) ∷ [])
place_tests c write (Fed k feed) = pixel_tests c Blt k ++ (not (from_host c.registers) ∷ feed_tests c write k feed)

-- 3: "state unfit: a length outside 1 or 2, a pointer not below ring size", and those. Some of these tests holds for a core
-- with this write pointer.
abbrev pub unfit_tests : Core → ℕ → List Bool
unfit_tests c write =
    bad_ring c.ringlength
    ∷ bad_frame c.framelength
    ∷ (c.ringlength ≤? c.read)
    ∷ (c.ringlength ≤? write)
    ∷ bad_stop c.stop
    ∷ place_tests c write c.place

unfoldable pub unfit : State → Bool
unfit s = any (unfit_tests s.core s.write)

-- ---- the refusals of the calls, in the order in which they are judged

abbrev pub setup_rules : ℕ → ℕ → List Rule
setup_rules ringlength framelength = 1 when bad_ring ringlength ∷ 2 when bad_frame framelength ∷ []

abbrev pub publish_rules : State → ℕ → List Rule
publish_rules s p = 3 when unfit s ∷ position_rules s.core.ringlength s.core.read s.write p

-- 4: "lent ring or frame has another length than the state says"
abbrev pub run_rules : State → ℕ → ℕ → List Rule
run_rules s ringlength framelength =
    3 when unfit s
    ∷ 4 when (not (ringlength =? s.core.ringlength) || not (framelength =? s.core.framelength))
    ∷ []

-- 7: "engine not stopped"
abbrev pub restart_rules : State → List Rule
restart_rules s = 3 when unfit s ∷ 7 when (s.core.stop =? 0) ∷ []

abbrev pub room_rules : State → List Rule
room_rules s = 3 when unfit s ∷ []

-- ---- the calls

-- "the room after it"
abbrev pub room_after : State → ℕ
room_after s = room s.core.ringlength s.core.read s.write

abbrev pub accepted : State → Answer
accepted s = record { state = s; reply = Accepted (room_after s) }

abbrev pub refused : State → ℕ → Answer
refused s number = record { state = s; reply = Refused number }

-- refused by the first rule that applies, with the state `kept`, or else accepted with the state `moved`
abbrev pub answered : List Rule → State → State → Answer
answered rules kept moved = if first rules =? 0 then accepted moved else refused kept (first rules)

-- "After setup all registers, pointers and the completion number are zero", and nothing is in progress; W4: "the state record now
-- holds the table, zero after setup"
abbrev pub fresh_state : ℕ → ℕ → State
fresh_state ringlength framelength = record {
  core = record {
    registers = replicate register_count 0;
    read = 0;
    ringlength = ringlength;
    framelength = framelength;
    completion = 0;
    stop = 0;
    place = Idle;
  };
  table = replicate table_length 0;
  write = 0;
}

unfoldable pub setup : ℕ → ℕ → Answer
setup ringlength framelength =
    answered (setup_rules ringlength framelength) (fresh_state 0 0) (fresh_state ringlength framelength)

-- an accepted publishing moves the write pointer alone
abbrev pub with_write : State → ℕ → State
with_write s p = record { core = s.core; table = s.table; write = p }

unfoldable pub publish : State → ℕ → Answer
publish s p = answered (publish_rules s p) s (with_write s p)

-- "Restart clears the stop number and moves read to write; all else stays."
abbrev pub restarted : State → State
restarted s = record {
  core = record {
    registers = s.core.registers;
    read = s.write;
    ringlength = s.core.ringlength;
    framelength = s.core.framelength;
    completion = s.core.completion;
    stop = 0;
    place = s.core.place;
  };
  table = s.table;
  write = s.write;
}

unfoldable pub restart : State → Answer
restart s = answered (restart_rules s) s (restarted s)

unfoldable pub ask_room : State → Answer
ask_room s = answered (room_rules s) s s

-- "stopped, if a stop number stands; else waiting, if no further unit can be done; else spent"
unfoldable pub run_word : List ℕ → State → RunWord
run_word ring s =
    if not (s.core.stop =? 0) then Stopped
    else if not (possible ring s.core s.write) then Waiting
    else Spent

-- the number that refuses a run, or 0
unfoldable pub run_refusal : List ℕ → State → List ℕ → ℕ
run_refusal ring s frame = first (run_rules s (length ring) (length frame))

-- the state without the write pointer, and frame memory
abbrev pub machine_of : State → List ℕ → Machine
machine_of s frame = record { core = s.core; table = s.table; frame = frame }

-- the units of an accepted run, and the state after them
unfoldable pub run_units : List ℕ → State → List ℕ → ℕ → Done
run_units ring s frame budget = units ring s.write budget 0 (machine_of s frame)

abbrev pub state_after : State → Done → State
state_after s done = record { core = done.machine.core; table = done.machine.table; write = s.write }

unfoldable pub ran_answer : List ℕ → State → Done → Answer
ran_answer ring s done = record {
  state = state_after s done;
  reply = Ran (run_word ring (state_after s done)) done.used (room_after (state_after s done));
}

unfoldable pub run : List ℕ → State → List ℕ → ℕ → Answer
run ring s frame budget =
    if run_refusal ring s frame =? 0 then ran_answer ring s (run_units ring s frame budget)
    else refused s (run_refusal ring s frame)

unfoldable pub run_frame : List ℕ → State → List ℕ → ℕ → List ℕ
run_frame ring s frame budget =
    if run_refusal ring s frame =? 0 then (run_units ring s frame budget).machine.frame else frame

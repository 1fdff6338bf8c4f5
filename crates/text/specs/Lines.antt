-- The lines that the programs write of the engine's answers.
use Rattle.std.specs.Prelude.{ℕ, List, [], ◌∷◌, ◌++◌, get_or}
use Prim.Native.String.{String}
use Rattle.model.specs.Calls.{number_of, units_of, room_of}
use Rattle.model.specs.declared.Primitive.TheVariants.{Blt, Vector}
use Rattle.model.specs.declared.Place.{Place}
use Rattle.model.specs.declared.Place.TheVariants.{Idle, Drawing, Wanting, Fed}
use Rattle.model.specs.declared.RunWord.{RunWord}
use Rattle.model.specs.declared.RunWord.TheVariants.{Stopped, Waiting, Spent}
use Rattle.model.specs.declared.Reply.{Reply}
use Rattle.model.specs.declared.Reply.TheVariants.{Refused, Accepted, Ran}
use Rattle.model.specs.declared.Answer.{Answer}
use Rattle.text.specs.Ascii.{ascii}
use Rattle.text.specs.Numerals.{decimal, hexadecimal}
use Rattle.text.specs.declared.Kind.{Kind}
use Rattle.text.specs.declared.Kind.TheVariants.{Accepted as AcceptedKind, Refused as RefusedKind, Stopped as StoppedKind, Waiting as WaitingKind, Spent as SpentKind}
use Rattle.text.specs.declared.Parts.{Parts}

-- ---- the replay's lines

-- keys with their values, each with what ends it, and what stands after them
abbrev pub fields : String → List (String × List ℕ) → List ℕ → List ℕ
fields end [] after = after
fields end (f ∷ more) after = ascii f.0 ++ (ascii "=" ++ (f.1 ++ (ascii end ++ fields end more after)))

-- "key=value lines"
abbrev pub lines : List (String × List ℕ) → List ℕ
lines fs = fields "\n" fs []

-- "one word: stopped, .. waiting, .. spent"
abbrev pub run_name : RunWord → List ℕ
run_name Stopped = ascii "stopped"
run_name Waiting = ascii "waiting"
run_name Spent = ascii "spent"

-- "state=refused"; else the run's word. (A replay does not end with a call that is accepted and is no run: law `ends_with_run`
-- of `recording`.)
abbrev pub state_name : Reply → List ℕ
state_name (Refused number) = ascii "refused"
state_name (Accepted room) = ascii "waiting"
state_name (Ran word units room) = run_name word

-- "The first refused call ends the replay with state=refused and its number .. ; a stop gives state=stopped and its number": the
-- number that refused, or the stop number
abbrev pub last_number : Reply → ℕ → ℕ
last_number (Refused number) stop = number
last_number (Accepted room) stop = 0
last_number (Ran word units room) stop = stop

-- "It writes key=value lines in this order": of the answer of the last call
unfoldable pub replay_lines : Answer → List ℕ
replay_lines a = lines (
    ("retired", decimal a.state.core.completion)
    ∷ ("units", decimal (units_of a.reply))
    ∷ ("read", decimal a.state.core.read)
    ∷ ("write", decimal a.state.write)
    ∷ ("state", state_name a.reply)
    ∷ ("refusal", decimal (last_number a.reply a.state.core.stop))
    ∷ []
    )

-- "gives the one line `recording=bad`"
abbrev pub bad_line : List ℕ
bad_line = lines (("recording", ascii "bad") ∷ [])

-- ---- the trace's lines

-- the calls by their numbers in a trace; 0 stands for setup
abbrev pub call_name : ℕ → List ℕ
call_name op = get_or (ascii "setup" ∷ ascii "publish" ∷ ascii "run" ∷ ascii "room" ∷ ascii "restart" ∷ []) op []

-- 0 where a call is accepted, or the run's word, or the refusal's number
abbrev pub answer_name : Reply → List ℕ
answer_name (Refused number) = ascii "refused-" ++ decimal number
answer_name (Accepted room) = ascii "0"
answer_name (Ran word units room) = run_name word

-- the command in progress, also a BLT that wants data, and how many of its pixels are drawn
abbrev pub place_name : Place → List ℕ
place_name Idle = ascii "none"
place_name (Drawing Blt k) = ascii "blt-" ++ decimal k
place_name (Drawing Vector k) = ascii "vector-" ++ decimal k
place_name (Wanting k) = ascii "blt-" ++ decimal k
place_name (Fed k feed) = ascii "blt-" ++ decimal k

-- a call, what it answers, and the state that it hands back: all but the last field end with a space
unfoldable pub call_line : ℕ → Answer → List ℕ
call_line op a =
    fields " "
    (("call", call_name op)
    ∷ ("answer", answer_name a.reply)
    ∷ ("units", decimal (units_of a.reply))
    ∷ ("room", decimal (room_of a.reply))
    ∷ ("read", decimal a.state.core.read)
    ∷ ("write", decimal a.state.write)
    ∷ ("retired", decimal a.state.core.completion)
    ∷ ("stop", decimal a.state.core.stop)
    ∷ [])
    (lines (("drawing", place_name a.state.core.place) ∷ []))

-- the last line: a checksum of frame memory
abbrev pub crc_line : ℕ → List ℕ
crc_line crc = lines (("frame_crc32", hexadecimal crc) ∷ [])

-- ---- the same by parts, as the code has it

abbrev pub run_kind : RunWord → Kind
run_kind Stopped = StoppedKind
run_kind Waiting = WaitingKind
run_kind Spent = SpentKind

abbrev pub kind_of : Reply → Kind
kind_of (Refused number) = RefusedKind
kind_of (Accepted room) = AcceptedKind
kind_of (Ran word units room) = run_kind word

abbrev pub parts_of : Answer → Parts
parts_of a = record {
  kind = kind_of a.reply;
  number = number_of a.reply;
  units = units_of a.reply;
  room = room_of a.reply;
  last = last_number a.reply a.state.core.stop;
}

-- `state_name` and `answer_name` of a kind
abbrev pub kind_state : Kind → List ℕ
kind_state AcceptedKind = ascii "waiting"
kind_state RefusedKind = ascii "refused"
kind_state StoppedKind = ascii "stopped"
kind_state WaitingKind = ascii "waiting"
kind_state SpentKind = ascii "spent"

abbrev pub kind_answer : Kind → ℕ → List ℕ
kind_answer AcceptedKind number = ascii "0"
kind_answer RefusedKind number = ascii "refused-" ++ decimal number
kind_answer StoppedKind number = ascii "stopped"
kind_answer WaitingKind number = ascii "waiting"
kind_answer SpentKind number = ascii "spent"

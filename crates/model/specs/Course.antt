-- Lists of calls, and document 01's plain course over them ("What a signature on this engine means"). "The plain course is
-- fed the start and the calls with their positions and budgets, no answers. It holds and hands on its own engine state,
-- frame memory and a sum that begins at 0."
use Rattle.std.specs.Prelude.{ℕ, zero, suc, ◌+◌, not, ◌&&◌, List, [], ◌∷◌, length, if◌then◌else◌}
use Rattle.model.specs.Choice.{◌<?◌, ◌≤?◌, ◌=?◌}
use Rattle.model.specs.Ring.{waiting, distance}
use Rattle.model.specs.Unit.{unit, possible}
use Rattle.model.specs.Calls.{unfit, restarted, with_write, machine_of}
use Rattle.model.specs.declared.State.{State}

-- "The calls are publish, run, asking for room and restart"
pub data Call : Type 0 where
  publishing : ℕ → Call
  running : ℕ → Call
  asking : Call
  restarting : Call

-- a call, and the ring as it stands then
pub record Lent : Type 0 where
  pub ring : List ℕ
  pub call : Call

-- what is handed on from call to call
pub record Configuration : Type 0 where
  pub state : State
  pub frame : List ℕ
  pub sum : ℕ

-- "A run does units as above, each adding 1": one more unit
abbrev pub one_unit : List ℕ → Configuration → Configuration
one_unit ring y =
    let next = unit ring (machine_of y.state y.frame) in
    record {
      state = record { core = next.core; table = next.table; write = y.state.write };
      frame = next.frame;
      sum = y.sum + 1;
    }

-- as many as the budget and the words waiting allow
unfoldable pub course_units : List ℕ → ℕ → Configuration → Configuration
course_units ring zero y = y
course_units ring (suc n) y =
    let further = course_units ring n (one_unit ring y) in
    if possible ring y.state.core y.state.write then further else y

abbrev pub with_state : Configuration → State → Configuration
with_state y s = record { state = s; frame = y.frame; sum = y.sum }

-- "An accepted publish sets write. .. Asking for room, or a call that the table refuses, changes nothing."
unfoldable pub course_call : List ℕ → Call → Configuration → Configuration
course_call ring (publishing p) y =
    let c = y.state.core in
    if not (unfit y.state) && p <? c.ringlength
    && waiting c.ringlength c.read y.state.write ≤? distance c.ringlength c.read p
    then with_state y (with_write y.state p)
    else y
course_call ring (running budget) y =
    let c = y.state.core in
    if not (unfit y.state) && (length ring =? c.ringlength) && (length y.frame =? c.framelength)
    then course_units ring budget y
    else y
course_call ring asking y = y
course_call ring restarting y =
    if not (unfit y.state) && not (y.state.core.stop =? 0) then with_state y (restarted y.state) else y

abbrev pub course : List Lent → Configuration → Configuration
course [] y = y
course (x ∷ xs) y = course xs (course_call x.ring x.call y)

-- What a call does, by cases; and that performing a list of calls is the plain course, whatever the calls.
use Rattle.std.specs.Prelude.{ℕ, ◌≤◌, ◌<◌, ◌≡◌, List}
use Rattle.model.specs.Ring.{waiting}
use Rattle.model.specs.Unit.{Machine, Done, units}
use Rattle.model.specs.Calls.{publish, restart, run, restarted, with_write, machine_of}
use Rattle.model.specs.Course.{Call, publishing, running, asking, restarting, Configuration, with_state}
use Rattle.model.specs.Perform.{answer_of, Accepted}
use Rattle.laws.specs.WellFormed.{WellFormed}

-- a configuration from the end of some units
abbrev pub configuration : ℕ → Done → Configuration
configuration w d = record {
  state = record { core = d.machine.core; table = d.machine.table; write = w };
  frame = d.machine.frame;
  sum = d.used;
}

-- the machine of a configuration
abbrev pub machine_in : Configuration → Machine
machine_in y = machine_of y.state y.frame

-- ---- what a call did, by cases

-- A refused one and asking for room did nothing; an accepted publishing moved the write pointer on, an accepted run did units of a
-- well-formed machine, and an accepted restart found the engine stopped.
pub data Did (ring : List ℕ) (y : Configuration) : Call → Configuration → Type 0 where
  refuses : {call : Call} → (Accepted (answer_of ring call y) → ⊥) → Did ring y call y
  asks : Did ring y asking y
  publishes : {p : ℕ} → Accepted (publish y.state p) → p < y.state.core.ringlength
      → waiting y.state.core.ringlength y.state.core.read y.state.write
      ≤ waiting y.state.core.ringlength y.state.core.read p
      → Did ring y (publishing p) (with_state y (with_write y.state p))
  runs : {budget : ℕ} → Accepted (run ring y.state y.frame budget) → WellFormed ring y.state.write (machine_in y)
      → Did ring y (running budget) (configuration y.state.write (units ring y.state.write budget y.sum (machine_in y)))
  restarts : Accepted (restart y.state) → (y.state.core.stop ≡ 0 → ⊥)
      → Did ring y restarting (with_state y (restarted y.state))

-- Progress. In the words of the user: what is in the queue leaves the queue. From every accepted state with its ring and frame
-- memory, after a number of units that ring and registers bound, nothing more can be done, and then the engine has stopped
-- with a number or no whole command waits.
use Prim.Native.Nat.{ℕ, zero, suc, ◌+◌, ◌-◌, ◌*◌, ◌/◌, ◌≤◌, ◌<◌}
use Rattle.std.specs.Prelude.{◌≡◌, true, false, List, replicate}
use Rattle.model.specs.Limits.{ring_most, budget_most, side_most, stop_least, stop_most}
use Rattle.model.specs.Ring.{waiting}
use Rattle.model.specs.Command.{command_length}
use Rattle.model.specs.Unit.{length_at, returns_at, pixel_count, possible}
use Rattle.model.specs.Course.{Configuration}
use Rattle.model.specs.Perform.{runs, total, Fixed}
use Rattle.model.specs.declared.Core.{Core}
use Rattle.model.specs.declared.State.{State}
use Rattle.model.specs.declared.Kind.TheVariants.{Blt}
use Rattle.model.specs.declared.Primitive.TheVariants.{Blt as BltPrimitive}
use Rattle.model.specs.declared.Place.{Place}
use Rattle.model.specs.declared.Place.TheVariants.{Idle, Drawing, Wanting, Fed}
use Rattle.demands.specs.Waits.{Waits}

-- ---- the statement: how many units can be left

-- n shared out over m, rounded up
abbrev pub shared : ℕ → ℕ → ℕ
shared n m = (n + m - 1) / m

-- A command costs one unit for its load and one for each pixel, of which there are at most 4095 by 4095.
abbrev pub command_units : ℕ
command_units = side_most * side_most + 1

-- Each of the 17 words of a BLT is good for its share of them. (A vector has 14 words and far fewer pixels, 4095; a table load has
-- four words or more, and is one unit; a data command has three words or more, and is one unit besides the pixels of its BLT.)
abbrev pub word_units : ℕ
word_units = shared command_units (command_length Blt 0)

-- the pixels that are left of the command in progress. A data command costs a unit of its own, its acceptance; its words wait until
-- it is passed, and pay for it: while it feeds a BLT one pixel fewer counts
abbrev pub pixels_left : List ℕ → Place → ℕ
pixels_left registers Idle = 0
pixels_left registers (Drawing primitive k) = pixel_count primitive registers - k
pixels_left registers (Wanting k) = pixel_count BltPrimitive registers - k
pixels_left registers (Fed k feed) = pixel_count BltPrimitive registers - k - 1

-- the unit that refuses a command, after which there is none
abbrev pub refusal_left : ℕ → ℕ
refusal_left zero = 1
refusal_left (suc stop) = 0

-- together, with the write pointer at w
unfoldable pub units_left : ℕ → Core → ℕ
units_left w c = pixels_left c.registers c.place + refusal_left c.stop + word_units * waiting c.ringlength c.read w

-- So many runs with the largest budget come to all of that on a ring of `size` words, whatever it holds: a command in progress,
-- and every word but one waiting.
abbrev pub runs_for : ℕ → ℕ
runs_for size = shared (command_units + word_units * (size - 1)) budget_most

abbrev pub enough_runs : List ℕ
enough_runs = replicate (runs_for ring_most) budget_most

-- ---- the statement

-- what still waits is less than a command: not all its words, or, with W, not those up to the ring's end. (Fewer than three words
-- of a table load, or two of a data command, are less than all of them, whatever stands where its count word will be.)
pub data Part (ring : List ℕ) (c : Core) (write : ℕ) : Type 0 where
  words_missing : waiting c.ringlength c.read write < length_at ring c → Part ring c write
  end_missing : returns_at ring c ≡ true → waiting c.ringlength c.read write < c.ringlength - c.read → Part ring c write

-- "then the engine has stopped with a number or no whole command waits". A BLT that wants data may be in progress then: it waits for
-- them
pub data AtRest (ring : List ℕ) (s : State) : Type 0 where
  has_stopped : stop_least ≤ s.core.stop → s.core.stop ≤ stop_most → AtRest ring s
  waits : Waits ring s → Part ring s.core s.write → AtRest ring s

pub record Ended (ring : List ℕ) (s : State) : Type 0 where
  -- "nothing more can be done"
  pub no_unit : possible ring s.core s.write ≡ false
  pub at_rest : AtRest ring s

-- from a configuration, by runs with whatever budgets
pub record Ends (ring : List ℕ) (y : Configuration) : Type 0 where
  -- the units that can be left, seen from the state, are enough. Ruled out: an engine that reports units and does none; one
  -- that begins a refused command anew with each run.
  pub by_state : (budgets : List ℕ) → units_left y.state.write y.state.core ≤ total budgets
      → Ended ring (runs ring budgets y).state
  -- and no runs do more. Ruled out: an engine whose vector never ends.
  pub never_more : (budgets : List ℕ) → (runs ring budgets y).sum ≤ y.sum + units_left y.state.write y.state.core
  -- by the words that wait alone: each is good for its share
  pub by_words : (budgets : List ℕ)
      → command_units + word_units * waiting y.state.core.ringlength y.state.core.read y.state.write ≤ total budgets
      → Ended ring (runs ring budgets y).state
  -- so many runs of the largest budget always suffice. Ruled out: an engine that, once it was woken for half a command, never
  -- takes that command up; one that waits at the ring's end for a word that it has passed.
  pub by_runs : Ended ring (runs ring enough_runs y).state

-- From every accepted state with ring and frame memory of its lengths, such as every list of calls leaves (`Lasting`)
abbrev pub Progress : Type 0
Progress = (ring : List ℕ) (y : Configuration) → Fixed ring y.state y.frame → Ends ring y

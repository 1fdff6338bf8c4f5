-- Demand 3. Every way of arriving late: however the words are published in portions and whatever the budgets, the outcome is
-- that of publishing all at once. One theorem about every list of calls.
use Rattle.std.specs.Prelude.{ℕ, ◌≤◌, ◌≡◌, List, [], ◌∷◌, map}
use Rattle.model.specs.Ring.{Agree, distance}
use Rattle.model.specs.Unit.{done, units}
use Rattle.model.specs.Calls.{publish, run, restart, machine_of}
use Rattle.model.specs.Course.{Call, publishing, running, asking, restarting, Lent, Configuration, course}
use Rattle.model.specs.Perform.{perform, performs, lent, runs, start, Accepted, Fixed, Rests}
use Rattle.model.specs.declared.State.{State}
use Rattle.demands.specs.Progress.{enough_runs}

-- ---- the statement: the calls

-- "Along that run means: counted from the starting read, modulo ring size, each accepted position is at least the write
-- pointer then and at most the final one"; "with no restart accepted"
abbrev pub Allowed : State → ℕ → Call → Configuration → Type 0
Allowed s final (publishing p) y =
    let from = distance s.core.ringlength s.core.read in
    Accepted (publish y.state p) → (from y.state.write ≤ from p) × (from p ≤ from final)
Allowed s final (running budget) y = Unit {0}
Allowed s final asking y = Unit {0}
Allowed s final restarting y = Accepted (restart y.state) → ⊥

-- of every call in the list: "Each gets what the last one left; nobody else writes in between"
abbrev pub Along : List ℕ → State → ℕ → List Call → Configuration → Type 0
Along ring s final [] y = Unit {0}
Along ring s final (x ∷ xs) y =
    Allowed s final x y × Along ring s final xs (perform (record { ring = ring; call = x }) y)

-- The stronger form: the ring is lent anew at each call, and at an accepted run only the words that wait then, from the read
-- pointer up to the write pointer, need be those of the run of words. Words that were passed may be written over, and words
-- that are not published yet may change, as hosts do.
abbrev pub Words : List ℕ → State → List ℕ → Call → Configuration → Type 0
Words all s ring (publishing p) y = Unit {0}
Words all s ring (running budget) y =
    Accepted (run ring y.state y.frame budget) → Agree ring all s.core.ringlength y.state.core.read y.state.write
Words all s ring asking y = Unit {0}
Words all s ring restarting y = Unit {0}

abbrev pub AlongFed : List ℕ → State → ℕ → List Lent → Configuration → Type 0
AlongFed all s final [] y = Unit {0}
AlongFed all s final (x ∷ xs) y =
    Allowed s final x.call y × Words all s x.ring x.call y × AlongFed all s final xs (perform x y)

-- ---- the statement: what they come to

-- publishing the final position at once, and then runs with these budgets
abbrev pub at_once : List ℕ → State → List ℕ → ℕ → List ℕ → Configuration
at_once ring s frame final budgets = performs (lent ring (publishing final ∷ map running budgets)) (start s frame)

-- What is claimed of the end y of a list of calls.
pub record Arrived (ring : List ℕ) (s : State) (frame : List ℕ) (final : ℕ) (y : Configuration) : Type 0 where
  -- (b) "Write pointer aside, they equal those of publishing all at once and taking that many units", all of which can be
  -- taken. Ruled out: an engine that draws a command twice when its last word arrives late; one that reports units it did not
  -- do.
  pub same_units :
      units ring (publish s final).state.write y.sum 0 (machine_of (publish s final).state frame)
      ≡ done (machine_of y.state y.frame) y.sum
  -- (c) "Once the final pointer is in and the engine waits or has stopped, the whole state, frame memory and sum equal those
  -- of publishing all at once and then running until it waits or has stopped, in as many runs as that takes": for every list
  -- of budgets that gets there. Ruled out: an engine that never draws the banner whose words came in two portions; one that
  -- answers waiting while a whole command waits.
  pub same_end : y.state.write ≡ final → Rests ring y
      → (budgets : List ℕ) → Rests ring (at_once ring s frame final budgets) → at_once ring s frame final budgets ≡ y
  -- "in as many runs as that takes": by progress so many with the largest budget always get there
  pub at_once_rests : Rests ring (at_once ring s frame final enough_runs)
  -- and the engine need not wait or have stopped: once the final pointer is in, as many runs more come to the same. Ruled
  -- out: an engine that, once it was woken for half a command, never takes that command up.
  pub same_at_last : y.state.write ≡ final → runs ring enough_runs y ≡ at_once ring s frame final enough_runs

unfoldable pub Demand3 : Type 0
Demand3 =
    (ring : List ℕ) (s : State) (frame : List ℕ) (final : ℕ) (calls : List Call)
    -- "Fix an accepted state, a ring, frame memory and one run of words from the read pointer to a final write pointer that
    -- publishing accepts"
    → Fixed ring s frame
    → Accepted (publish s final)
    → Along ring s final calls (start s frame)
    -- (a) "after it the state, frame memory and sum of reported units are what document 01's plain course gives". Ruled out:
    -- an engine whose refused publishing moves the write pointer; one that loses a unit between two runs.
    → (performs (lent ring calls) (start s frame) ≡ course (lent ring calls) (start s frame))
    × Arrived ring s frame final (performs (lent ring calls) (start s frame))

-- the same with a ring lent anew at each call. Ruled out: an engine that reads a command's words again while it draws, when
-- the host may have written over them; one that reads ahead of the write pointer.
unfoldable pub Demand3Fed : Type 0
Demand3Fed =
    (all : List ℕ) (s : State) (frame : List ℕ) (final : ℕ) (calls : List Lent)
    → Fixed all s frame
    → Accepted (publish s final)
    → AlongFed all s final calls (start s frame)
    → (performs calls (start s frame) ≡ course calls (start s frame))
    × Arrived all s frame final (performs calls (start s frame))

-- The whole night: demand 3 for any number of laps. Demand 3 speaks of one run of words, which is shorter than a lap. Here the
-- words are a tape that never ends, each with its number, its absolute position; ring word i holds in turn the tape's words
-- whose number is i modulo the ring size. However the words came and whatever the budgets, the outcome is that of a plain
-- machine that reads the tape. It answers the user's "a write pointer used again after a lap looks like any other".
use Rattle.std.specs.Prelude.{ℕ, zero, suc, ◌+◌, ◌-◌, ◌%◌, ◌≤◌, ◌<◌, ◌≡◌, true, false, List, [], ◌∷◌, length, if◌then◌else◌}
use Rattle.std.proofs.Math.ListN.{get_or}
use Rattle.model.specs.Choice.{◌=?◌}
use Rattle.model.specs.Ring.{distance, waiting}
use Rattle.model.specs.Unit.{Machine, unit, possible}
use Rattle.model.specs.Calls.{unfit, publish, run, restart, number_of, machine_of}
use Rattle.model.specs.Course.{Call, publishing, running, asking, restarting, Lent, Configuration}
use Rattle.model.specs.Perform.{perform, performs, runs, start, Accepted, Fixed, Rests}
use Rattle.model.specs.declared.State.{State}
use Rattle.demands.specs.Courses.{machine_in}
use Rattle.demands.specs.Progress.{enough_runs}

-- ---- the statement: the plain machine that reads the tape

-- the words f 0 to f (n - 1)
abbrev pub listed : ℕ → (ℕ → ℕ) → List ℕ
listed zero f = []
listed (suc n) f = f 0 ∷ listed n (λ i. f (suc i))

-- one lap of the tape's words from number `at` on, as they lie round a ring of n words: at position i the first of them whose
-- number is i modulo n (law `window_holds`, and `window_three` for an example)
unfoldable pub window : (ℕ → ℕ) → ℕ → ℕ → List ℕ
window tape n at = listed n (λ i. tape (at + distance n (at % n) i))

-- it has the engine state without write pointer, frame memory, and the number on the tape of the word at the read pointer
pub record Reading : Type 0 where
  pub machine : Machine
  pub at : ℕ

-- One unit is demand 2's, over the words that the tape has from there on. The number moves on as far as the read pointer does.
abbrev pub tape_unit : (ℕ → ℕ) → Reading → Reading
tape_unit tape x =
    let n = x.machine.core.ringlength in
    let next = unit (window tape n x.at) x.machine in
    record { machine = next; at = x.at + distance n x.machine.core.read next.core.read }

abbrev pub tape_units : (ℕ → ℕ) → ℕ → Reading → Reading
tape_units tape zero x = x
tape_units tape (suc k) x = tape_units tape k (tape_unit tape x)

-- a further unit can be done with the words before number `written`: with a write pointer w that is no further on
abbrev pub Further : (ℕ → ℕ) → ℕ → Reading → Type 0
Further tape written x =
    let c = x.machine.core in
    (w : ℕ) × (possible (window tape c.ringlength x.at) c w ≡ true) × (x.at + waiting c.ringlength c.read w ≤ written)

-- ---- the statement: the calls of a night

-- The absolute write position: the number on the tape that the next word published gets. At the start the word at the read
-- pointer has that pointer's number.
abbrev pub written_first : State → ℕ
written_first s = s.core.read + waiting s.core.ringlength s.core.read s.write

-- An accepted publishing takes it as far on as the write pointer goes, and no other call moves it.
abbrev pub written_next : ℕ → Call → Configuration → ℕ
written_next written (publishing p) y =
    if number_of (publish y.state p).reply =? 0 then written + distance y.state.core.ringlength y.state.write p else written
written_next written (running budget) y = written
written_next written asking y = written
written_next written restarting y = written

abbrev pub written_last : ℕ → List Lent → Configuration → ℕ
written_last written [] y = written
written_last written (x ∷ xs) y = written_last (written_next written x.call y) xs (perform x y)

-- The absolute read position: the words that wait are the last ones written.
abbrev pub read_at : ℕ → Configuration → ℕ
read_at written y = written - waiting y.state.core.ringlength y.state.core.read y.state.write

-- a ring agrees with the tape from the absolute read to the absolute write position; of its other words nothing is asked
abbrev pub Holds : (ℕ → ℕ) → ℕ → List ℕ → Configuration → Type 0
Holds tape written ring y =
    (k : ℕ) → read_at written y ≤ k → k < written → get_or ring (k % y.state.core.ringlength) 0 ≡ tape k

-- what is asked of the host: an accepted run is lent such a ring, and no restart is accepted. Of publishings nothing is asked:
-- those that the engine accepts are right.
abbrev pub Hosted : (ℕ → ℕ) → ℕ → List ℕ → Call → Configuration → Type 0
Hosted tape written ring (publishing p) y = Unit {0}
Hosted tape written ring (running budget) y = Accepted (run ring y.state y.frame budget) → Holds tape written ring y
Hosted tape written ring asking y = Unit {0}
Hosted tape written ring restarting y = Accepted (restart y.state) → ⊥

-- at every call of the list, each getting what the last one left
abbrev pub AllHosted : (ℕ → ℕ) → ℕ → List Lent → Configuration → Type 0
AllHosted tape written [] y = Unit {0}
AllHosted tape written (x ∷ xs) y =
    Hosted tape written x.ring x.call y × AllHosted tape (written_next written x.call y) xs (perform x y)

-- a night from a state and frame memory on, and the absolute write position at its end
abbrev pub Night : (ℕ → ℕ) → State → List ℕ → List Lent → Type 0
Night tape s frame calls = AllHosted tape (written_first s) calls (start s frame)

abbrev pub written_by : State → List ℕ → List Lent → ℕ
written_by s frame calls = written_last (written_first s) calls (start s frame)

-- "the engine waits or has stopped", as a run would answer that is lent a ring that agrees with the tape
pub record Resting (tape : ℕ → ℕ) (written : ℕ) (ring : List ℕ) (y : Configuration) : Type 0 where
  pub ring_is : length ring ≡ y.state.core.ringlength
  pub holds : Holds tape written ring y
  pub rests : Rests ring y

-- ---- the statement: what they come to

-- the machine at the start of a night
abbrev pub first_reading : State → List ℕ → Reading
first_reading s frame = record { machine = machine_of s frame; at = s.core.read }

-- What is claimed of the end y of a list of calls, with the absolute write position.
pub record OnTape (tape : ℕ → ℕ) (s : State) (frame : List ℕ) (written : ℕ) (y : Configuration) : Type 0 where
  -- All but the write pointer, and frame memory, are those of the plain machine after as many units as were reported, and it
  -- stands at the absolute read position. Ruled out: an engine that takes equal pointers after a lap as full, and draws the
  -- lap's old words; one that after W draws the words that stood at ring word 0 a lap before.
  pub same_units :
      tape_units tape y.sum (first_reading s frame) ≡ record { machine = machine_in y; at = read_at written y }
  -- Each of these units can be done with the words written. Ruled out: an engine that reports units after it has stopped; one
  -- that draws a command before its last word is published, by the word that stood there a lap before.
  pub each_possible : (k : ℕ) → k < y.sum → Further tape written (tape_units tape k (first_reading s frame))
  -- Where the engine rests the plain machine can go no further. Ruled out: an engine that, where the write pointer comes round
  -- to the read pointer of a lap before, takes the ring as empty.
  pub at_rest : (ring : List ℕ) → Resting tape written ring y → Further tape written (tape_units tape y.sum (first_reading s frame)) → ⊥
  -- The write pointer is the absolute write position modulo the ring size. Ruled out: an engine whose refused publishing, or
  -- whose run, moves it.
  pub write_is : written % s.core.ringlength ≡ y.state.write

-- every list of calls, of any length and over any number of laps
unfoldable pub WholeNight : Type 0
WholeNight =
    (tape : ℕ → ℕ) (s : State) (frame : List ℕ) (calls : List Lent)
    → unfit s ≡ false
    → Night tape s frame calls
    → OnTape tape s frame (written_by s frame calls) (performs calls (start s frame))

-- So the outcome of a night depends on the words alone, and not on when they came: two nights from one start over one tape,
-- with as many words written, and at rest, have the same whole state, frame memory and sum. Ruled out: an engine whose picture
-- depends on whether it was woken between two portions; one that loses a word at the ring's end where it comes late.
unfoldable pub SameNight : Type 0
SameNight =
    (tape : ℕ → ℕ) (s : State) (frame : List ℕ) (one other : List Lent) (ring ring' : List ℕ)
    → unfit s ≡ false
    → Night tape s frame one
    → Night tape s frame other
    → written_by s frame one ≡ written_by s frame other
    → Resting tape (written_by s frame one) ring (performs one (start s frame))
    → Resting tape (written_by s frame other) ring' (performs other (start s frame))
    → performs one (start s frame) ≡ performs other (start s frame)

-- And rest need not be waited for: by progress, enough runs more make up for every way of arriving late.
unfoldable pub NightAtLast : Type 0
NightAtLast =
    (tape : ℕ → ℕ) (s : State) (frame : List ℕ) (one other : List Lent) (ring ring' : List ℕ)
    → Fixed ring s frame
    → Fixed ring' s frame
    → Night tape s frame one
    → Night tape s frame other
    → written_by s frame one ≡ written_by s frame other
    → Holds tape (written_by s frame one) ring (performs one (start s frame))
    → Holds tape (written_by s frame other) ring' (performs other (start s frame))
    → runs ring enough_runs (performs one (start s frame)) ≡ runs ring' enough_runs (performs other (start s frame))

-- What is asked of a host can be met, over every tape and by every list of calls that has no restart: by lending at each call
-- the tape's words from the absolute read position on.
abbrev pub lending : (ℕ → ℕ) → ℕ → List Call → Configuration → List Lent
lending tape written [] y = []
lending tape written (call ∷ calls) y =
    let x : Lent = record { ring = window tape y.state.core.ringlength (read_at written y); call = call } in
    x ∷ lending tape (written_next written call y) calls (perform x y)

abbrev pub NoRestart : List Call → Type 0
NoRestart [] = Unit {0}
NoRestart (publishing p ∷ calls) = NoRestart calls
NoRestart (running budget ∷ calls) = NoRestart calls
NoRestart (asking ∷ calls) = NoRestart calls
NoRestart (restarting ∷ calls) = ⊥

unfoldable pub NightsExist : Type 0
NightsExist =
    (tape : ℕ → ℕ) (s : State) (frame : List ℕ) (calls : List Call) → NoRestart calls
    → Night tape s frame (lending tape (written_first s) calls (start s frame))

-- A list of calls performed one after the other, each getting what the last one left, with the sum of the units reported: what
-- the demands speak of. (`Course` is document 01's plain course over the same list.)
use Rattle.std.specs.Prelude.{ℕ, ◌+◌, ◌≡◌, ◌⊎◌, false, List, [], ◌∷◌, map, length}
use Rattle.model.specs.Calls.{unfit, publish, restart, ask_room, run, run_frame, run_word, number_of, units_of}
use Rattle.model.specs.Course.{Call, publishing, running, asking, restarting, Lent, Configuration}
use Rattle.model.specs.declared.State.{State}
use Rattle.model.specs.declared.Answer.{Answer}
use Rattle.model.specs.declared.RunWord.TheVariants.{Stopped, Waiting}

-- the answer of a call
abbrev pub answer_of : List ℕ → Call → Configuration → Answer
answer_of ring (publishing p) y = publish y.state p
answer_of ring (running budget) y = run ring y.state y.frame budget
answer_of ring asking y = ask_room y.state
answer_of ring restarting y = restart y.state

-- frame memory after it
abbrev pub frame_of : List ℕ → Call → Configuration → List ℕ
frame_of ring (publishing p) y = y.frame
frame_of ring (running budget) y = run_frame ring y.state y.frame budget
frame_of ring asking y = y.frame
frame_of ring restarting y = y.frame

-- one call, lent the ring as it stands then: state, frame memory and sum after it
abbrev pub perform : Lent → Configuration → Configuration
perform x y = record {
  state = (answer_of x.ring x.call y).state;
  frame = frame_of x.ring x.call y;
  sum = y.sum + units_of (answer_of x.ring x.call y).reply;
}

abbrev pub performs : List Lent → Configuration → Configuration
performs [] y = y
performs (x ∷ xs) y = performs xs (perform x y)

-- calls that are all lent one ring
abbrev pub lent : List ℕ → List Call → List Lent
lent ring calls = map (λ call. record { ring = ring; call = call }) calls

-- runs with these budgets, one after the other
abbrev pub runs : List ℕ → List ℕ → Configuration → Configuration
runs ring budgets y = performs (lent ring (map running budgets)) y

-- what budgets come to together
abbrev pub total : List ℕ → ℕ
total [] = 0
total (b ∷ bs) = b + total bs

-- "a sum that begins at 0"
abbrev pub start : State → List ℕ → Configuration
start s frame = record { state = s; frame = frame; sum = 0 }

-- ---- words of the demands

-- "Accepted, each answers 0"
abbrev pub Accepted : Answer → Type 0
Accepted a = number_of a.reply ≡ 0

-- "An accepted state is one that row 3 doesn't refuse; ring and frame memory have its lengths."
pub record Fixed (ring : List ℕ) (s : State) (frame : List ℕ) : Type 0 where
  pub state_fit : unfit s ≡ false
  pub ring_is : length ring ≡ s.core.ringlength
  pub frame_is : length frame ≡ s.core.framelength

-- "the engine waits or has stopped": "The engine waits when a run would answer waiting"
abbrev pub Rests : List ℕ → Configuration → Type 0
Rests ring y = (run_word ring y.state ≡ Waiting) ⊎ (run_word ring y.state ≡ Stopped)

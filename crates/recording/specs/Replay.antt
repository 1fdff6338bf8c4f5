-- What the programs ask of the engine (document 01, Shop cases: the replay program).
use Rattle.std.specs.Prelude.{ℕ, ◌≤◌, ◌≡◌, refl, Bool, true, false, not, ◌||◌, List, length, if◌then◌else◌}
use Rattle.std.proofs.Common.{ltb-false}
use Rattle.std.proofs.lemmas.Bool.{not-false}
use Rattle.model.specs.Choice.{◌<?◌, ◌=?◌}
use Rattle.model.proofs.Choice.{neither, not_both}
use Rattle.model.specs.Calls.{number_of, setup, publish, run_refusal, ran_answer, run, run_frame}
use Rattle.model.specs.declared.State.{State}
use Rattle.model.specs.declared.RunWord.{RunWord}
use Rattle.model.specs.declared.Reply.TheVariants.{Ran}
use Rattle.model.specs.declared.Answer.{Answer}

-- "a ring length above 4,096, a frame length above 32,768"
abbrev pub ring_limit : ℕ
ring_limit = 4_096

abbrev pub frame_limit : ℕ
frame_limit = 32_768

abbrev pub bad_lengths : ℕ → ℕ → Bool
bad_lengths ringlength framelength = ring_limit <? ringlength || frame_limit <? framelength

-- "a refused call answers its number", and no number is 0
abbrev pub is_refused : Answer → Bool
is_refused a = not (number_of a.reply =? 0)

-- "one publish and one run": "the first refused call ends the replay"
unfoldable pub played : List ℕ → State → List ℕ → ℕ → ℕ → Answer
played ring s frame p budget =
    if is_refused (publish s p) then publish s p else run ring (publish s p).state frame budget

-- and frame memory after it
unfoldable pub played_frame : List ℕ → State → List ℕ → ℕ → ℕ → List ℕ
played_frame ring s frame p budget =
    if is_refused (publish s p) then frame else run_frame ring (publish s p).state frame budget

-- "It does setup, one publish and one run"
abbrev pub made : List ℕ → List ℕ → Answer
made ring frame = setup (length ring) (length frame)

unfoldable pub replay : List ℕ → List ℕ → ℕ → ℕ → Answer
replay ring frame p budget =
    if is_refused (made ring frame) then made ring frame else played ring (made ring frame).state frame p budget

unfoldable pub replay_frame : List ℕ → List ℕ → ℕ → ℕ → List ℕ
replay_frame ring frame p budget =
    if is_refused (made ring frame) then frame else played_frame ring (made ring frame).state frame p budget

-- ---- laws

-- lengths that are not bad
pub good_lengths : (r f : ℕ) → bad_lengths r f ≡ false → (r ≤ ring_limit) × (f ≤ frame_limit)
good_lengths r f e =
    let n = neither (ring_limit <? r) (frame_limit <? f) e in (ltb-false ring_limit r n.0, ltb-false frame_limit f n.1)

-- a replay that is not refused ends with its run's word
pub ends_with_run : (ring frame : List ℕ) (p budget : ℕ) → is_refused (replay ring frame p budget) ≡ false
    → (word : RunWord) × (units : ℕ) × (room : ℕ) × ((replay ring frame p budget).reply ≡ Ran word units room)
unfolding replay played run ran_answer
ends_with_run ring frame p budget z =
    go (is_refused (made ring frame)) (is_refused told) (run_refusal ring told.state frame =? 0) refl refl refl
  where
    told : Answer
    told = publish (made ring frame).state p

    go : (a b c : Bool) → is_refused (made ring frame) ≡ a → is_refused told ≡ b → run_refusal ring told.state frame =? 0 ≡ c
        → (word : RunWord) × (units : ℕ) × (room : ℕ) × ((replay ring frame p budget).reply ≡ Ran word units room)
    go true b c ea eb ec = absurd (not_both _ ea (rw ea at z))
    go false true c ea eb ec = absurd (not_both _ eb (rw (ea, eb) at z))
    go false false false ea eb ec = absurd (not_both (run_refusal ring told.state frame =? 0) (not-false _ (rw (ea, eb, ec) at z)) ec)
    go false false true ea eb ec = rw (ea, eb, ec) (_, _, _, refl)

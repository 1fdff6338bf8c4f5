-- What `trace` writes, as a function of the file's bytes: little-endian words, ring length and frame length, then records of
-- three words `op a b`.
use Rattle.std.specs.Prelude.{ℕ, zero, suc, ◌+◌, ◌-◌, ◌≤◌, ◌<◌, ◌≡◌, Bool, true, false, not, ◌&&◌, ◌||◌, List, [], ◌∷◌, ◌++◌, length, take, drop, set, replicate, Option, None, Some, if◌then◌else◌}
use Rattle.std.proofs.Math.Path.{refl, ap}
use Rattle.std.proofs.Common.{sym, subst, ◌∙◌, append_assoc, append-nil, zero-add, length-append, take_at, drop_at, take_all}
use native.Mathlib.Omega.{arith}
use borrow.Author.Tests.{eq-eqb, ne_eqb, ltb-true, ltb-false, leb-false}
use Rattle.std.proofs.lemmas.List.{length-replicate}
use Rattle.io.specs.Counts.{IsPrefixLen}
use Rattle.model.specs.Choice.{◌<?◌, ◌≤?◌, ◌=?◌}
use Rattle.model.proofs.Choice.{neither, not_both}
use Rattle.model.specs.Calls.{setup, publish, run, run_frame, ask_room, restart}
use Rattle.model.specs.declared.State.{State}
use Rattle.model.specs.declared.Answer.{Answer}
use Rattle.text.specs.Lines.{call_line, crc_line, bad_line}
use Rattle.recording.specs.Parts.{part_length, take_zeros}
use Rattle.recording.specs.Replay.{ring_limit, frame_limit, bad_lengths, good_lengths, is_refused}
use Rattle.recording.specs.Recording.{file_word}
use Rattle.crc.specs.Crc.{crc32}
use Rattle.std.specs.declared.ops.ControlFlow.{ControlFlow}
use Rattle.std.specs.declared.ops.ControlFlow.TheVariants.{Continue, Break}
use Rattle.tracing.specs.declared.Call.{Call}
use Rattle.tracing.specs.declared.Call.TheVariants.{Publish, Run, Room, Restart}
use Rattle.tracing.specs.declared.Record.{Record}
use Rattle.tracing.specs.declared.Record.TheVariants.{Store, Called}
use Rattle.tracing.specs.declared.Step.{Step}

-- ---- a record

-- the call of a record: 1 publish, 2 run, 3 room, else restart
unfoldable pub asked : ℕ → ℕ → State → List ℕ → List ℕ → Answer
asked op a s ring frame =
    if op =? 1 then publish s a
    else if op =? 2 then run ring s frame a
    else if op =? 3 then ask_room s
    else restart s

-- and frame memory after it
unfoldable pub asked_frame : ℕ → ℕ → State → List ℕ → List ℕ → List ℕ
asked_frame op a s ring frame = if op =? 2 then run_frame ring s frame a else frame

-- what is held between two records
pub record Held : Type 0 where
  pub state : State
  pub ring : List ℕ
  pub frame : List ℕ

-- what a record comes to: the text that is written, whether the trace goes on, and what is held then
pub record Stepped : Type 0 where
  pub text : List ℕ
  pub more : Bool
  pub held : Held

abbrev pub held : State → List ℕ → List ℕ → Held
held s ring frame = record { state = s; ring = ring; frame = frame }

-- a cut record, an unknown op, or a store beyond the ring
abbrev pub bad_record : List ℕ → ℕ → Bool
bad_record part ringlength = length part <? 12 || 4 <? file_word part 0 || ((file_word part 0 =? 0) && ringlength ≤? file_word part 1)

-- the call of a record, and the line of it
abbrev pub call_step : ℕ → ℕ → Held → Stepped
call_step op a t =
    let answer = asked op a t.state t.ring t.frame in
    record {
      text = call_line op answer;
      more = true;
      held = held answer.state t.ring (asked_frame op a t.state t.ring t.frame);
    }

-- the last line: a checksum of frame memory at the end of the file, `recording=bad` in the place of a bad record
abbrev pub last_line : List ℕ → List ℕ → List ℕ
last_line part frame = if length part =? 0 then crc_line (crc32 frame) else bad_line

-- the next 12 bytes of the file, or fewer where it ends: nothing is written for a store (op 0), and else a call's line
unfoldable pub step_of : List ℕ → Held → Stepped
step_of part t =
    if bad_record part (length t.ring) then record { text = last_line part t.frame; more = false; held = t }
    else if file_word part 0 =? 0
    then record { text = []; more = true; held = held t.state (set t.ring (file_word part 1) (file_word part 2)) t.frame }
    else call_step (file_word part 0) (file_word part 1) t

-- ---- the file

-- record by record; there are fewer records than bytes, so `most` only says that it ends
abbrev pub records_text : ℕ → List ℕ → Held → List ℕ
records_text zero bytes t = []
records_text (suc most) bytes t =
    let s = step_of (take 12 bytes) t in
    s.text ++ (if s.more then records_text most (drop 12 bytes) s.held else [])

-- fewer than two words, or lengths above the programs' limits
abbrev pub bad_begin : List ℕ → Bool
bad_begin head = length head <? 8 || bad_lengths (file_word head 0) (file_word head 1)

-- setup and its line; a refused setup ends the trace
unfoldable pub begin_of : List ℕ → Stepped
begin_of head =
    let answer = setup (file_word head 0) (file_word head 1) in
    if bad_begin head
    then record { text = bad_line; more = false; held = held (setup 0 0).state [] [] }
    else record {
      text = call_line 0 answer;
      more = not (is_refused answer);
      held = held answer.state (replicate (file_word head 0) 0) (replicate (file_word head 1) 0);
    }

-- all that `trace` writes
unfoldable pub trace_text : List ℕ → List ℕ
trace_text file =
    let s = begin_of (take 8 file) in
    s.text ++ (if s.more then records_text (length file) (drop 8 file) s.held else [])

-- ---- read in parts

-- parts of a file, one after the other
abbrev pub joined : List (List ℕ) → List ℕ
joined [] = []
joined (p ∷ ps) = p ++ joined ps

-- records of 12 bytes, each of which lets the trace go on: what is held after them, and the text that they write
abbrev pub AllGo : List (List ℕ) → Held → Type 0
AllGo [] t = Unit {0}
AllGo (p ∷ ps) t = (length p ≡ 12) × ((step_of p t).more ≡ true) × AllGo ps (step_of p t).held

abbrev pub held_after : List (List ℕ) → Held → Held
held_after [] t = t
held_after (p ∷ ps) t = held_after ps (step_of p t).held

abbrev pub text_of : List (List ℕ) → Held → List ℕ
text_of [] t = []
text_of (p ∷ ps) t = (step_of p t).text ++ text_of ps (step_of p t).held

-- u is what is held after some records from t on, each from what the last one left
pub record Reached (t u : Held) : Type 0 where
  pub parts : List (List ℕ)
  pub all_go : AllGo parts t
  pub after_is : held_after parts t ≡ u

-- A program that reads 8 bytes, then 12 bytes at a time, fewer only where the file ends, and writes the text of each part
-- until one does not let the trace go on, writes the file's text.
unfoldable pub InParts : Type 0
InParts =
    (head : List ℕ) (parts : List (List ℕ)) (last rest : List ℕ)
    → length head ≡ 8
    → (begin_of head).more ≡ true
    → AllGo parts (begin_of head).held
    → length last ≤ 12
    → (length last < 12 → rest ≡ [])
    → (step_of last (held_after parts (begin_of head).held)).more ≡ false
    → trace_text (head ++ (joined parts ++ (last ++ rest)))
    ≡ (begin_of head).text ++ (text_of parts (begin_of head).held ++ (step_of last (held_after parts (begin_of head).held)).text)

-- ---- the same as the code has it

-- the call that an op and the word behind it ask for
abbrev pub call_of : ℕ → ℕ → Call
call_of op a =
    if op =? 1 then Publish a
    else if op =? 2 then Run a
    else if op =? 3 then Room
    else Restart

-- and the other way round
abbrev pub op_of : Call → ℕ
op_of (Publish position) = 1
op_of (Run budget) = 2
op_of Room = 3
op_of Restart = 4

abbrev pub argument_of : Call → ℕ
argument_of (Publish position) = position
argument_of (Run budget) = budget
argument_of Room = 0
argument_of Restart = 0

-- a record that is not bad
abbrev pub record_of : ℕ → ℕ → ℕ → Record
record_of op a b = if op =? 0 then Store a b else Called (call_of op a)

abbrev pub good_record : List ℕ → ℕ → Option Record
good_record part ringlength =
    if bad_record part ringlength then None else Some (record_of (file_word part 0) (file_word part 1) (file_word part 2))

-- the lengths of ring and frame memory, of a trace that does not begin badly
abbrev pub good_begin : List ℕ → Option (ℕ × ℕ)
good_begin head = if bad_begin head then None else Some (file_word head 0, file_word head 1)

-- whether a trace goes on
abbrev pub goes_on : ControlFlow (Unit {0}) (Unit {0}) → Bool
goes_on (Continue _) = true
goes_on (Break _) = false

-- the answer of a function that does a record, and what it leaves in ring and frame memory
pub record Steps (x : Stepped) (r : Step) (ring frame : List ℕ) : Type 0 where
  pub more_is : goes_on r.flow ≡ x.more
  pub held_is : held r.state ring frame ≡ x.held
  pub text_is : r.text ≡ x.text

-- and of the one that does the setup: ring and frame memory are the caller's
pub record Begins (x : Stepped) (r : Step) : Type 0 where
  pub more_is : goes_on r.flow ≡ x.more
  pub state_is : r.state ≡ x.held.state
  pub text_is : r.text ≡ x.text

-- ---- laws

module _ (head : List ℕ) (made : Answer) {text : List ℕ} where
  pub begins_bad : bad_begin head ≡ true → made ≡ setup 0 0 → text ≡ bad_line
      → Begins (begin_of head) (record { text = text; state = made.state; flow = Break tt })
  unfolding begin_of
  begins_bad bad is h = rw bad (record { more_is = refl; state_is = ap (λ (a : Answer). a.state) is; text_is = h })

  pub begins_good : {flow : ControlFlow (Unit {0}) (Unit {0})} → bad_begin head ≡ false
      → made ≡ setup (file_word head 0) (file_word head 1) → text ≡ call_line 0 made → goes_on flow ≡ not (is_refused made)
      → Begins (begin_of head) (record { text = text; state = made.state; flow = flow })
  unfolding begin_of
  begins_good fine is h more = rw (fine, ← is) (record { more_is = more; state_is = refl; text_is = h })

pub whole_begin : (head : List ℕ) → bad_begin head ≡ false → 8 ≤ length head
whole_begin head e = ltb-false (length head) 8 (neither (length head <? 8) _ e).0

-- what is held where a trace goes on after its setup: zeros, within the programs' limits
pub record Begun (head : List ℕ) : Type 0 where
  pub whole : 8 ≤ length head
  pub ring_most_holds : file_word head 0 ≤ ring_limit
  pub frame_most_holds : file_word head 1 ≤ frame_limit
  pub ring_is : (begin_of head).held.ring ≡ replicate (file_word head 0) 0
  pub frame_is : (begin_of head).held.frame ≡ replicate (file_word head 1) 0

pub begun : (head : List ℕ) → (begin_of head).more ≡ true → Begun head
unfolding begin_of
begun head more = go (bad_begin head) refl
  where
    go : (b : Bool) → bad_begin head ≡ b → Begun head
    go true e = absurd (not_both false (rw e at more) refl)
    go false e =
        let l = good_lengths (file_word head 0) (file_word head 1) (neither (length head <? 8) _ e).1 in
        record { whole = whole_begin head e; ring_most_holds = l.0; frame_most_holds = l.1; ring_is = rw e; frame_is = rw e }

-- so a program may lend parts of its zeroed buffers
pub record Lendable (head : List ℕ) (s : State) (m n : ℕ) (ring frame : List ℕ) : Type 0 where
  pub ring_in : IsPrefixLen m ring
  pub frame_in : IsPrefixLen n frame
  pub held_is : held s (take m ring) (take n frame) ≡ (begin_of head).held

pub lendable : (head : List ℕ) (s : State) (m n : ℕ) (ring frame : List ℕ) → (begin_of head).more ≡ true
    → s ≡ (begin_of head).held.state → m ≡ file_word head 0 → n ≡ file_word head 1 → ring ≡ replicate ring_limit 0
    → frame ≡ replicate frame_limit 0 → Lendable head s m n ring frame
lendable head s m n ring frame more s-is m-is n-is ring_is frame_is =
    let b = begun head more in
    let r : m ≤ ring_limit = rw m-is b.ring_most_holds in
    let f : n ≤ frame_limit = rw n-is b.frame_most_holds in
    let ring_in : m ≤ length ring = rw ring_is (omega (arith, length-replicate {A = ℕ} ring_limit 0)) in
    let frame_in : n ≤ length frame = rw frame_is (omega (arith, length-replicate {A = ℕ} frame_limit 0)) in
    record {
      ring_in = (ring_in, part_length m ring ring_in);
      frame_in = (frame_in, part_length n frame frame_in);
      held_is =
          rw (ring_is, frame_is, take_zeros m ring_limit r, take_zeros n frame_limit f, s-is, m-is, n-is, ← b.ring_is, ← b.frame_is) refl;
    }

-- a record that is not bad is whole, and a store lies in the ring
pub whole_record : (part : List ℕ) (n : ℕ) → bad_record part n ≡ false
    → (12 ≤ length part) × (file_word part 0 ≡ 0 → file_word part 1 < n)
whole_record part n e =
    let a = neither (length part <? 12 || 4 <? file_word part 0) _ e in
    let b = neither (length part <? 12) _ a.0 in (
      ltb-false _ _ b.0,
      (λ z. leb-false n (file_word part 1) (rw (eq-eqb (file_word part 0) 0 z) at a.1)),
    )

module _ (part : List ℕ) (t : Held) where
  pub steps_last : bad_record part (length t.ring) ≡ true → {text : List ℕ} → text ≡ last_line part t.frame
      → Steps (step_of part t) (record { text = text; state = t.state; flow = Break tt }) t.ring t.frame
  unfolding step_of
  steps_last bad h = rw bad (record { more_is = refl; held_is = refl; text_is = h })

  module _ (fine : bad_record part (length t.ring) ≡ false) {op a : ℕ} (op-is : op ≡ file_word part 0) (a-is : a ≡ file_word part 1) where
    pub steps_store : op ≡ 0 → (b : ℕ) → b ≡ file_word part 2
        → Steps (step_of part t) (record { text = []; state = t.state; flow = Continue tt }) (set t.ring a b) t.frame
    unfolding step_of
    steps_store z b b-is = rw (fine, eq-eqb (file_word part 0) 0 (sym op-is ∙ z), a-is, b-is) (record {
      more_is = refl;
      held_is = refl;
      text_is = refl;
    })

    pub steps_call : (op ≡ 0 → ⊥) → {r : Step} {ring frame : List ℕ} → Steps (call_step op a t) r ring frame
        → Steps (step_of part t) r ring frame
    unfolding step_of
    steps_call some h = rw (fine, ← op-is, ← a-is, ne_eqb op 0 some) h

-- one part: one that does not let the trace go on leaves what is held as it was
step_reached : (part : List ℕ) (t : Held) → length part ≤ 12 → Reached t (step_of part t).held
unfolding step_of
step_reached part t l = go (bad_record part (length t.ring)) (file_word part 0 =? 0) refl refl
  where
    go : (a b : Bool) → bad_record part (length t.ring) ≡ a → file_word part 0 =? 0 ≡ b → Reached t (step_of part t).held
    go true b ea eb = record { parts = []; all_go = tt; after_is = rw ea }
    go false true ea eb =
        let w = whole_record part (length t.ring) ea in
        record { parts = part ∷ []; all_go = (omega arith, rw (ea, eb), tt); after_is = refl }
    go false false ea eb =
        let w = whole_record part (length t.ring) ea in
        record { parts = part ∷ []; all_go = (omega arith, rw (ea, eb), tt); after_is = refl }

pub steps_reached : (part : List ℕ) (t : Held) (r : Step) (ring frame : List ℕ) → length part ≤ 12
    → Steps (step_of part t) r ring frame → Reached t (held r.state ring frame)
steps_reached part t r ring frame l h = subst (Reached t) (sym h.held_is) (step_reached part t l)

-- some parts after others
both_go : (ps qs : List (List ℕ)) (t : Held) → AllGo ps t → AllGo qs (held_after ps t)
    → AllGo (ps ++ qs) t × (held_after (ps ++ qs) t ≡ held_after qs (held_after ps t))
both_go [] qs t a b = (b, refl)
both_go (p ∷ ps) qs t a b = let i = both_go ps qs (step_of p t).held a.2 b in ((a.0, a.1, i.0), i.1)

pub reached_then : (t u v : Held) → Reached t u → Reached u v → Reached t v
reached_then t u v g h =
    let e = g.after_is in
    let i = both_go g.parts h.parts t g.all_go (rw e h.all_go) in
    record { parts = g.parts ++ h.parts; all_go = i.0; after_is = i.1 ∙ ap (held_after h.parts) e ∙ h.after_is }

-- reading record by record gives the file's records
records_in_parts : (ps : List (List ℕ)) (t : Held) (most : ℕ) (rest : List ℕ) → AllGo ps t
    → records_text (length ps + most) (joined ps ++ rest) t ≡ text_of ps t ++ records_text most rest (held_after ps t)
records_in_parts [] t most rest a = rw (zero-add most)
records_in_parts (p ∷ ps) t most rest a =
    let n : suc (length ps) + most ≡ suc (length ps + most) = omega arith in
    let s = append_assoc p (joined ps) rest in
    let front = take_at p (joined ps ++ rest) 12 a.0 in
    let back = drop_at p (joined ps ++ rest) 12 a.0 in
    rw (n, s, front, back, a.1)
    (ap (λ (x : List ℕ). (step_of p t).text ++ x) (records_in_parts ps (step_of p t).held most rest a.2)
    ∙ sym (append_assoc (step_of p t).text (text_of ps (step_of p t).held) _))

-- there are no more records than bytes
joined_length : (ps : List (List ℕ)) (t : Held) → AllGo ps t → length ps ≤ length (joined ps)
joined_length [] t a = omega arith
joined_length (p ∷ ps) t a =
    let i = joined_length ps (step_of p t).held a.2 in omega (arith, length-append p (joined ps), a.0)

-- the last part is what the next 12 bytes of the file are
last_part : (last rest : List ℕ) → length last ≤ 12 → (length last < 12 → rest ≡ []) → take 12 (last ++ rest) ≡ last
last_part last rest l none = go (length last <? 12) refl
  where
    go : (b : Bool) → length last <? 12 ≡ b → take 12 (last ++ rest) ≡ last
    go true e = rw (none (ltb-true _ _ e), append-nil last) (take_all 12 last l)
    go false e = let h = ltb-false (length last) 12 e in take_at last rest 12 (omega arith)

pub in_parts : InParts
unfolding InParts trace_text
in_parts head parts last rest eight more go short none stops =
    let t = (begin_of head).held in
    let u = held_after parts t in
    let tail = joined parts ++ (last ++ rest) in
    let k = length (head ++ tail) - suc (length parts) in
    let front = take_at head tail 8 eight in
    let back = drop_at head tail 8 eight in
    let e : length (head ++ tail) ≡ length parts + suc k =
    omega (arith, length-append head tail, length-append (joined parts) (last ++ rest), joined_length parts t go) in
    rw (front, back, more, e)
    (ap (λ (x : List ℕ). (begin_of head).text ++ x)
    (records_in_parts parts t (suc k) (last ++ rest) go
    ∙ ap (λ (x : List ℕ). text_of parts t ++ x) (rw (last_part last rest short none, stops) (append-nil (step_of last u).text))))

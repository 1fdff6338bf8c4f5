-- What is proved of specs/Demand1.
use Prim.Native.Nat.{ℕ, ◌≤◌, ◌<◌}
use Rattle.std.proofs.Math.Path.{◌≡◌, refl, sym}
use Rattle.std.proofs.Common.{ap, subst, ◌∙◌, inl, inr, ⊎_elim, arith, eqb-true, eq-eqb, ne_eqb}
use Rattle.std.specs.Prelude.{Bool, ◌||◌, ◌⊎◌, List, ◌∷◌, length, Option, Some, None}
use Rattle.std.proofs.Math.Bool.{true, false}
use Rattle.std.proofs.lemmas.Bool.{eqb-false}
use Rattle.model.specs.Choice.{◌=?◌}
use Rattle.model.proofs.Choice.{true_or_false, not_both, neither, if_both}
use Rattle.model.specs.Refusals.{Rule, ◌when◌, first, NoRule, Each, positive}
use Rattle.model.proofs.Refusals.{first_later, first_each, none_first}
use Rattle.model.specs.Ring.{waiting, room}
use Rattle.model.specs.Command.{kind_of, bad_header, unwanted, unasked, bad_start, drawn_by}
use Rattle.model.specs.Unit.{Machine, header_at, loaded_at, header_refusal, drawn_rules, command_refusal, ready, loaded_core, taken_core, drawn_core, fed_core, unit, wants, drawing, possible, units}
use Rattle.model.specs.Steps.{Step, loads, takes, refuses, draws, feeds}
use Rattle.model.proofs.Steps.{step_of, stopped_keeps}
use Rattle.model.specs.Calls.{unfit, setup_rules, run_rules, setup, publish, restart, ask_room, run_word, run_refusal, run_units, ran_answer, run, fresh_state, room_of, room_after, state_after}
use Rattle.model.specs.Course.{Call, publishing, running, asking, restarting, Configuration}
use Rattle.model.specs.Perform.{answer_of, perform, start, Accepted}
use Rattle.model.specs.declared.Core.{Core}
use Rattle.model.specs.declared.State.{State}
use Rattle.model.specs.declared.Primitive.{Primitive}
use Rattle.model.specs.declared.Place.TheVariants.{Idle}
use Rattle.model.specs.declared.RunWord.{RunWord}
use Rattle.model.specs.declared.RunWord.TheVariants.{Waiting}
use Rattle.model.specs.declared.Reply.TheVariants.{Refused, Ran}
use Rattle.laws.specs.Fit.{Fit, command_first, wanting_is, fit_parts, parts_fit, fit_later, fit_restarted, fit_fresh}
use Rattle.laws.specs.WellFormed.{wellformed_units}
use Rattle.laws.specs.Units.{unit_refuses, idle_possible, possible_ready, units_stop}
use Rattle.demands.specs.Waits.{Whole, GoodHeader, NoCommand, no_word, not_whole, not_judged}
use Rattle.demands.proofs.Waits.{judged_some, judged_within, waits_word, good_header, ready_whole, not_ready, none_ready}
use Rattle.demands.specs.Table.{rules_of}
use Rattle.demands.proofs.Table.{call_first, setup_first, table}
use Rattle.demands.specs.Courses.{Did}
use Rattle.demands.proofs.Courses.{did, accepted_rules, refused_keeps}
use Rattle.demands.specs.Demand1.{Reported, StopStays, of_start, of_header, judged_on, JudgedWhen, WaitingTrue, Demand1}

-- ---- refused and accepted calls

-- what a call leaves is as fit as what it got
pub call_fit : (ring : List ℕ) (y : Configuration) {call : Call} {z : Configuration} → Did ring y call z
    → Fit y.state.core y.state.write → Fit z.state.core z.state.write
call_fit ring y (Did.refuses n) f = f
call_fit ring y Did.asks f = f
call_fit ring y (Did.publishes {p} a l h) f = fit_later y.state.core y.state.write p l h f
call_fit ring y (Did.runs {budget} a h) f = (wellformed_units ring y.state.write budget y.sum _ h).fit
call_fit ring y (Did.restarts a n) f = fit_restarted y.state f n

module _ (ring : List ℕ) (y : Configuration) where
  -- it tells the room of what it leaves, and got a fit state
  accepted_parts : (call : Call) → Accepted (answer_of ring call y)
      → (room_of (answer_of ring call y).reply ≡ room_after (answer_of ring call y).state) × (unfit y.state ≡ false)
  unfolding publish ask_room restart run run_refusal ran_answer
  accepted_parts call a = go call (eq-eqb _ _ (sym (call_first ring call y) ∙ a)) (accepted_rules ring call y a)
    where
      go : (call : Call) → first (rules_of ring call y) =? 0 ≡ true → NoRule (rules_of ring call y)
          → (room_of (answer_of ring call y).reply ≡ room_after (answer_of ring call y).state) × (unfit y.state ≡ false)
      go (publishing p) e h = (rw e, h.0)
      go (running budget) e h = (rw e, h.0)
      go asking e h = (rw e, h.0)
      go restarting e h = (rw e, h.0)

  accepted_call : (call : Call) → Accepted (answer_of ring call y) → Reported (answer_of ring call y)
  unfolding room
  accepted_call call a =
      let h = accepted_parts call a in
      record {
        room_is = h.0;
        state_fit = parts_fit _ (call_fit ring y (did ring call y) (fit_parts y.state h.1));
      }

  asking_keeps : perform (record { ring = ring; call = asking }) y ≡ y
  asking_keeps = go (did ring asking y)
    where
      go : {z : Configuration} → Did ring y asking z → z ≡ y
      go (Did.refuses n) = refl
      go Did.asks = refl

module _ (rl fl : ℕ) where
  abbrev rules : List Rule
  rules = setup_rules rl fl

  refused_setup : (Accepted (setup rl fl) → ⊥) → (setup rl fl).state ≡ fresh_state 0 0
  unfolding setup
  refused_setup n = rw (ne_eqb (first rules) 0 (λ e. n (setup_first rl fl ∙ e)))

  accepted_setup : Accepted (setup rl fl) → Reported (setup rl fl)
  unfolding setup room positive
  accepted_setup a =
      let z = sym (setup_first rl fl) ∙ a in
      rw (eq-eqb (first rules) 0 z) (record { room_is = refl; state_fit = fit_fresh rl fl (none_first rules refl z) })

-- ---- waiting

module _ (ring : List ℕ) (s : State) (frame : List ℕ) (budget : ℕ) where
  -- the word is judged on the state that is handed back
  ran_word : (word : RunWord) (units room : ℕ) → (run ring s frame budget).reply ≡ Ran word units room
      → run_word ring (run ring s frame budget).state ≡ word
  unfolding run ran_answer
  ran_word word units room e = go (run_refusal ring s frame =? 0) refl
    where
      go : (b : Bool) → run_refusal ring s frame =? 0 ≡ b → run_word ring (run ring s frame budget).state ≡ word
      go true h =
          let d = run_units ring s frame budget in
          let q : Ran (run_word ring (state_after s d)) d.used (room_after (state_after s d)) ≡ Ran word units room = rw h at e in
          rw h cc
      go false h =
          let q : Refused (run_refusal ring s frame) ≡ Ran word units room = rw h at e in
          let z : ◌≡◌ {A = ℕ} 0 1 = cc in absurd (omega arith)

  -- an accepted run answers with the word of the state that it hands back
  ran_says : Accepted (run ring s frame budget)
      → (units : ℕ) × (room : ℕ) × ((run ring s frame budget).reply ≡ Ran (run_word ring (run ring s frame budget).state) units room)
  unfolding run run_refusal ran_answer
  ran_says a =
      let z = sym (call_first ring (running budget) (start s frame)) ∙ a in
      rw (eq-eqb (first (run_rules s (length ring) (length frame))) 0 z) (_, _, refl)

waiting_true : WaitingTrue
waiting_true = record {
  only_when = λ ring s frame budget units room e.
      (waits_word ring (run ring s frame budget).state).0 (ran_word ring s frame budget Waiting units room e);
  always_when = λ ring s frame budget a h.
      rw ((waits_word ring (run ring s frame budget).state).1 h) at (ran_says ring s frame budget a);
}

-- ---- when a command is judged

-- what holds of the number without the first rule, where that does not apply, holds of the number
later_each : (P : ℕ → Type 0) (rule : Rule) (rules : List Rule) → rule.applies ≡ false → P (first rules) → P (first (rule ∷ rules))
later_each P rule rules e h = subst P (first_later rule rules e refl) h

module _ (ring : List ℕ) (c : Core) where
  abbrev others : Option Primitive → List Rule
  others d = drawn_rules d (loaded_at ring c) c.framelength

  others_each : (P : ℕ → Type 0) → P 23 → P 24 → P 25 → P 26 → P 27 → P 28 → (d : Option Primitive) → Each P (others d)
  others_each P p q r s t u None = tt
  others_each P p q r s t u (Some primitive) = (p, (q, (r, (s, (t, (u, tt))))))

  -- what they give is none of the header's
  of_header_lem : of_header (command_refusal ring c) ≡ true → GoodHeader ring c → ⊥
  of_header_lem h g =
      let d = drawn_by (header_at ring c) in
      let n : of_header (first (others d)) ≡ true = rw (command_first ring c, eq-eqb _ _ ((good_header ring c).1 g)) at h in
      let Other : ℕ → Type 0 = λ n. of_header n ≡ false in
      not_both _ n (first_each Other (others d) refl (others_each Other refl refl refl refl refl refl d))

  -- 21, 30 and 31 are given only where one of them applies
  only_start : bad_start (wants c.place) (header_at ring c) ≡ false → of_start (command_refusal ring c) ≡ false
  unfolding command_refusal
  only_start b =
      let Other : ℕ → Type 0 = λ n. of_start n ≡ false in
      let header = header_at ring c in
      let h = neither (bad_header header || unwanted (wants c.place) (kind_of header)) _ b in
      let g = neither (bad_header header) _ h.0 in
      later_each Other (21 when bad_header header) _ g.0
      (later_each Other (30 when unwanted (wants c.place) (kind_of header)) _ g.1
      (later_each Other (31 when unasked (wants c.place) (kind_of header)) _ h.1
      (first_each Other _ refl (refl, (refl, (refl, others_each Other refl refl refl refl refl refl (drawn_by header)))))))

  header_good : of_header (command_refusal ring c) ≡ false → GoodHeader ring c
  unfolding header_refusal
  header_good n = go (header_refusal ring c =? 0) refl
    where
      number : (header_refusal ring c ≡ 0) ⊎ (of_header (header_refusal ring c) ≡ true)
      number = first_each (λ n. (n ≡ 0) ⊎ (of_header n ≡ true)) _ (inl refl)
          (inr refl, (inr refl, (inr refl, (inr refl, (inr refl, (inr refl, tt))))))

      go : (b : Bool) → header_refusal ring c =? 0 ≡ b → GoodHeader ring c
      go true e = (good_header ring c).0 (eqb-true _ _ e)
      go false e =
          ⊎_elim (λ z. absurd (eqb-false _ _ e z)) (λ h. absurd (not_both _ h (rw (command_first ring c, e) at n))) number

-- a command that is there is ready, and one that is not there is not
module _ (ring : List ℕ) (c : Core) (w : ℕ) where
  ready_unless : (NoCommand ring c w → ⊥) → ready ring c w ≡ true
  ready_unless n = ⊎_elim (λ e. e) (λ e. absurd (n (not_ready ring c w e))) (true_or_false (ready ring c w))

  header_ready : judged_on (command_refusal ring c) (kind_of (header_at ring c)) ≤ waiting c.ringlength c.read w
      → of_header (command_refusal ring c) ≡ true → ready ring c w ≡ true
  header_ready l h = ready_unless go
    where
      go : NoCommand ring c w → ⊥
      go (no_word z) =
          omega (arith, if_both (λ (n : ℕ). 0 < n) (of_start (command_refusal ring c)) {a = 1} (omega arith) (judged_some ring c))
      go (not_whole g f) = of_header_lem ring c h g
      go (not_judged u) = omega (arith, u.words_few, rw (only_start ring c u.good_start) at l)

  whole_ready : Whole ring c w → ready ring c w ≡ true
  whole_ready h = ready_unless go
    where
      go : NoCommand ring c w → ⊥
      go (no_word z) = omega (arith, h.words_wait, judged_some ring c, judged_within ring c)
      go (not_whole g f) = f h
      go (not_judged u) = omega (arith, h.words_wait, judged_within ring c, u.words_few)

  none_possible : drawing c.place ≡ false → NoCommand ring c w → possible ring c w ≡ false
  none_possible p h =
      ⊎_elim (λ e. absurd (not_both _ (possible_ready ring c w p e) (none_ready ring c w h))) (λ e. e) (true_or_false (possible ring c w))

judged_when : JudgedWhen
judged_when = record {
  header_waits = λ ring m w z p l h. (
    idle_possible ring m.core w z p ∙ header_ready ring m.core w l h,
    ap (λ (k : Machine). k.core.stop) (unit_refuses ring m p (λ q. not_both (of_header 0) (rw q at h) refl))
        ∙ (stopped_keeps m.core (command_refusal ring m.core)).4,
  );
  few_wait = λ ring m w budget used p u.
      units_stop ring w budget used m (none_possible ring m.core w p (not_judged u));
  others_whole = λ ring c w p e n. ready_whole ring c w (possible_ready ring c w p e) (header_good ring c n);
  whole_judged = λ ring c w z p h. idle_possible ring c w z p ∙ whole_ready ring c w h;
  part_waits = λ ring m w budget used p g f.
      units_stop ring w budget used m (none_possible ring m.core w p (not_whole g f));
}

-- ---- the stop number

module _ (ring : List ℕ) (m : Machine) where
  -- a unit that does not refuse leaves it
  not_refused : (drawing m.core.place ≡ false → command_refusal ring m.core ≡ 0) → StopStays ring m
  unfolding loaded_core taken_core drawn_core fed_core
  not_refused h = go (step_of ring m)
    where
      go : Step ring m → StopStays ring m
      go (loads p e d u) = rw u
      go (takes p e d u) = rw u
      go (refuses p n u) = absurd (n (h p))
      go (draws primitive k p u) = rw u
      go (feeds k feed p u) = rw u

  abandons : wants m.core.place ≡ true → (command_refusal ring m.core ≡ 0 → ⊥)
      → ((unit ring m).core.place ≡ Idle) × ((unit ring m).core.completion ≡ m.core.completion)
  abandons p n =
      let k = stopped_keeps m.core (command_refusal ring m.core) in
      rw (unit_refuses ring m (ap drawing (wanting_is m.core.place p)) n) (k.3, k.2)

pub demand1 : Demand1
demand1 = record {
  numbers = table;
  refused_keeps = record { refused_setup = refused_setup; refused_call = refused_keeps; asking_keeps = asking_keeps };
  accepted_reports = record { accepted_setup = accepted_setup; accepted_call = λ ring call y. accepted_call ring y call };
  refused_command = unit_refuses;
  abandons = abandons;
  stop_alone = record {
    accepted_command = λ ring m p e. not_refused ring m (λ q. e);
    pixel = λ ring m p. not_refused ring m (λ q. absurd (not_both _ p q));
  };
  judged_when = judged_when;
  waiting_true = waiting_true;
}

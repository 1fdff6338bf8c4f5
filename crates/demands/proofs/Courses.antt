-- What is proved of specs/Courses.
use Rattle.std.specs.Prelude.{ℕ, zero, suc, ◌+◌, ◌≡◌, refl, Bool, false, not, ◌&&◌, ◌||◌, List, [], ◌∷◌, if◌then◌else◌}
use Rattle.std.proofs.Common.{sym, ap, subst, ◌∙◌, add-zero}
use Rattle.std.proofs.Math.Bool.{true}
use borrow.Author.Tests.{eqb-true, eqb-false, eq-eqb, ne_eqb}
use Rattle.model.specs.Choice.{◌=?◌}
use Rattle.model.proofs.Choice.{if_both}
use Rattle.model.specs.Refusals.{◌when◌, first, NoRule}
use Rattle.model.proofs.Refusals.{rising_positive, none_first}
use Rattle.model.specs.Unit.{Machine, unit, possible, units}
use Rattle.model.specs.Calls.{unfit, publish, restart, ask_room, run, run_frame, run_refusal, run_units, ran_answer, restarted, with_write}
use Rattle.model.specs.Course.{Call, publishing, running, asking, restarting, Lent, Configuration, one_unit, with_state, course_units, course_call, course}
use Rattle.model.specs.Perform.{answer_of, perform, performs, Accepted}
use Rattle.laws.specs.Modular.{accepted_in}
use Rattle.laws.specs.Units.{units_zero, units_stop, units_step, units_shift}
use Rattle.laws.specs.WellFormed.{WellFormed, wellformed_run, run_wellformed}
use Rattle.demands.specs.Table.{rules_of}
use Rattle.demands.proofs.Table.{call_first, call_rises}
use Rattle.demands.specs.Courses.{configuration, machine_in, Did, refuses, asks, publishes, runs, restarts}

-- ---- units

pub course_units_lem : (ring : List ℕ) (n : ℕ) (y : Configuration)
    → course_units ring n y ≡ configuration y.state.write (units ring y.state.write n y.sum (machine_in y))
unfolding course_units
course_units_lem ring zero y = rw (units_zero ring y.state.write y.sum (machine_in y))
course_units_lem ring (suc n) y = go (possible ring y.state.core w) refl (course_units_lem ring n (one_unit ring y))
  where
    w : ℕ
    w = y.state.write

    m : Machine
    m = machine_in y

    go : (b : Bool) → possible ring y.state.core w ≡ b
        → course_units ring n (one_unit ring y) ≡ configuration w (units ring w n (y.sum + 1) (unit ring m))
        → (if b then course_units ring n (one_unit ring y) else y) ≡ configuration w (units ring w (suc n) y.sum m)
    go true e i = i ∙ ap (configuration w) (sym (units_step ring w n y.sum m e))
    go false e i = ap (configuration w) (sym (units_stop ring w (suc n) y.sum m e))

-- ---- a call is refused, or does what the plain course says

-- what an accepted call does
abbrev effect : List ℕ → Call → Configuration → Configuration
effect ring (publishing p) y = with_state y (with_write y.state p)
effect ring (running budget) y = course_units ring budget y
effect ring asking y = y
effect ring restarting y = with_state y (restarted y.state)

perform_is : (ring : List ℕ) (call : Call) (y : Configuration)
    → perform (record { ring = ring; call = call }) y ≡ (if first (rules_of ring call y) =? 0 then effect ring call y else y)
unfolding publish ask_room restart run run_refusal run_frame run_units ran_answer
perform_is ring call y = go call (first (rules_of ring call y) =? 0) refl
  where
    go : (call : Call) (b : Bool) → first (rules_of ring call y) =? 0 ≡ b
        → perform (record { ring = ring; call = call }) y ≡ (if b then effect ring call y else y)
    go (publishing p) true e = rw (e, add-zero)
    go (publishing p) false e = rw (e, add-zero)
    go (running budget) false e = rw (e, add-zero)
    go (running budget) true e =
        let w = y.state.write in
        rw e
        (ap (configuration w) (sym (units_shift ring w budget y.sum 0 (machine_in y)))
        ∙ ap (λ (k : ℕ). configuration w (units ring w budget k (machine_in y))) (add-zero y.sum)
        ∙ sym (course_units_lem ring budget y))
    go asking true e = rw (e, add-zero)
    go asking false e = rw (e, add-zero)
    go restarting true e = rw (e, add-zero)
    go restarting false e = rw (e, add-zero)

-- the plain course's tests are that no rule applies
publish_test : (u a b : Bool) → not u && a && b ≡ first (3 when u ∷ 5 when not a ∷ 6 when not b ∷ []) =? 0
unfolding first
publish_test true a b = refl
publish_test false false b = refl
publish_test false true false = refl
publish_test false true true = refl

run_test : (u a b : Bool) → not u && a && b ≡ first (3 when u ∷ 4 when (not a || not b) ∷ []) =? 0
unfolding first
run_test true a b = refl
run_test false false b = refl
run_test false true false = refl
run_test false true true = refl

restart_test : (u a : Bool) → not u && not a ≡ first (3 when u ∷ 7 when a ∷ []) =? 0
unfolding first
restart_test true a = refl
restart_test false true = refl
restart_test false false = refl

course_is : (ring : List ℕ) (call : Call) (y : Configuration)
    → course_call ring call y ≡ (if first (rules_of ring call y) =? 0 then effect ring call y else y)
unfolding course_call
course_is ring call y = go call
  where
    by_test : {a b : Bool} (call : Call) → a ≡ b → (if a then effect ring call y else y) ≡ (if b then effect ring call y else y)
    by_test call e = ap (λ (b : Bool). if b then effect ring call y else y) e

    go : (call : Call) → course_call ring call y ≡ (if first (rules_of ring call y) =? 0 then effect ring call y else y)
    go (publishing p) = by_test (publishing p) (publish_test (unfit y.state) _ _)
    go (running budget) = by_test (running budget) (run_test (unfit y.state) _ _)
    go asking = if_both (λ (z : Configuration). y ≡ z) (first (rules_of ring asking y) =? 0) refl refl
    go restarting = by_test restarting (restart_test (unfit y.state) _)

pub perform_course : (ring : List ℕ) (y : Configuration) (call : Call)
    → perform (record { ring = ring; call = call }) y ≡ course_call ring call y
perform_course ring y call = perform_is ring call y ∙ sym (course_is ring call y)

pub performs_course : (calls : List Lent) (y : Configuration) → performs calls y ≡ course calls y
performs_course [] y = refl
performs_course (x ∷ xs) y =
    performs_course xs (perform x y) ∙ ap (course xs) (perform_course x.ring y x.call)

-- ---- what a call did, by cases

-- of an accepted call no rule applies, row 3 the first of them
pub accepted_rules : (ring : List ℕ) (call : Call) (y : Configuration) → Accepted (answer_of ring call y) → NoRule (rules_of ring call y)
accepted_rules ring call y a =
    none_first (rules_of ring call y) (rising_positive 0 (rules_of ring call y) (call_rises ring call y)) (sym (call_first ring call y) ∙ a)

pub did : (ring : List ℕ) (call : Call) (y : Configuration) → Did ring y call (perform (record { ring = ring; call = call }) y)
did ring call y = subst (Did ring y call) (sym (perform_is ring call y)) (go call (first (rules_of ring call y) =? 0) refl)
  where
    taken : (call : Call) → first (rules_of ring call y) =? 0 ≡ true → Accepted (answer_of ring call y)
    taken call e = call_first ring call y ∙ eqb-true _ _ e

    go : (call : Call) (b : Bool) → first (rules_of ring call y) =? 0 ≡ b → Did ring y call (if b then effect ring call y else y)
    go call false e = refuses (λ a. eqb-false _ _ e (sym (call_first ring call y) ∙ a))
    go (publishing p) true e =
        let a = taken (publishing p) e in
        let h = accepted_in _ _ _ _ (accepted_rules ring (publishing p) y a).1 in
        publishes a h.0 h.1
    go (running budget) true e =
        rw (course_units_lem ring budget y)
        (runs (taken (running budget) e) (wellformed_run ring y.state y.frame (unfold run_refusal in eqb-true _ _ e)))
    go asking true e = asks
    go restarting true e =
        let a = taken restarting e in restarts a (eqb-false _ _ (accepted_rules ring restarting y a).1.0)

-- a refused call changes nothing, and reports no unit
pub refused_keeps : (ring : List ℕ) (call : Call) (y : Configuration) → (Accepted (answer_of ring call y) → ⊥)
    → perform (record { ring = ring; call = call }) y ≡ y
refused_keeps ring call y n =
    perform_is ring call y ∙ rw (ne_eqb (first (rules_of ring call y)) 0 (λ e. n (call_first ring call y ∙ e)))

-- a run of a well-formed machine is its units
pub run_units_lem : (ring : List ℕ) (y : Configuration) (budget : ℕ) → WellFormed ring y.state.write (machine_in y)
    → perform (record { ring = ring; call = running budget }) y
    ≡ configuration y.state.write (units ring y.state.write budget y.sum (machine_in y))
unfolding run_refusal
run_units_lem ring y budget h =
    perform_is ring (running budget) y
    ∙ rw (eq-eqb _ _ (run_wellformed ring y.state y.frame h)) (course_units_lem ring budget y)

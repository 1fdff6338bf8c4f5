-- Where the engine rests, and what runs one after the other come to.
use Rattle.std.specs.Prelude.{ℕ, ◌≡◌, refl, Bool, true, false, List, [], ◌∷◌}
use Rattle.std.proofs.Common.{sym, ap, ◌∙◌, inl, inr, ⊎_elim, arith}
use Rattle.std.proofs.lemmas.Bool.{eqb-false}
use Rattle.model.specs.Choice.{◌=?◌}
use Rattle.model.specs.Unit.{possible, units}
use Rattle.model.specs.Calls.{run_word}
use Rattle.model.specs.Course.{Configuration}
use Rattle.model.specs.Perform.{runs, total, Rests}
use Rattle.model.specs.declared.State.{State}
use Rattle.model.specs.declared.RunWord.TheVariants.{Spent}
use Rattle.laws.specs.Units.{possible_running, units_zero, units_add}
use Rattle.laws.specs.WellFormed.{WellFormed, wellformed_units}
use Rattle.demands.specs.Courses.{configuration, machine_in}
use Rattle.demands.proofs.Courses.{run_units_lem}

-- the engine rests exactly where no unit can be done
pub rests_impossible : (ring : List ℕ) (y : Configuration) → Rests ring y → possible ring y.state.core y.state.write ≡ false
unfolding run_word
rests_impossible ring y h = go (y.state.core.stop =? 0) (possible ring y.state.core y.state.write) refl refl h
  where
    s : State
    s = y.state

    go : (a b : Bool) → s.core.stop =? 0 ≡ a → possible ring s.core s.write ≡ b → Rests ring y
        → possible ring s.core s.write ≡ false
    go a false ea eb h = eb
    go false true ea eb h = absurd (eqb-false _ _ ea (possible_running ring s.core s.write eb))
    go true true ea eb h =
        let w : run_word ring s ≡ Spent = rw (ea, eb) in
        ⊎_elim
        (λ q. let z : ◌≡◌ {A = ℕ} 0 1 = cc in absurd (omega arith))
        (λ q. let z : ◌≡◌ {A = ℕ} 0 1 = cc in absurd (omega arith))
        h

pub impossible_rests : (ring : List ℕ) (y : Configuration) → possible ring y.state.core y.state.write ≡ false → Rests ring y
unfolding run_word
impossible_rests ring y e = go (y.state.core.stop =? 0) refl
  where
    go : (a : Bool) → y.state.core.stop =? 0 ≡ a → Rests ring y
    go false p = inr (rw p)
    go true p = inl (rw (p, e))

-- several runs are as many units as their budgets allow together
pub runs_total : (ring : List ℕ) (budgets : List ℕ) (y : Configuration) → WellFormed ring y.state.write (machine_in y)
    → runs ring budgets y
    ≡ configuration y.state.write (units ring y.state.write (total budgets) y.sum (machine_in y))
runs_total ring [] y h = rw (units_zero ring y.state.write y.sum (machine_in y))
runs_total ring (b ∷ bs) y h =
    let w = y.state.write in
    let m = machine_in y in
    let d = units ring w b y.sum m in
    ap (runs ring bs) (run_units_lem ring y b h)
    ∙ runs_total ring bs (configuration w d) (wellformed_units ring w b y.sum m h)
    ∙ ap (configuration w) (sym (units_add ring w b (total bs) y.sum m))

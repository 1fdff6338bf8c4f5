-- What a unit is, and units one after the other: none, one more, sums of budgets.
use Prim.Native.Nat.{ℕ, zero, suc, ◌+◌}
use Rattle.std.specs.Prelude.{◌≡◌, Bool, List}
use Rattle.std.proofs.Math.Path.{refl}
use Rattle.std.proofs.Common.{sym, ap, ◌∙◌, arith, zero-add, suc-add}
use Rattle.std.proofs.Math.Bool.{true, false}
use borrow.Author.Tests.{eqb-true, eq-eqb}
use Rattle.model.specs.Choice.{◌=?◌}
use Rattle.model.proofs.Choice.{not_both, both}
use Rattle.model.specs.Host.{host_word, draw_host}
use Rattle.model.specs.Unit.{Machine, Done, command_refusal, stopped, accepted_core, table_after, drawn_core, draw_pixel, fed_word, fed_core, unit_at, unit, drawing, ready, done, possible, units}
use Rattle.model.specs.Steps.{machine, Step, loads, takes, refuses, draws, feeds}
use Rattle.model.proofs.Steps.{step_of}
use Rattle.model.specs.declared.Core.{Core}
use Rattle.model.specs.declared.Feed.{Feed}
use Rattle.model.specs.declared.Place.{Place}
use Rattle.model.specs.declared.Place.TheVariants.{Drawing, Fed}
use Rattle.model.specs.declared.Primitive.{Primitive}

-- ---- what a unit is, by what the engine does

pub unit_draws : (ring : List ℕ) (m : Machine) (primitive : Primitive) (k : ℕ) → m.core.place ≡ Drawing primitive k
    → unit ring m
    ≡ machine (drawn_core m.core primitive (k + 1)) m.table (draw_pixel primitive m.core.registers m.table k m.frame)
unfolding unit unit_at
unit_draws ring m primitive k p = ap (λ (q : Place). unit_at ring q m) p

pub unit_feeds : (ring : List ℕ) (m : Machine) (k : ℕ) (feed : Feed) → m.core.place ≡ Fed k feed
    → unit ring m
    ≡ machine (fed_core m.core (k + 1) feed) m.table
    (draw_host m.core.registers m.table k (fed_word ring m.core feed (host_word m.core.registers k)) m.frame)
unfolding unit unit_at
unit_feeds ring m k feed p = ap (λ (q : Place). unit_at ring q m) p

-- where nothing is being drawn
module _ (ring : List ℕ) (m : Machine) (idle : drawing m.core.place ≡ false) where
  pub unit_accepts : command_refusal ring m.core ≡ 0
      → unit ring m ≡ machine (accepted_core ring m.core) (table_after ring m.core m.table) m.frame
  unit_accepts e = go (step_of ring m)
    where
      go : Step ring m → unit ring m ≡ machine (accepted_core ring m.core) (table_after ring m.core m.table) m.frame
      go (loads p f d u) = rw d u
      go (takes p f d u) = rw d u
      go (refuses p n u) = absurd (n e)
      go (draws primitive k p u) = absurd (not_both _ (ap drawing p) idle)
      go (feeds k feed p u) = absurd (not_both _ (ap drawing p) idle)

  pub unit_refuses : (command_refusal ring m.core ≡ 0 → ⊥)
      → unit ring m ≡ machine (stopped m.core (command_refusal ring m.core)) m.table m.frame
  unit_refuses n = go (step_of ring m)
    where
      go : Step ring m → unit ring m ≡ machine (stopped m.core (command_refusal ring m.core)) m.table m.frame
      go (loads p e d u) = absurd (n e)
      go (takes p e d u) = absurd (n e)
      go (refuses p f u) = u
      go (draws primitive k p u) = absurd (not_both _ (ap drawing p) idle)
      go (feeds k feed p u) = absurd (not_both _ (ap drawing p) idle)

-- ---- whether a unit can be done

module _ (ring : List ℕ) (c : Core) (w : ℕ) where
  -- a pixel can always be drawn
  pub drawing_possible : c.stop ≡ 0 → drawing c.place ≡ true → possible ring c w ≡ true
  unfolding possible
  drawing_possible z p = rw (eq-eqb _ _ z, p)

  -- where nothing is being drawn one can be done where a command is ready
  pub idle_possible : c.stop ≡ 0 → drawing c.place ≡ false → possible ring c w ≡ ready ring c w
  unfolding possible
  idle_possible z p = rw (eq-eqb _ _ z, p)

  pub possible_running : possible ring c w ≡ true → c.stop ≡ 0
  unfolding possible
  possible_running e = eqb-true _ _ (both (c.stop =? 0) _ e).0

  pub possible_ready : drawing c.place ≡ false → possible ring c w ≡ true → ready ring c w ≡ true
  possible_ready p e = sym (idle_possible (possible_running e) p) ∙ e

-- ---- several units

module _ (ring : List ℕ) (w : ℕ) where
  pub units_zero : (used : ℕ) (m : Machine) → units ring w 0 used m ≡ done m used
  unfolding units
  units_zero used m = refl

  -- where no unit can be done, none is
  pub units_stop : (n used : ℕ) (m : Machine) → possible ring m.core w ≡ false → units ring w n used m ≡ done m used
  unfolding units
  units_stop zero used m h = refl
  units_stop (suc n) used m h = rw h

  pub units_step : (n used : ℕ) (m : Machine) → possible ring m.core w ≡ true
      → units ring w (suc n) used m ≡ units ring w n (used + 1) (unit ring m)
  unfolding units
  units_step n used m h = rw h

  -- What holds where the budget is used up, where no unit can be done, and with one unit more, holds of every budget
  pub units_each : (P : ℕ → ℕ → Machine → Done → Type 0)
      → ((used : ℕ) (m : Machine) → P 0 used m (done m used))
      → ((n used : ℕ) (m : Machine) → possible ring m.core w ≡ false → P n used m (done m used))
      → ((n used : ℕ) (m : Machine) (d : Done) → possible ring m.core w ≡ true → P n (used + 1) (unit ring m) d → P (suc n) used m d)
      → (n used : ℕ) (m : Machine) → P n used m (units ring w n used m)
  unfolding units
  units_each P spent rests more zero used m = spent used m
  units_each P spent rests more (suc n) used m =
      go (possible ring m.core w) refl (units_each P spent rests more n (used + 1) (unit ring m))
    where
      go : (b : Bool) → possible ring m.core w ≡ b → P n (used + 1) (unit ring m) (units ring w n (used + 1) (unit ring m))
          → P (suc n) used m (units ring w (suc n) used m)
      go true e i = rw e (more n used m _ e i)
      go false e i = rw e (rests (suc n) used m e)

  -- b more after a
  pub units_add : (a b used : ℕ) (m : Machine)
      → units ring w (a + b) used m ≡ units ring w b (units ring w a used m).used (units ring w a used m).machine
  units_add a b =
      units_each (λ n used m d. units ring w (n + b) used m ≡ units ring w b d.used d.machine)
      (λ used m. rw zero-add)
      (λ n used m e. units_stop (n + b) used m e ∙ sym (units_stop b used m e))
      (λ n used m d e i. rw suc-add (units_step (n + b) used m e ∙ i)) a

  -- counting on from another number
  pub units_shift : (n more used : ℕ) (m : Machine)
      → units ring w n (more + used) m ≡ done (units ring w n used m).machine (more + (units ring w n used m).used)
  units_shift n more =
      units_each (λ n used m d. units ring w n (more + used) m ≡ done d.machine (more + d.used))
      (λ used m. units_zero (more + used) m)
      (λ n used m e. units_stop n (more + used) m e)
      (λ n used m d e i.
      let s : more + used + 1 ≡ more + (used + 1) = omega arith in
      units_step n (more + used) m e ∙ ap (λ (k : ℕ). units ring w n k (unit ring m)) s ∙ i) n

-- A machine that a run may be handed: its state is fit, and ring and frame memory have its lengths. Units keep it so.
use Rattle.std.specs.Prelude.{ℕ, ◌≡◌, true, not, List, length, Option, Some, None}
use Rattle.std.proofs.Math.Path.{refl}
use Rattle.std.proofs.Common.{sym, ◌∙◌}
use borrow.Author.Tests.{eqb-true, eq-eqb, not-false}
use Rattle.model.specs.Choice.{◌=?◌}
use Rattle.model.proofs.Choice.{neither}
use Rattle.model.specs.Refusals.{positive}
use Rattle.model.proofs.Refusals.{exactly, none_first}
use Rattle.model.specs.Operands.{draw_operands}
use Rattle.model.specs.BltPixel.{draw_at, draw_from, draw_blt, draw_tiled}
use Rattle.model.specs.Host.{draw_host}
use Rattle.model.specs.VectorPixel.{draw_vector}
use Rattle.model.specs.Unit.{Machine, stopped, loaded_core, taken_core, drawn_core, draw_pixel, fed_core, unit, possible, units}
use Rattle.model.specs.Steps.{Step, loads, takes, refuses, draws, feeds}
use Rattle.model.proofs.Steps.{step_of}
use Rattle.model.specs.Calls.{run_rules, run_refusal, machine_of}
use Rattle.model.specs.declared.State.{State}
use Rattle.model.specs.declared.Operands.{Operands}
use Rattle.model.specs.declared.Primitive.{Primitive}
use Rattle.model.specs.declared.Primitive.TheVariants.{Blt, Vector}
use Rattle.laws.specs.Pixels.{length_store}
use Rattle.laws.specs.Units.{units_each}
use Rattle.laws.specs.Fit.{Fit, fit_unit, fit_parts, parts_fit}

pub record WellFormed (ring : List ℕ) (w : ℕ) (m : Machine) : Type 0 where
  pub fit : Fit m.core w
  pub ring_is : length ring ≡ m.core.ringlength
  pub frame_is : length m.frame ≡ m.core.framelength

-- ---- a run is accepted exactly where the machine is well-formed

module _ (ring : List ℕ) (s : State) (frame : List ℕ) where
  pub wellformed_run : run_refusal ring s frame ≡ 0 → WellFormed ring s.write (machine_of s frame)
  unfolding run_refusal positive
  wellformed_run e =
      let h = none_first (run_rules s (length ring) (length frame)) refl e in
      let same = neither (not (length ring =? s.core.ringlength)) _ h.1.0 in
      record {
        fit = fit_parts s h.0;
        ring_is = eqb-true _ _ (not-false _ same.0);
        frame_is = eqb-true _ _ (not-false _ same.1);
      }

  pub run_wellformed : WellFormed ring s.write (machine_of s frame) → run_refusal ring s frame ≡ 0
  unfolding run_refusal positive
  run_wellformed h =
      (exactly (run_rules s (length ring) (length frame)) refl).not_given.1
      (parts_fit s h.fit, (rw (eq-eqb (length ring) s.core.ringlength h.ring_is, eq-eqb (length frame) s.core.framelength h.frame_is), tt))

-- ---- what a unit keeps

length_operands : (depth code at : ℕ) (operands : Option Operands) (frame : List ℕ) → length (draw_operands depth code at operands frame) ≡ length frame
unfolding draw_operands
length_operands depth code at None frame = refl
length_operands depth code at (Some o) frame = length_store depth frame at _

pub length_pixel : (primitive : Primitive) (registers table : List ℕ) (k : ℕ) (frame : List ℕ)
    → length (draw_pixel primitive registers table k frame) ≡ length frame
unfolding draw_pixel draw_tiled draw_blt draw_at draw_vector
length_pixel Blt registers table k frame = length_operands _ _ _ _ frame
length_pixel Vector registers table k frame = length_operands _ _ _ _ frame

pub length_host : (registers table : List ℕ) (k word : ℕ) (frame : List ℕ) → length (draw_host registers table k word frame) ≡ length frame
unfolding draw_host draw_from
length_host registers table k word frame = length_operands _ _ _ _ frame

-- the lengths in the state, and frame memory's own
pub record Kept (m n : Machine) : Type 0 where
  pub ringlength_kept : n.core.ringlength ≡ m.core.ringlength
  pub framelength_kept : n.core.framelength ≡ m.core.framelength
  pub frame_kept : length n.frame ≡ length m.frame

pub unit_keeps : (ring : List ℕ) (m : Machine) → Kept m (unit ring m)
unfolding stopped loaded_core taken_core drawn_core fed_core
unit_keeps ring m = go (step_of ring m)
  where
    go : Step ring m → Kept m (unit ring m)
    go (loads p e d u) = rw u (record { ringlength_kept = refl; framelength_kept = refl; frame_kept = refl })
    go (takes p e d u) = rw u (record { ringlength_kept = refl; framelength_kept = refl; frame_kept = refl })
    go (refuses p n u) = rw u (record { ringlength_kept = refl; framelength_kept = refl; frame_kept = refl })
    go (draws primitive k p u) =
        rw u
        (record { ringlength_kept = refl; framelength_kept = refl; frame_kept = length_pixel primitive m.core.registers m.table k m.frame })
    go (feeds k feed p u) =
        rw u
        (record { ringlength_kept = refl; framelength_kept = refl; frame_kept = length_host m.core.registers m.table k _ m.frame })

module _ (ring : List ℕ) (w : ℕ) where
  pub wellformed_unit : (m : Machine) → WellFormed ring w m → possible ring m.core w ≡ true → WellFormed ring w (unit ring m)
  wellformed_unit m h e =
      let k = unit_keeps ring m in
      record {
        fit = fit_unit ring m w h.fit e;
        ring_is = h.ring_is ∙ sym k.ringlength_kept;
        frame_is = k.frame_kept ∙ h.frame_is ∙ sym k.framelength_kept;
      }

  pub wellformed_units : (n used : ℕ) (m : Machine) → WellFormed ring w m → WellFormed ring w (units ring w n used m).machine
  wellformed_units =
      units_each ring w (λ n used m d. WellFormed ring w m → WellFormed ring w d.machine)
      (λ used m h. h) (λ n used m e h. h) (λ n used m d e i h. i (wellformed_unit m h e))

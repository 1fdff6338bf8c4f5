-- A run's answer and frame memory, refused or from the end of its units.
use Prim.Native.Nat.{ℕ}
use mathlib.Core.Path.{◌≡◌, refl, sym, ◌∙◌}
use mathlib.Core.List.{List}
use lib.ListN.{length}
use borrow.Author.Tests.{eq-eqb, ne_eqb}
use Rattle.model.specs.Refusals.{first}
use Rattle.model.specs.Ring.{room}
use Rattle.model.specs.Steps.{machine}
use Rattle.model.specs.Calls.{run_rules, refused, run_refusal, run_units, run_word, ran_answer, run, run_frame, machine_of}
use Rattle.model.specs.declared.Core.{Core}
use Rattle.model.specs.declared.State.{State}
use Rattle.model.specs.declared.Reply.TheVariants.{Ran}
use Rattle.laws.specs.WellFormed.{WellFormed, wellformed_run}
use Rattle.units.specs.Turns.{Finished, word_of}

module _ (ring : List ℕ) (s : State) (frame : List ℕ) (budget : ℕ) {n : ℕ} (number : n ≡ first (run_rules s (length ring) (length frame))) where
  refusal : run_refusal ring s frame ≡ n
  unfolding run_refusal
  refusal = sym number

  pub run_refused : (n ≡ 0 → ⊥) → (refused s n ≡ run ring s frame budget) × (frame ≡ run_frame ring s frame budget)
  unfolding run run_frame
  run_refused z = rw (refusal, ne_eqb n 0 z) (refl, refl)

  module _ (accepted : n ≡ 0) where
    pub run_wellformed : WellFormed ring s.write (machine_of s frame)
    run_wellformed = wellformed_run ring s frame (refusal ∙ accepted)

    pub run_finished : {d : Core} {table after : List ℕ} {used : ℕ}
        → Finished ring s.write (machine_of s frame) (machine d table after) budget used
        → (record { state = record { core = d; table = table; write = s.write }; reply = Ran (word_of ring d s.write) used (room d.ringlength d.read s.write) }
        ≡ run ring s frame budget)
        × (after ≡ run_frame ring s frame budget)
    unfolding run run_frame ran_answer run_units run_word
    run_finished f = rw (eq-eqb _ _ (refusal ∙ accepted), f.same) (refl, refl)

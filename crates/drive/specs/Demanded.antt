-- Demand 3 of what a list of calls comes to.
use Rattle.std.specs.Prelude.{ℕ, ◌≡◌, List}
use Rattle.std.proofs.Common.{sym, ◌∙◌}
use Rattle.model.specs.Calls.{publish}
use Rattle.model.specs.Course.{Call, Configuration, course}
use Rattle.model.specs.Perform.{performs, lent, start, Accepted, Fixed}
use Rattle.model.specs.declared.State.{State}
use Rattle.demands.proofs.Courses.{performs_course}
use Rattle.demands.specs.Demand3.{Along, Arrived, Demand3}
use Rattle.demands.proofs.Demand3.{demand3}

-- y is what these calls come to, all lent one ring
pub record Demanded (ring : List ℕ) (s : State) (frame : List ℕ) (calls : List Call) (y : Configuration) : Type 0 where
  -- (a) "the state, frame memory and sum of reported units are what document 01's plain course gives", whatever the calls
  pub is_course : y ≡ course (lent ring calls) (start s frame)
  -- (b) and (c), as `Arrived` has them, under the demand's hypotheses: for every final position that publishing accepts and
  -- along whose run of words the calls go
  pub arrives : (final : ℕ) → Fixed ring s frame → Accepted (publish s final) → Along ring s final calls (start s frame)
      → Arrived ring s frame final y

-- what performing the calls comes to is so: (a) is `performs_course`, (b) and (c) are demand 3
pub demanded : (ring : List ℕ) (s : State) (frame : List ℕ) (calls : List Call) (y : Configuration)
    → performs (lent ring calls) (start s frame) ≡ y → Demanded ring s frame calls y
unfolding Demand3
demanded ring s frame calls y e = record {
  is_course = sym e ∙ performs_course (lent ring calls) (start s frame);
  arrives = λ final fixed accepted along. rw e at (demand3 ring s frame final calls fixed accepted along).1;
}

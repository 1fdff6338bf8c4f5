-- What is proved of specs/Lasting.
use Rattle.std.specs.Prelude.{ℕ, ◌≡◌, false, List, [], ◌∷◌}
use Rattle.std.proofs.Common.{sym, ◌∙◌}
use Rattle.model.specs.Calls.{unfit}
use Rattle.model.specs.Course.{Call, Configuration}
use Rattle.model.specs.Perform.{perform}
use Rattle.laws.specs.Fit.{fit_parts, parts_fit}
use Rattle.laws.specs.WellFormed.{wellformed_units}
use Rattle.demands.specs.Courses.{Did, refuses, asks, publishes, runs, restarts, machine_in}
use Rattle.demands.proofs.Courses.{did}
use Rattle.demands.proofs.Demand1.{call_fit}
use Rattle.demands.specs.Lasting.{Lasts, Lasting}

-- ---- the proof

call_lasts : (ring now : List ℕ) (y : Configuration) {call : Call} {z : Configuration} → Did now y call z → unfit z.state ≡ false
    → Lasts ring y → Lasts ring z
call_lasts ring now y (refuses n) f h = h
call_lasts ring now y asks f h = h
call_lasts ring now y (publishes a l r) f h = record { state_fit = f; ring_is = h.ring_is; frame_is = h.frame_is }
call_lasts ring now y (runs {budget} a w) f h =
    let t = wellformed_units now y.state.write budget y.sum (machine_in y) w in
    record { state_fit = f; ring_is = h.ring_is ∙ sym w.ring_is ∙ t.ring_is; frame_is = t.frame_is }
call_lasts ring now y (restarts a n) f h = record { state_fit = f; ring_is = h.ring_is; frame_is = h.frame_is }

pub lasting : Lasting
lasting ring y [] h = h
lasting ring y (x ∷ xs) h =
    let d = did x.ring x.call y in
    let f = parts_fit (perform x y).state (call_fit x.ring y d (fit_parts y.state h.state_fit)) in
    lasting ring (perform x y) xs (call_lasts ring x.ring y d f h)

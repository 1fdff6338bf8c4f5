-- What is proved of specs/Demand3.
use Rattle.std.specs.Prelude.{ℕ, ◌+◌, ◌-◌, ◌≤◌, ◌<◌, ◌≡◌, refl, Bool, true, false, List, [], ◌∷◌, length, leb}
use Rattle.std.proofs.Common.{sym, ap, subst, ◌∙◌, arith, leb-true, leb-false}
use Rattle.model.specs.Ring.{waiting}
use Rattle.model.proofs.Ring.{empty}
use Rattle.model.specs.Unit.{Machine, Done, done, possible, units}
use Rattle.model.specs.Calls.{publish, with_write, machine_of}
use Rattle.model.specs.Course.{Call, publishing, running, asking, restarting, Lent, Configuration}
use Rattle.model.specs.Perform.{perform, performs, lent, runs, total, start, Accepted, Fixed, Rests}
use Rattle.model.specs.declared.State.{State}
use Rattle.laws.specs.Units.{units_zero, units_stop, units_add}
use Rattle.laws.specs.Fit.{fit_parts, parts_fit, fit_later}
use Rattle.laws.specs.WellFormed.{WellFormed, wellformed_units}
use Rattle.demands.specs.Courses.{configuration, machine_in, Did}
use Rattle.demands.proofs.Courses.{performs_course, did}
use Rattle.demands.proofs.Runs.{rests_impossible, impossible_rests, runs_total}
use Rattle.demands.specs.Arrival.{OnRun}
use Rattle.demands.proofs.Arrival.{on_here, on_back, units_taken}
use Rattle.demands.specs.Progress.{enough_runs}
use Rattle.demands.proofs.Progress.{progress}
use Rattle.demands.specs.Demand3.{Allowed, Along, Words, AlongFed, at_once, Arrived, Demand3, Demand3Fed}

-- ---- the calls of a list, one after the other

module _ (all : List ℕ) (s : State) (frame : List ℕ) (final : ℕ) where
  -- after a prefix of the calls: on the run, and as many units as with the final pointer in
  record Reached (y : Configuration) : Type 0 where
    on : OnRun s.core.ringlength s.core.read final y.state.write y.state.core
    plain : units all final y.sum 0 (machine_of s frame) ≡ done (machine_in y) y.sum

  module _ (all-is : length all ≡ s.core.ringlength) where
    call_reached : (ring : List ℕ) (y : Configuration) {call : Call} {z : Configuration} → Did ring y call z → Reached y
        → Allowed s final call y → Words all s ring call y → Reached z
    call_reached ring y (Did.refuses n) h allowed words = h
    call_reached ring y Did.asks h allowed words = h
    call_reached ring y (Did.publishes {p} a l r) h allowed words = record {
      on = record {
        size_is = h.on.size_is;
        origin_in = h.on.origin_in;
        final_in = h.on.final_in;
        past = omega (arith, h.on.past, (allowed a).0);
        ahead = (allowed a).1;
        fit = fit_later y.state.core y.state.write p l r h.on.fit;
      };
      plain = h.plain;
    }
    call_reached ring y (Did.runs {budget} a f) h allowed words =
        let n = s.core.ringlength in
        let t = units_taken n y.state.core.read final y.state.write ring all (f.ring_is ∙ h.on.size_is) all-is (words a)
        budget y.sum (machine_in y) (on_here h.on) in
        record {
          on = on_back h.on _ t.stays;
          plain =
              ap (λ (k : ℕ). units all final k 0 (machine_of s frame)) t.used_is
              ∙ units_add all final y.sum t.count 0 (machine_of s frame)
              ∙ ap (λ (x : Done). units all final t.count x.used x.machine) h.plain
              ∙ t.same;
        }
    call_reached ring y (Did.restarts a n) h allowed words = absurd (allowed a)

    calls_reached : (calls : List Lent) (y : Configuration) → Reached y → AlongFed all s final calls y → Reached (performs calls y)
    calls_reached [] y h a = h
    calls_reached (x ∷ xs) y h a =
        calls_reached xs (perform x y) (call_reached x.ring y (did x.ring x.call y) h a.0 a.1) a.2

-- ---- the theorem

module _ (all : List ℕ) (s : State) (frame : List ℕ) (final : ℕ) (fixed : Fixed all s frame) (accepted : Accepted (publish s final)) where
  abbrev m : Machine
  m = machine_of s frame

  -- publishing the final position
  published : (perform (record { ring = all; call = publishing final }) (start s frame) ≡ start (with_write s final) frame)
      × (final < s.core.ringlength)
      × (waiting s.core.ringlength s.core.read s.write ≤ waiting s.core.ringlength s.core.read final)
  published = go (did all (publishing final) (start s frame))
    where
      go : {z : Configuration} → Did all (start s frame) (publishing final) z
          → (z ≡ start (with_write s final) frame)
          × (final < s.core.ringlength)
          × (waiting s.core.ringlength s.core.read s.write ≤ waiting s.core.ringlength s.core.read final)
      go (Did.refuses n) = absurd (n accepted)
      go (Did.publishes a l r) = (refl, l, r)

  -- the start is on the run: no words wait between the read pointer and itself
  reached_start : Reached all s frame final (start s frame)
  unfolding waiting
  reached_start =
      let f = fit_parts s fixed.state_fit in
      record {
        on = record {
          size_is = refl;
          origin_in = f.read_in;
          final_in = published.1;
          past = omega (arith, empty s.core.ringlength s.core.read);
          ahead = published.2;
          fit = f;
        };
        plain = units_zero all final 0 m;
      }

  -- the configuration once the final position is published
  wellformed_final : WellFormed all final m
  wellformed_final = record {
    fit = fit_later s.core s.write final published.1 published.2 (fit_parts s fixed.state_fit);
    ring_is = fixed.ring_is;
    frame_is = fixed.frame_is;
  }

  at_once_lem : (budgets : List ℕ) → at_once all s frame final budgets ≡ configuration final (units all final (total budgets) 0 m)
  at_once_lem budgets =
      ap (runs all budgets) published.0
      ∙ runs_total all budgets (start (with_write s final) frame) wellformed_final

  -- two numbers of units at whose end nothing more can be done have the same end
  same_rest : (a b : ℕ) (k : Machine) → units all final a 0 m ≡ done k a → possible all k.core final ≡ false
      → possible all (units all final b 0 m).machine.core final ≡ false → units all final b 0 m ≡ done k a
  same_rest a b k e r q = go (leb a b) refl
    where
      go : (t : Bool) → leb a b ≡ t → units all final b 0 m ≡ done k a
      go true t =
          let h = leb-true a b t in
          let s : b ≡ a + (b - a) = omega arith in
          ap (λ (x : ℕ). units all final x 0 m) s
          ∙ units_add all final a (b - a) 0 m
          ∙ ap (λ (d : Done). units all final (b - a) d.used d.machine) e
          ∙ units_stop all final (b - a) a k r
      go false t =
          let h = leb-false a b t in
          let s : a ≡ b + (a - b) = omega arith in
          let d = units all final b 0 m in
          sym (units_stop all final (a - b) d.used d.machine q)
          ∙ sym (units_add all final b (a - b) 0 m)
          ∙ ap (λ (x : ℕ). units all final x 0 m) (sym s)
          ∙ e

  -- after publishing at once, enough runs come to rest: by progress
  ends : possible all (units all final (total enough_runs) 0 m).machine.core final ≡ false
  ends =
      let y = start (with_write s final) frame in
      let f : Fixed all y.state y.frame =
      record { state_fit = parts_fit y.state wellformed_final.fit; ring_is = fixed.ring_is; frame_is = fixed.frame_is } in
      subst (λ (x : Configuration). possible all x.state.core x.state.write ≡ false) (runs_total all enough_runs y wellformed_final)
      (progress all y f).by_runs.no_unit

  -- more units than that are none
  no_more : (n : ℕ) → units all final (n + total enough_runs) 0 m ≡ units all final (total enough_runs) 0 m
  no_more n =
      let e : n + total enough_runs ≡ total enough_runs + n = omega arith in
      let d = units all final (total enough_runs) 0 m in
      ap (λ (k : ℕ). units all final k 0 m) e ∙ units_add all final (total enough_runs) n 0 m
      ∙ units_stop all final n d.used d.machine ends

  -- enough runs after the calls
  at_last : (y : Configuration) → Reached all s frame final y → y.state.write ≡ final
      → runs all enough_runs y ≡ at_once all s frame final enough_runs
  at_last y h w =
      let k = machine_in y in
      let wellformed : WellFormed all final k = rw h.plain at (wellformed_units all final y.sum 0 m wellformed_final) in
      runs_total all enough_runs y (rw w wellformed)
      ∙ ap (λ (x : ℕ). configuration x (units all x (total enough_runs) y.sum k)) w
      ∙ ap (λ (d : Done). configuration final (units all final (total enough_runs) d.used d.machine)) (sym h.plain)
      ∙ ap (configuration final) (sym (units_add all final y.sum (total enough_runs) 0 m) ∙ no_more y.sum)
      ∙ sym (at_once_lem enough_runs)

  arrived : (y : Configuration) → Reached all s frame final y → Arrived all s frame final y
  arrived y h = record {
    same_units = rw (ap (λ (z : Configuration). z.state) published.0) h.plain;
    same_end = λ w r budgets q.
        let z : possible all y.state.core final ≡ false = rw w at (rests_impossible all y r) in
        let e = at_once_lem budgets in
        let i = rests_impossible all (configuration final (units all final (total budgets) 0 m)) (rw e at q) in
        e ∙ ap (configuration final) (same_rest y.sum (total budgets) (machine_in y) h.plain z i)
        ∙ ap (λ (x : ℕ). configuration x (done (machine_in y) y.sum)) (sym w);
    at_once_rests =
        subst (Rests all) (sym (at_once_lem enough_runs))
        (impossible_rests all (configuration final (units all final (total enough_runs) 0 m)) ends);
    same_at_last = at_last y h;
  }

pub demand3_fed : Demand3Fed
unfolding Demand3Fed
demand3_fed all s frame final calls fixed accepted along = (
  performs_course calls (start s frame),
  arrived all s frame final fixed accepted (performs calls (start s frame))
      (calls_reached all s frame final fixed.ring_is calls (start s frame) (reached_start all s frame final fixed accepted) along),
)

-- one ring lent at every call agrees with itself
along_fed : (ring : List ℕ) (s : State) (final : ℕ) (calls : List Call) (y : Configuration) → Along ring s final calls y
    → AlongFed ring s final (lent ring calls) y
along_fed ring s final [] y a = tt
along_fed ring s final (x ∷ xs) y a =
    (a.0, words x, along_fed ring s final xs (perform (record { ring = ring; call = x }) y) a.1)
  where
    words : (call : Call) → Words ring s ring call y
    words (publishing p) = tt
    words (running budget) = λ a x l h. refl
    words asking = tt
    words restarting = tt

pub demand3 : Demand3
unfolding Demand3 Demand3Fed
demand3 ring s frame final calls fixed accepted along =
    demand3_fed ring s frame final (lent ring calls) fixed accepted (along_fed ring s final calls (start s frame) along)

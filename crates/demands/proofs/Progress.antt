-- What is proved of specs/Progress.
use Prim.Native.Nat.{ℕ, zero, suc, ◌+◌, ◌-◌, ◌*◌, ◌/◌, ◌%◌, ◌≤◌, ◌<◌}
use Rattle.std.specs.Prelude.{◌≡◌, Bool, true, false, ◌&&◌, ◌||◌, List, replicate, if◌then◌else◌, Some, None}
use Rattle.std.proofs.Math.Path.{refl, ap}
use Rattle.std.proofs.Common.{sym, subst, ⊎_elim, mod-lt, mul-le-mul, div-add-mod', leb-true, leb-false, ltb-false, eqb-true}
use native.Mathlib.Omega.{arith}
use Rattle.model.specs.Choice.{◌<?◌, ◌≤?◌, ◌=?◌}
use Rattle.model.proofs.Choice.{true_or_false, not_both, neither, if_both}
use Rattle.model.specs.Limits.{ring_most, budget_most, side_most, stop_least, stop_most}
use Rattle.model.specs.Registers.{width, height, vector_length}
use Rattle.model.specs.Bits.{set?}
use Rattle.model.specs.Ring.{waiting}
use Rattle.model.proofs.Ring.{distance_lt, empty}
use Rattle.model.specs.Command.{kind_of, is_data, data_length, command_length, drawn_of, drawn_by, bad_return, whole_words, read_after}
use Rattle.model.specs.Host.{host_word, takes_data}
use Rattle.model.specs.BltPixel.{blt_of, rectangle_of}
use Rattle.model.specs.VectorPixel.{vector_of}
use Rattle.model.specs.Unit.{Machine, pixels_drawn, header_at, loaded_at, counted_at, length_at, returns_at, command_refusal, stopped, place_after, loaded_core, taken_core, drawn_core, fed_core, pixel_count, unit, possible, units}
use Rattle.model.specs.Steps.{Step, loads, takes, refuses, draws, feeds}
use Rattle.model.proofs.Steps.{step_of}
use Rattle.model.specs.Course.{Configuration}
use Rattle.model.specs.Perform.{runs, total, Fixed}
use Rattle.model.specs.declared.Core.{Core}
use Rattle.model.specs.declared.State.{State}
use Rattle.model.specs.declared.Feed.{Feed}
use Rattle.model.specs.declared.Kind.{Kind}
use Rattle.model.specs.declared.Kind.TheVariants.{Blt, Vector, Table, Data}
use Rattle.model.specs.declared.Primitive.{Primitive}
use Rattle.model.specs.declared.Primitive.TheVariants.{Blt as BltPrimitive, Vector as VectorPrimitive}
use Rattle.model.specs.declared.Place.{Place}
use Rattle.model.specs.declared.Place.TheVariants.{Idle, Drawing, Wanting, Fed}
use Rattle.laws.specs.Modular.{distance_sum, distance_next}
use Rattle.laws.specs.Units.{possible_running, possible_ready, units_each}
use Rattle.laws.specs.Fit.{Fit, FitFed, fit_parts, drawing_fit, wanting_is, wanting_fit, fed_fit, accepted_header, accepted_return, accepted_wanted, fit_unit}
use Rattle.laws.specs.WellFormed.{WellFormed, wellformed_units}
use Rattle.demands.specs.Courses.{configuration, machine_in}
use Rattle.demands.proofs.Runs.{runs_total}
use Rattle.demands.proofs.Arrival.{advance}
use Rattle.demands.specs.Waits.{Whole, NoCommand, no_word, not_whole, not_judged}
use Rattle.demands.proofs.Waits.{judged_some, judged_within, good_header, own_words, whole_waits, ready_whole, impossible_waits}
use Rattle.demands.specs.Progress.{shared, command_units, word_units, pixels_left, refusal_left, units_left, runs_for, enough_runs, Part, words_missing, end_missing, AtRest, has_stopped, waits, Ended, Progress}

-- ---- what a load takes off

-- at least its own words wait less afterwards
waits_less : (n read w length : ℕ) (return : Bool) → read < n → w < n → bad_return n read length return ≡ false
    → whole_words n read length return ≤ waiting n read w
    → waiting n (read_after n read length return) w + length ≤ waiting n read w
unfolding waiting
waits_less n read w length return h l z e =
    let k = whole_words n read length return in
    let own = own_words n read length return in
    let d = distance_lt n read w h in
    let o = empty n read in
    let t = distance_next n read read k h h (omega arith) in
    let i : (read + k) % n < n = mod-lt (read + k) (omega arith) in
    let s = distance_sum n read ((read + k) % n) w h i l (omega arith) in
    rw (advance n read length return h z) (omega arith)

-- ---- a command has not too many pixels: its width, height and length are fields of 12 bits

abbrev pixels_most : Primitive → ℕ
pixels_most BltPrimitive = side_most * side_most
pixels_most VectorPrimitive = side_most

field_most : (n : ℕ) → n < 4096 → n ≤ side_most
field_most n h = omega arith

pixels_most_lem : (primitive : Primitive) (registers : List ℕ) → pixel_count primitive registers ≤ pixels_most primitive
unfolding pixel_count blt_of rectangle_of vector_of
pixels_most_lem BltPrimitive registers =
    mul-le-mul (field_most (width registers) (mod-lt _ (omega arith))) (field_most (height registers) (mod-lt _ (omega arith)))
pixels_most_lem VectorPrimitive registers = field_most (vector_length registers) (mod-lt _ (omega arith))

-- a unit for its load and its pixels, over its words
drawn_share : (header counted : ℕ) (registers : List ℕ)
    → pixels_left registers (place_after (drawn_by header) registers) + 1 ≤ word_units * command_length (kind_of header) counted
unfolding drawn_by
drawn_share header counted registers = go (kind_of header)
  where
    place : (primitive : Primitive) (b : Bool) → takes_data primitive registers ≡ b
        → pixels_left registers (if b then Wanting 0 else Drawing primitive 0) ≤ pixels_most primitive
    place BltPrimitive true e = omega (arith, pixels_most_lem BltPrimitive registers)
    place VectorPrimitive true e = absurd (not_both false e refl)
    place primitive false e = omega (arith, pixels_most_lem primitive registers)

    drawn : (primitive : Primitive) (b : Bool)
        → pixels_left registers (place_after (if b then Some primitive else None) registers) ≤ pixels_most primitive
    drawn primitive true = place primitive (takes_data primitive registers) refl
    drawn primitive false = omega arith

    go : (kind : Kind) → pixels_left registers (place_after (drawn_of kind header) registers) + 1 ≤ word_units * command_length kind counted
    go Blt = omega (arith, drawn BltPrimitive (set? header 15))
    go Vector = omega (arith, drawn VectorPrimitive (set? header 12))
    go Table = omega arith
    go Data = omega arith

-- ---- each unit leaves fewer

module _ (ring : List ℕ) (w : ℕ) (c : Core) (fit : Fit c w) where
  loads_less : command_refusal ring c ≡ 0 → Whole ring c w → units_left w (loaded_core ring c) < units_left w c
  unfolding units_left loaded_core
  loads_less a e =
      let less = waits_less c.ringlength c.read w (length_at ring c) (returns_at ring c) fit.read_in fit.write_in
      (accepted_return ring c a) ((whole_waits ring c w).0 e) in
      omega (arith, drawn_share (header_at ring c) (counted_at ring c) (loaded_at ring c))

  -- a data command that is accepted: its words still wait, and the BLT wants data no longer
  takes_less : command_refusal ring c ≡ 0 → is_data (kind_of (header_at ring c)) ≡ true
      → units_left w (taken_core ring c) < units_left w c
  unfolding units_left taken_core
  takes_less a d =
      let p = wanting_is c.place (accepted_wanted ring c a d) in
      let l = (wanting_fit c w fit (pixels_drawn c.place) p).pixel.within in
      let e : pixels_left c.registers c.place ≡ pixel_count BltPrimitive c.registers - pixels_drawn c.place =
      ap (pixels_left c.registers) p in
      omega arith

  refuses_less : c.stop ≡ 0 → (command_refusal ring c ≡ 0 → ⊥) → units_left w (stopped c (command_refusal ring c)) < units_left w c
  unfolding units_left stopped
  refuses_less z n = let a = ap refusal_left z in let b = none (command_refusal ring c) n in omega arith
    where
      none : (k : ℕ) → (k ≡ 0 → ⊥) → refusal_left k ≡ 0
      none zero h = absurd (h refl)
      none (suc k) h = refl

  draws_less : (primitive : Primitive) (k : ℕ) → c.place ≡ Drawing primitive k → k < pixel_count primitive c.registers
      → units_left w (drawn_core c primitive (k + 1)) < units_left w c
  unfolding units_left drawn_core
  draws_less primitive k p l =
      let e = ap (pixels_left c.registers) p in
      let less = if_both (λ (q : Place). pixels_left c.registers q < pixels_left c.registers c.place)
      (pixel_count primitive c.registers ≤? k + 1) {a = Idle} {b = Drawing primitive (k + 1)} (omega arith) (omega arith) in
      omega arith

  -- a pixel that a data command feeds; where the read pointer passes that command, its words wait no longer
  feeds_less : (k : ℕ) (feed : Feed) → c.place ≡ Fed k feed → FitFed c w k feed
      → units_left w (fed_core c (k + 1) feed) < units_left w c
  unfolding units_left fed_core
  feeds_less k feed p f =
      let e : pixels_left c.registers c.place ≡ pixel_count BltPrimitive c.registers - k - 1 =
      ap (pixels_left c.registers) p in
      let less = waits_less c.ringlength c.read w (data_length feed.count) feed.returns fit.read_in fit.write_in
      f.good_return f.all_wait in
      go (pixel_count BltPrimitive c.registers ≤? k + 1) (feed.before + feed.count ≤? host_word c.registers (k + 1))
      refl e less
    where
      passed : ℕ
      passed = read_after c.ringlength c.read (data_length feed.count) feed.returns

      go : (last used : Bool) → pixel_count BltPrimitive c.registers ≤? k + 1 ≡ last
          → pixels_left c.registers c.place ≡ pixel_count BltPrimitive c.registers - k - 1
          → waiting c.ringlength passed w + data_length feed.count ≤ waiting c.ringlength c.read w
          → pixels_left c.registers (if last then Idle else if last || used then Wanting (k + 1) else Fed (k + 1) feed)
          + refusal_left c.stop + word_units * waiting c.ringlength (if last || used then passed else c.read) w
          < pixels_left c.registers c.place + refusal_left c.stop + word_units * waiting c.ringlength c.read w
      go true used l e less = omega arith
      go false true l e less = omega arith
      go false false l e less = omega (arith, leb-false (pixel_count BltPrimitive c.registers) (k + 1) l)

unit_less : (ring : List ℕ) (w : ℕ) (m : Machine) → Fit m.core w → possible ring m.core w ≡ true
    → units_left w (unit ring m).core < units_left w m.core
unit_less ring w m fit e = go (step_of ring m)
  where
    c : Core
    c = m.core

    go : Step ring m → units_left w (unit ring m).core < units_left w c
    go (loads p a d u) =
        let good = (good_header ring c).0 (accepted_header ring c a) in
        rw u (loads_less ring w c fit a (ready_whole ring c w (possible_ready ring c w p e) good))
    go (takes p a d u) = rw u (takes_less ring w c fit a d)
    go (refuses p n u) = rw u (refuses_less ring w c fit (possible_running ring c w e) n)
    go (draws primitive k p u) = rw u (draws_less ring w c fit primitive k p (drawing_fit c w fit primitive k p).within)
    go (feeds k feed p u) = rw u (feeds_less ring w c fit k feed p (fed_fit c w fit k feed p))

-- ---- so they end

module _ (ring : List ℕ) (w : ℕ) where
  units_end : (k used : ℕ) (m : Machine) → Fit m.core w → units_left w m.core ≤ k
      → possible ring (units ring w k used m).machine.core w ≡ false
  units_end =
      units_each ring w (λ k used m d. Fit m.core w → units_left w m.core ≤ k → possible ring d.machine.core w ≡ false)
      (λ used m fit l.
      ⊎_elim (λ e. absurd (omega (arith, unit_less ring w m fit e))) (λ e. e) (true_or_false (possible ring m.core w)))
      (λ k used m e fit l. e)
      (λ k used m d e i fit l. i (fit_unit ring m w fit e) (omega (arith, unit_less ring w m fit e)))

  -- more than those that are left are not done
  units_few : (k used : ℕ) (m : Machine) → Fit m.core w → (units ring w k used m).used ≤ used + units_left w m.core
  units_few =
      units_each ring w (λ k used m d. Fit m.core w → d.used ≤ used + units_left w m.core)
      (λ used m fit. omega arith)
      (λ k used m e fit. omega arith)
      (λ k used m d e i fit. omega (arith, i (fit_unit ring m w fit e), unit_less ring w m fit e))

-- how many at most, in whatever state
units_most : (w : ℕ) (c : Core) → units_left w c ≤ command_units + word_units * waiting c.ringlength c.read w
unfolding units_left
units_most w c = omega (arith, pixels c.place, refusal c.stop)
  where
    drawn : (primitive : Primitive) → pixels_most primitive ≤ side_most * side_most
    drawn BltPrimitive = omega arith
    drawn VectorPrimitive = omega arith

    pixels : (q : Place) → pixels_left c.registers q + 1 ≤ command_units
    pixels Idle = omega arith
    pixels (Drawing primitive k) = omega (arith, pixels_most_lem primitive c.registers, drawn primitive)
    pixels (Wanting k) = omega (arith, pixels_most_lem BltPrimitive c.registers)
    pixels (Fed k feed) = omega (arith, pixels_most_lem BltPrimitive c.registers)

    refusal : (k : ℕ) → refusal_left k ≤ 1
    refusal zero = omega arith
    refusal (suc k) = omega arith

-- and on the longest ring
total_same : (n b : ℕ) → total (replicate n b) ≡ n * b
total_same zero b = omega arith
total_same (suc n) b = rw (total_same n b) (omega arith)

shared_enough : (n m : ℕ) → 0 < m → n ≤ shared n m * m
shared_enough n m h = omega (arith, div-add-mod' (n + m - 1) m, mod-lt (n + m - 1) h)

units_enough : (w : ℕ) (c : Core) → Fit c w → units_left w c ≤ total enough_runs
unfolding waiting
units_enough w c fit =
    let d = distance_lt c.ringlength c.read w fit.read_in in
    let l = fit.lengths.ring_most_holds in
    let t = total_same (runs_for ring_most) budget_most in
    omega (arith, units_most w c, shared_enough (command_units + word_units * (ring_most - 1)) budget_most (omega arith))

-- ---- the theorem

part : (ring : List ℕ) (c : Core) (w : ℕ) → NoCommand ring c w → Part ring c w
unfolding whole_words
part ring c w (no_word e) = words_missing (omega (arith, judged_some ring c, judged_within ring c))
part ring c w (not_judged u) = words_missing (omega (arith, u.words_few, judged_within ring c))
part ring c w (not_whole g f) = go (returns_at ring c) (length_at ring c <? n - c.read) refl (leb-false _ _ short)
  where
    n : ℕ
    n = c.ringlength

    short : whole_words n c.read (length_at ring c) (returns_at ring c) ≤? waiting n c.read w ≡ false
    short = ⊎_elim (λ e. absurd (f ((whole_waits ring c w).1 (leb-true _ _ e)))) (λ e. e) (true_or_false _)

    go : (r b : Bool) → returns_at ring c ≡ r → waiting n c.read w < (if r && b then n - c.read else length_at ring c) → Part ring c w
    go true true p l = end_missing p l
    go true false p l = words_missing l
    go false b p l = words_missing l

at_rest : (ring : List ℕ) (s : State) → Fit s.core s.write → possible ring s.core s.write ≡ false → AtRest ring s
at_rest ring s fit e = go (s.core.stop =? 0) refl
  where
    go : (b : Bool) → s.core.stop =? 0 ≡ b → AtRest ring s
    go true p =
        let h = impossible_waits ring s (eqb-true _ _ p) e in
        waits h (part ring s.core s.write h.no_command)
    go false p =
        let h = neither (s.core.stop <? stop_least) (stop_most <? s.core.stop) (rw p at fit.stop_fit) in
        has_stopped (ltb-false _ _ h.0) (ltb-false _ _ h.1)

module _ (ring : List ℕ) (y : Configuration) (fixed : Fixed ring y.state y.frame) where
  abbrev w : ℕ
  w = y.state.write

  pub fixed_wellformed : WellFormed ring w (machine_in y)
  fixed_wellformed = record { fit = fit_parts y.state fixed.state_fit; ring_is = fixed.ring_is; frame_is = fixed.frame_is }

  ended : (budgets : List ℕ) → units_left w y.state.core ≤ total budgets → Ended ring (runs ring budgets y).state
  ended budgets l =
      let d = units ring w (total budgets) y.sum (machine_in y) in
      let e = units_end ring w (total budgets) y.sum (machine_in y) fixed_wellformed.fit l in
      let f = (wellformed_units ring w (total budgets) y.sum (machine_in y) fixed_wellformed).fit in
      subst (λ (x : Configuration). Ended ring x.state) (sym (runs_total ring budgets y fixed_wellformed))
      (record { no_unit = e; at_rest = at_rest ring (configuration w d).state f e })

pub progress : Progress
progress ring y fixed =
    let fit = (fixed_wellformed ring y fixed).fit in
    record {
      by_state = ended ring y fixed;
      never_more = λ budgets.
          subst (λ (x : Configuration). x.sum ≤ y.sum + units_left y.state.write y.state.core)
          (sym (runs_total ring budgets y (fixed_wellformed ring y fixed)))
          (units_few ring y.state.write (total budgets) y.sum (machine_in y) fit);
      by_words = λ budgets l. ended ring y fixed budgets (omega (arith, units_most y.state.write y.state.core));
      by_runs = ended ring y fixed enough_runs (units_enough y.state.write y.state.core fit);
    }

-- the numbers, as the docs have them: of a command, of a waiting word, of as many BLTs as the longest ring holds, and of runs
pub progress_numbers :
    (command_units ≡ 16_769_026) × (word_units ≡ 986_414) × ((ring_most - 1) / 17 * command_units ≡ 258_578_380_920) × (runs_for ring_most ≡ 61)
progress_numbers = (refl, refl, refl, refl)

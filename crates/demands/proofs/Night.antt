-- What is proved of specs/Night.
use Rattle.std.specs.Prelude.{ℕ, zero, suc, ◌+◌, ◌-◌, ◌%◌, ◌≤◌, ◌<◌, ◌≡◌, refl, Bool, true, false, List, [], ◌∷◌, length, ltb}
use Rattle.std.proofs.Math.Path.{sym, ap, subst}
use Rattle.std.proofs.Common.{◌∙◌, arith, add-zero, zero-add, suc-add, mod-lt, mod-eq_of_lt, ltb-true, ltb-false, eq-eqb, ne_eqb}
use Rattle.std.proofs.Math.Nat.{mod-add-mod}
use Rattle.std.proofs.Math.ListN.{get_or}
use Rattle.model.proofs.Choice.{not_both}
use Rattle.model.specs.Ring.{Agree, distance, waiting}
use Rattle.model.proofs.Ring.{distance_lt, distance_leads, empty}
use Rattle.model.specs.Unit.{Machine, Done, unit, possible, units}
use Rattle.model.proofs.Steps.{possible_later}
use Rattle.model.specs.Calls.{unfit, publish, with_write, number_of}
use Rattle.model.specs.Course.{Call, publishing, running, asking, restarting, Lent, Configuration, with_state}
use Rattle.model.specs.Perform.{answer_of, perform, performs, runs, total, start, Accepted, Fixed, Rests}
use Rattle.model.specs.declared.Core.{Core}
use Rattle.model.specs.declared.State.{State}
use Rattle.laws.specs.Modular.{distance_sum, distance_next}
use Rattle.laws.specs.Units.{units_each}
use Rattle.laws.specs.Fit.{Fit, fit_parts, fit_later}
use Rattle.demands.specs.Courses.{configuration, machine_in, Did}
use Rattle.demands.proofs.Courses.{did, accepted_rules}
use Rattle.demands.proofs.Runs.{rests_impossible, impossible_rests, runs_total}
use Rattle.demands.specs.Arrival.{OnRun}
use Rattle.demands.proofs.Arrival.{on_read, unit_on, unit_same}
use Rattle.demands.proofs.Lasting.{lasting}
use Rattle.demands.specs.Progress.{enough_runs}
use Rattle.demands.proofs.Progress.{fixed_wellformed, progress}
use Rattle.demands.specs.Night.{listed, window, Reading, tape_unit, tape_units, Further, written_first, written_next, written_last, read_at, Holds, Hosted, AllHosted, Night, written_by, Resting, first_reading, WholeNight, SameNight, NightAtLast, lending, NoRestart, NightsExist}

-- ---- the window

length_listed : (n : ℕ) (f : ℕ → ℕ) → length (listed n f) ≡ n
length_listed zero f = refl
length_listed (suc n) f = ap suc (length_listed n (λ i. f (suc i)))

get_d_listed : (n : ℕ) (f : ℕ → ℕ) (i : ℕ) → i < n → get_or (listed n f) i 0 ≡ f i
get_d_listed zero f i h = absurd (omega arith)
get_d_listed (suc n) f zero h = refl
get_d_listed (suc n) f (suc i) h = get_d_listed n (λ i. f (suc i)) i (omega arith)

length_window : (tape : ℕ → ℕ) (n at : ℕ) → length (window tape n at) ≡ n
unfolding window
length_window tape n at = length_listed n _

-- j words on from `at`
round : (n at j : ℕ) → j < n → distance n (at % n) ((at + j) % n) ≡ j
unfolding waiting
round n at j h =
    let i : at % n < n = mod-lt at (omega arith) in
    let t = distance_next n (at % n) (at % n) j i i (omega (arith, empty n (at % n))) in
    let e : distance n (at % n) ((at % n + j) % n) ≡ j = omega (arith, empty n (at % n)) in
    rw (mod-add-mod at n j) at e

-- word k of the tape stands at its position modulo n
pub window_holds : (tape : ℕ → ℕ) (n at k : ℕ) → at ≤ k → k < at + n → get_or (window tape n at) (k % n) 0 ≡ tape k
unfolding window
window_holds tape n at k h l =
    let e : at + (k - at) ≡ k = omega arith in
    let r : distance n (at % n) (k % n) ≡ k - at = rw e at (round n at (k - at) (omega arith)) in
    get_d_listed n _ (k % n) (mod-lt k (omega arith)) ∙ ap tape (ap (λ (d : ℕ). at + d) r ∙ e)

-- the tape's numbers 4, 5 and 6 round a ring of 3 words
pub window_three : window (λ k. k) 3 4 ≡ 6 ∷ 4 ∷ 5 ∷ []
unfolding window distance
window_three = refl

-- so the window is a ring to lend
window_lent : (tape : ℕ → ℕ) (y : Configuration) (written : ℕ) → y.state.core.read < y.state.core.ringlength
    → Holds tape written (window tape y.state.core.ringlength (read_at written y)) y
unfolding waiting
window_lent tape y written h k l u =
    let n = y.state.core.ringlength in
    let d = distance_lt n y.state.core.read y.state.write h in
    window_holds tape n (read_at written y) k l (omega arith)

all_lent : (tape : ℕ → ℕ) (calls : List Call) (written : ℕ) (y : Configuration) → NoRestart calls
    → AllHosted tape written (lending tape written calls y) y
all_lent tape [] written y none = tt
all_lent tape (publishing p ∷ calls) written y none = (tt, all_lent tape calls _ _ none)
all_lent tape (running budget ∷ calls) written y none =
    let ring = window tape y.state.core.ringlength (read_at written y) in (
      λ a. window_lent tape y written (fit_parts y.state (accepted_rules ring (running budget) y a).0).read_in,
      all_lent tape calls _ _ none,
    )
all_lent tape (asking ∷ calls) written y none = (tt, all_lent tape calls _ _ none)
all_lent tape (restarting ∷ calls) written y none = absurd none

pub nights_exist : NightsExist
unfolding NightsExist
nights_exist tape s frame calls none = all_lent tape calls (written_first s) (start s frame) none

-- ---- a unit over a ring that holds the tape's words

-- the engine reads word number `at`, and the words from there up to `written` wait
record Here (n w written at : ℕ) (c : Core) : Type 0 where
  size_is : c.ringlength ≡ n
  read_is : at % n ≡ c.read
  reach : at + waiting n c.read w ≡ written
  fit : Fit c w

here_read : {n w written at : ℕ} {c : Core} → Here n w written at c → c.read < n
here_read here = rw here.size_is at here.fit.read_in

here_write : {n w written at : ℕ} {c : Core} → Here n w written at c → w < n
here_write here = rw here.size_is at here.fit.write_in

module _ (tape : ℕ → ℕ) (n w written at : ℕ) (c : Core) (here : Here n w written at c) where
  here_on : OnRun n c.read w w c
  unfolding waiting
  here_on = record {
    size_is = here.size_is;
    origin_in = here_read here;
    final_in = here_write here;
    past = omega (arith, empty n c.read);
    ahead = omega arith;
    fit = here.fit;
  }

  here_agree : (ring : List ℕ) → ((k : ℕ) → at ≤ k → k < written → get_or ring (k % n) 0 ≡ tape k)
      → Agree ring (window tape n at) n c.read w
  unfolding waiting
  here_agree ring holds x l h =
      let j = distance n c.read x in
      let e : (at + j) % n ≡ x =
      sym (mod-add-mod at n j) ∙ ap (λ (r : ℕ). (r + j) % n) here.read_is ∙ distance_leads n c.read x (here_read here) l in
      subst (λ (q : ℕ). get_or ring q 0 ≡ get_or (window tape n at) q 0) e
      (holds (at + j) (omega arith) (omega (arith, here.reach))
      ∙ sym (window_holds tape n at (at + j) (omega arith) (omega (arith, distance_lt n c.read x (here_read here)))))

  -- the same number of words further on for the read pointer and on the tape
  here_next : (d : Core) → OnRun n c.read w w d → Here n w written (at + distance n c.read d.read) d
  unfolding waiting
  here_next d on =
      let j = distance n c.read d.read in
      let s = distance_sum n c.read d.read w (here_read here) (on_read on) (here_write here) on.past in
      record {
        size_is = on.size_is;
        read_is =
            sym (mod-add-mod at n j) ∙ ap (λ (r : ℕ). (r + j) % n) here.read_is
            ∙ distance_leads n c.read d.read (here_read here) (on_read on);
        reach = omega (arith, here.reach);
        fit = on.fit;
      }

abbrev reading : Machine → ℕ → Reading
reading m at = record { machine = m; at = at }

-- a unit over the ring is one over the tape
record Stepped (tape : ℕ → ℕ) (n w written : ℕ) (ring : List ℕ) (m : Machine) (at : ℕ) : Type 0 where
  further : Further tape written (reading m at)
  next : ℕ
  forward : at ≤ next
  same : tape_unit tape (reading m at) ≡ reading (unit ring m) next
  here : Here n w written next (unit ring m).core

-- some units over a ring are as many over the tape
record Taken (tape : ℕ → ℕ) (n w written used : ℕ) (x : Reading) (d : Done) : Type 0 where
  count : ℕ
  used_is : d.used ≡ used + count
  at : ℕ
  forward : x.at ≤ at
  same : tape_units tape count x ≡ reading d.machine at
  here : Here n w written at d.machine.core
  each : (k : ℕ) → k < count → Further tape written (tape_units tape k x)

module _ (tape : ℕ → ℕ) (n w written : ℕ) (ring : List ℕ) (ring_is : length ring ≡ n) where
  unit_stepped : (m : Machine) (at : ℕ) → Here n w written at m.core
      → ((k : ℕ) → at ≤ k → k < written → get_or ring (k % n) 0 ≡ tape k) → possible ring m.core w ≡ true → Stepped tape n w written ring m at
  unit_stepped m at here holds e =
      let c = m.core in
      let on = here_on tape n w written at c here in
      let agree = here_agree tape n w written at c here ring holds in
      let u = unit_same n c.read w w ring (window tape n at) ring_is (length_window tape n at) agree m on e in
      record {
        further = (
          w,
          subst (λ (q : ℕ). possible (window tape q at) c w ≡ true) (sym here.size_is) u.0,
          subst (λ (q : ℕ). at + waiting q c.read w ≤ written) (sym here.size_is) (omega (arith, here.reach)),
        );
        next = at + distance n c.read (unit ring m).core.read;
        forward = omega arith;
        same =
            ap (λ (q : ℕ). let k = unit (window tape q at) m in reading k (at + distance q c.read k.core.read)) here.size_is
            ∙ ap (λ (k : Machine). reading k (at + distance n c.read k.core.read)) (sym u.1);
        here = here_next tape n w written at c here (unit ring m).core (unit_on n c.read w w ring m on e);
      }

  taken_none : (used : ℕ) (m : Machine) (at : ℕ) → Here n w written at m.core
      → Taken tape n w written used (reading m at) (record { machine = m; used = used })
  taken_none used m at here =
      record {
        count = 0;
        used_is = rw add-zero;
        at = at;
        forward = omega arith;
        same = refl;
        here = here;
        each = λ k h. absurd (omega arith);
      }

  units_taken : (k used : ℕ) (m : Machine) (at : ℕ) → Here n w written at m.core
      → ((k : ℕ) → at ≤ k → k < written → get_or ring (k % n) 0 ≡ tape k) → Taken tape n w written used (reading m at) (units ring w k used m)
  units_taken =
      units_each ring w
      (λ k used m d. (at : ℕ) → Here n w written at m.core → ((k : ℕ) → at ≤ k → k < written → get_or ring (k % n) 0 ≡ tape k)
      → Taken tape n w written used (reading m at) d)
      (λ used m at here holds. taken_none used m at here)
      (λ k used m e at here holds. taken_none used m at here)
      (λ k used m d e i at here holds.
      let t = unit_stepped m at here holds e in
      let r = i t.next t.here (λ j h l. holds j (omega (arith, t.forward)) l) in
      record {
        count = suc r.count;
        used_is = r.used_is ∙ omega arith;
        at = r.at;
        forward = omega (arith, t.forward, r.forward);
        same = ap (tape_units tape r.count) t.same ∙ r.same;
        here = r.here;
        each = each used m d at t r;
      })
    where
      each : (used : ℕ) (m : Machine) (d : Done) (at : ℕ) (t : Stepped tape n w written ring m at)
          → (r : Taken tape n w written (used + 1) (reading (unit ring m) t.next) d)
          → (j : ℕ) → j < suc r.count → Further tape written (tape_units tape j (reading m at))
      each used m d at t r zero h = t.further
      each used m d at t r (suc j) h = subst (λ (z : Reading). Further tape written (tape_units tape j z)) (sym t.same) (r.each j (omega arith))

tape_add : (tape : ℕ → ℕ) (a b : ℕ) (x : Reading) → tape_units tape (a + b) x ≡ tape_units tape b (tape_units tape a x)
tape_add tape zero b x = rw zero-add
tape_add tape (suc a) b x = rw suc-add (tape_add tape a b (tape_unit tape x))

-- ---- the calls of a list, one after the other

module _ (tape : ℕ → ℕ) (n : ℕ) (first : Reading) where
  -- after a prefix of the calls
  record Followed (y : Configuration) (written : ℕ) : Type 0 where
    at : ℕ
    here : Here n y.state.write written at y.state.core
    same : tape_units tape y.sum first ≡ reading (machine_in y) at
    each : (k : ℕ) → k < y.sum → Further tape written (tape_units tape k first)

  later_further : (written more : ℕ) (x : Reading) → Further tape written x → Further tape (written + more) x
  later_further written more x q = (q.0, q.1, omega (arith, q.2))

  followed_publish : (y : Configuration) (written p : ℕ) → Followed y written → p < y.state.core.ringlength
      → waiting y.state.core.ringlength y.state.core.read y.state.write
      ≤ waiting y.state.core.ringlength y.state.core.read p
      → Followed (with_state y (with_write y.state p)) (written + distance y.state.core.ringlength y.state.write p)
  unfolding waiting
  followed_publish y written p h l r =
      let c = y.state.core in
      let w = y.state.write in
      let f = fit_later c w p l r h.here.fit in
      let s = distance_sum c.ringlength c.read w p f.read_in h.here.fit.write_in l r in
      let reach = subst (λ (q : ℕ). h.at + distance q c.read w ≡ written) (sym h.here.size_is) h.here.reach in
      record {
        at = h.at;
        here = record {
          size_is = h.here.size_is;
          read_is = h.here.read_is;
          reach =
              subst (λ (q : ℕ). h.at + distance q c.read p ≡ written + distance c.ringlength w p) h.here.size_is (omega arith);
          fit = f;
        };
        same = h.same;
        each = λ k l. later_further written _ (tape_units tape k first) (h.each k l);
      }

  -- the words that wait, counted from `at`
  holds_at : (y : Configuration) (written : ℕ) (h : Followed y written) (ring : List ℕ) → Holds tape written ring y
      → (k : ℕ) → h.at ≤ k → k < written → get_or ring (k % n) 0 ≡ tape k
  holds_at y written h ring holds k l u =
      let r = h.here.reach in
      subst (λ (q : ℕ). get_or ring (k % q) 0 ≡ tape k) h.here.size_is
      (holds k
      (subst (λ (q : ℕ). written - waiting q y.state.core.read y.state.write ≤ k) (sym h.here.size_is) (omega arith))
      (omega arith))

  -- some units more
  module _ (y : Configuration) (written : ℕ) (h : Followed y written) (d : Done)
      (t : Taken tape n y.state.write written y.sum (reading (machine_in y) h.at) d) where
    taken_each : (k : ℕ) (b : Bool) → ltb k y.sum ≡ b → k < y.sum + t.count → Further tape written (tape_units tape k first)
    taken_each k true e l = h.each k (ltb-true _ _ e)
    taken_each k false e l =
        let a = ltb-false k y.sum e in
        let s : y.sum + (k - y.sum) ≡ k = omega arith in
        let q : tape_units tape k first ≡ tape_units tape (k - y.sum) (reading (machine_in y) h.at) =
        ap (λ (j : ℕ). tape_units tape j first) (sym s) ∙ tape_add tape y.sum (k - y.sum) first
        ∙ ap (tape_units tape (k - y.sum)) h.same in
        subst (Further tape written) (sym q) (t.each (k - y.sum) (omega arith))

    abbrev followed_taken : Followed (configuration y.state.write d) written
    followed_taken = record {
      at = t.at;
      here = t.here;
      same =
          ap (λ (k : ℕ). tape_units tape k first) t.used_is ∙ tape_add tape y.sum t.count first
          ∙ ap (tape_units tape t.count) h.same ∙ t.same;
      each = λ k l. taken_each k (ltb k y.sum) refl (omega (arith, t.used_is));
    }

  -- an accepted publishing is counted, and a refused one is not
  counted : (written p : ℕ) (y : Configuration) → Accepted (publish y.state p)
      → written_next written (publishing p) y ≡ written + distance y.state.core.ringlength y.state.write p
  counted written p y a = rw (eq-eqb (number_of (publish y.state p).reply) 0 a)

  not_counted : (written : ℕ) (ring : List ℕ) (call : Call) (y : Configuration) → (Accepted (answer_of ring call y) → ⊥)
      → written_next written call y ≡ written
  not_counted written ring (publishing p) y n = rw (ne_eqb (number_of (publish y.state p).reply) 0 n) (omega arith)
  not_counted written ring (running budget) y n = refl
  not_counted written ring asking y n = refl
  not_counted written ring restarting y n = refl

  followed_call : (ring : List ℕ) (y : Configuration) (written : ℕ) {call : Call} {z : Configuration} → Did ring y call z
      → Followed y written → Hosted tape written ring call y → Followed z (written_next written call y)
  followed_call ring y written (Did.refuses {call} n) h hosted = subst (Followed y) (sym (not_counted written ring call y n)) h
  followed_call ring y written Did.asks h hosted = h
  followed_call ring y written (Did.publishes {p} a l r) h hosted =
      subst (Followed _) (sym (counted written p y a)) (followed_publish y written p h l r)
  followed_call ring y written (Did.runs {budget} a f) h hosted =
      followed_taken y written h _
      (units_taken tape n y.state.write written ring (f.ring_is ∙ h.here.size_is) budget y.sum (machine_in y) h.at h.here
      (holds_at y written h ring (hosted a)))
  followed_call ring y written (Did.restarts a n) h hosted = absurd (hosted a)

  followed_calls : (calls : List Lent) (y : Configuration) (written : ℕ) → Followed y written → AllHosted tape written calls y
      → Followed (performs calls y) (written_last written calls y)
  followed_calls [] y written h a = h
  followed_calls (x ∷ xs) y written h a =
      followed_calls xs (perform x y) (written_next written x.call y)
      (followed_call x.ring y written (did x.ring x.call y) h a.0) a.1

-- ---- the theorems

module _ (tape : ℕ → ℕ) (s : State) (frame : List ℕ) (fit : unfit s ≡ false) where
  abbrev n : ℕ
  n = s.core.ringlength

  abbrev first : Reading
  first = first_reading s frame

  followed_start : Followed tape n first (start s frame) (written_first s)
  followed_start =
      let f = fit_parts s fit in
      record {
        at = s.core.read;
        here = record { size_is = refl; read_is = mod-eq_of_lt f.read_in; reach = refl; fit = f };
        same = refl;
        each = λ k h. absurd (omega arith);
      }

  followed_night : (calls : List Lent) → Night tape s frame calls
      → Followed tape n first (performs calls (start s frame)) (written_by s frame calls)
  followed_night calls hosted = followed_calls tape n first calls (start s frame) (written_first s) followed_start hosted

  module _ (y : Configuration) (written : ℕ) (h : Followed tape n first y written) where
    -- where the words that wait begin
    begins : h.at ≡ read_at written y
    begins = rw h.here.size_is (omega (arith, h.here.reach))

    -- the write pointer
    stands : written % n ≡ y.state.write
    unfolding waiting
    stands =
        let c = y.state.core in
        let j = distance n c.read y.state.write in
        ap (λ (x : ℕ). x % n) (sym h.here.reach) ∙ sym (mod-add-mod h.at n j)
        ∙ ap (λ (x : ℕ). (x + j) % n) h.here.read_is
        ∙ distance_leads n c.read y.state.write (here_read h.here) (here_write h.here)

    -- where the engine rests, the tape's machine can do no further unit
    no_further : (ring : List ℕ) → Resting tape written ring y → Further tape written (tape_units tape y.sum first) → ⊥
    no_further ring rest further =
        let c = y.state.core in
        let w = y.state.write in
        let m = machine_in y in
        let q = subst (Further tape written) h.same further in
        let reach = subst (λ (k : ℕ). h.at + waiting k c.read w ≡ written) (sym h.here.size_is) h.here.reach in
        let e = possible_later (window tape c.ringlength h.at) c q.0 w (omega (arith, q.2)) q.1 in
        let f = subst (λ (k : ℕ). possible (window tape k h.at) c w ≡ true) h.here.size_is e in
        let on = here_on tape n w written h.at c h.here in
        let agree = here_agree tape n w written h.at c h.here ring (holds_at tape n first y written h ring rest.holds) in
        let u = unit_same n c.read w w (window tape n h.at) ring (length_window tape n h.at)
        (rest.ring_is ∙ h.here.size_is) (λ x l d. sym (agree x l d)) m on f in
        not_both (possible ring c w) u.0 (rests_impossible ring y rest.rests)

pub whole_night : WholeNight
unfolding WholeNight
whole_night tape s frame calls fit hosted =
    let y = performs calls (start s frame) in
    let written = written_by s frame calls in
    let h = followed_night tape s frame fit calls hosted in
    record {
      same_units = h.same ∙ ap (reading (machine_in y)) (begins tape s frame fit y written h);
      each_possible = h.each;
      at_rest = no_further tape s frame fit y written h;
      write_is = stands tape s frame fit y written h;
    }

-- a configuration from its machine, write pointer and sum
abbrev stood : Machine → ℕ → ℕ → Configuration
stood m w k = record { state = record { core = m.core; table = m.table; write = w }; frame = m.frame; sum = k }

module _ (tape : ℕ → ℕ) (s : State) (frame : List ℕ) (fit : unfit s ≡ false) where
  abbrev x : Reading
  x = first_reading s frame

  -- two ends at rest with as many words published
  same_rest : (y z : Configuration) (u v : ℕ) (ring ring' : List ℕ) → u ≡ v
      → Followed tape s.core.ringlength x y u → Followed tape s.core.ringlength x z v
      → Resting tape u ring y → Resting tape v ring' z → y ≡ z
  same_rest y z u v ring ring' as_many g h rest rest' = go (ltb y.sum z.sum) (ltb z.sum y.sum) refl refl
    where
      go : (a b : Bool) → ltb y.sum z.sum ≡ a → ltb z.sum y.sum ≡ b → y ≡ z
      go true b ea eb =
          absurd (no_further tape s frame fit y u g ring rest
          (subst (λ (k : ℕ). Further tape k (tape_units tape y.sum x)) (sym as_many) (h.each y.sum (ltb-true _ _ ea))))
      go false true ea eb =
          absurd (no_further tape s frame fit z v h ring' rest'
          (subst (λ (k : ℕ). Further tape k (tape_units tape z.sum x)) as_many (g.each z.sum (ltb-true _ _ eb))))
      go false false ea eb =
          let p = ltb-false y.sum z.sum ea in
          let q = ltb-false z.sum y.sum eb in
          let same : y.sum ≡ z.sum = omega arith in
          let machines : machine_in y ≡ machine_in z =
          ap (λ (r : Reading). r.machine) (sym g.same ∙ ap (λ (k : ℕ). tape_units tape k x) same ∙ h.same) in
          let writes : y.state.write ≡ z.state.write =
          sym (stands tape s frame fit y u g) ∙ ap (λ (k : ℕ). k % s.core.ringlength) as_many ∙ stands tape s frame fit z v h in
          ap (λ (m : Machine). stood m y.state.write y.sum) machines
          ∙ ap (λ (w : ℕ). stood (machine_in z) w y.sum) writes
          ∙ ap (stood (machine_in z) z.state.write) same

  -- enough runs more
  module _ (y : Configuration) (written : ℕ) (ring : List ℕ) (h : Followed tape s.core.ringlength x y written)
      (ring_is : length ring ≡ s.core.ringlength) (lasts : Fixed ring y.state y.frame) (holds : Holds tape written ring y)
      (rests : Rests ring (runs ring enough_runs y)) where
    abbrev d : Done
    d = units ring y.state.write (total enough_runs) y.sum (machine_in y)

    abbrev taken : Taken tape s.core.ringlength y.state.write written y.sum (reading (machine_in y) h.at) d
    taken =
        units_taken tape s.core.ringlength y.state.write written ring ring_is (total enough_runs) y.sum
        (machine_in y) h.at h.here (holds_at tape s.core.ringlength x y written h ring holds)

    more : runs ring enough_runs y ≡ configuration y.state.write d
    more = runs_total ring enough_runs y (fixed_wellformed ring y lasts)

    followed_more : Followed tape s.core.ringlength x (runs ring enough_runs y) written
    followed_more =
        subst (λ (z : Configuration). Followed tape s.core.ringlength x z written) (sym more)
        (followed_taken tape s.core.ringlength x y written h d taken)

    rest_more : Resting tape written ring (runs ring enough_runs y)
    rest_more =
        let n = s.core.ringlength in
        let z = configuration y.state.write d in
        let g = followed_taken tape n x y written h d taken in
        let b = begins tape s frame fit z written g in
        let at : Resting tape written ring z = record {
          ring_is = ring_is ∙ sym g.here.size_is;
          holds = λ k l u.
              subst (λ (q : ℕ). get_or ring (k % q) 0 ≡ tape k) (sym g.here.size_is)
              (holds_at tape n x y written h ring holds k (omega (arith, taken.forward)) u);
          rests = subst (Rests ring) more rests;
        } in
        subst (Resting tape written ring) (sym more) at

pub same_night : SameNight
unfolding SameNight
same_night tape s frame one other ring ring' fit hosted hosted' as_many rest rest' =
    same_rest tape s frame fit _ _ _ _ ring ring' as_many
    (followed_night tape s frame fit one hosted) (followed_night tape s frame fit other hosted') rest rest'

pub night_at_last : NightAtLast
unfolding NightAtLast
night_at_last tape s frame one other ring ring' fixed fixed' hosted hosted' as_many holds holds' =
    let fit = fixed.state_fit in
    let g = followed_night tape s frame fit one hosted in
    let h = followed_night tape s frame fit other hosted' in
    let p = lasting ring (start s frame) one fixed in
    let q = lasting ring' (start s frame) other fixed' in
    let r = rested ring (performs one (start s frame)) p in
    let t = rested ring' (performs other (start s frame)) q in
    same_rest tape s frame fit _ _ _ _ ring ring' as_many
    (followed_more tape s frame fit _ _ ring g fixed.ring_is p holds r)
    (followed_more tape s frame fit _ _ ring' h fixed'.ring_is q holds' t)
    (rest_more tape s frame fit _ _ ring g fixed.ring_is p holds r)
    (rest_more tape s frame fit _ _ ring' h fixed'.ring_is q holds' t)
  where
    rested : (ring : List ℕ) (y : Configuration) → Fixed ring y.state y.frame → Rests ring (runs ring enough_runs y)
    rested ring y f = impossible_rests ring (runs ring enough_runs y) (progress ring y f).by_runs.no_unit

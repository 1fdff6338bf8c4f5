-- What is proved of specs/Arrival.
use Rattle.std.specs.Prelude.{ℕ, zero, suc, ◌+◌, ◌-◌, ◌%◌, ◌≤◌, ◌<◌, ◌≡◌, Bool, ◌||◌, List, [], ◌∷◌, length, if◌then◌else◌}
use Rattle.std.proofs.Math.Path.{refl, ap}
use Rattle.std.proofs.Common.{sym, subst, ◌∙◌, arith, add-zero, mod-lt, mod-eq_of_lt, ltb-false, eqb-true}
use Rattle.std.proofs.Math.Bool.{true, false}
use Rattle.std.proofs.Math.Nat.{mod_self}
use Rattle.model.specs.Choice.{◌<?◌, ◌≤?◌, ◌=?◌}
use Rattle.model.proofs.Choice.{not_both, neither}
use Rattle.model.specs.Refusals.{Rule, ◌when◌, first}
use Rattle.model.specs.Ring.{Agree, distance, waiting, word_at}
use Rattle.model.proofs.Ring.{distance_lt, distance_leads, empty}
use Rattle.model.specs.Lookup.{data_count, next_index, data_stored}
use Rattle.model.specs.Command.{kind_of, bad_header, word_registers, count_place, count_word, data_length, command_length, drawn_by, bad_start, bad_return, whole_words, load_words, enabled, loaded, filled, loaded_table, read_after}
use Rattle.model.specs.Host.{host_word, draw_host}
use Rattle.model.specs.Unit.{Machine, Done, header_at, loaded_at, counted_at, length_at, returns_at, header_refusal, drawn_rules, command_refusal, needed, ready, stopped, loaded_core, taken_core, accepted_core, table_after, pixel_count, drawn_core, fed_word, fed_core, unit, wants, drawing, done, possible, units}
use Rattle.model.specs.Steps.{machine, Step, loads, takes, refuses, draws, feeds}
use Rattle.model.proofs.Steps.{step_of, possible_later}
use Rattle.model.specs.declared.Core.{Core}
use Rattle.model.specs.declared.Feed.{Feed}
use Rattle.model.specs.declared.Kind.{Kind}
use Rattle.model.specs.declared.Kind.TheVariants.{Blt, Vector, Table, Data}
use Rattle.model.specs.declared.Primitive.TheVariants.{Blt as BltPrimitive}
use Rattle.laws.specs.Modular.{distance_sum, distance_next}
use Rattle.laws.specs.Units.{unit_accepts, unit_refuses, unit_draws, unit_feeds, drawing_possible, idle_possible, possible_running, possible_ready, units_zero, units_step, units_each}
use Rattle.laws.specs.Fit.{Fit, FitFed, fed_fit, command_first, accepted_header, accepted_return, fit_unit}
use Rattle.laws.specs.WellFormed.{unit_keeps}
use Rattle.demands.specs.Waits.{Needs, its_header, all_words}
use Rattle.demands.proofs.Waits.{good_header, own_words, needs_of, needs_judged, needs_some, whole_waits, ready_needs, ready_whole}
use Rattle.demands.specs.Arrival.{OnRun}

-- ---- the same run seen from the read pointer

module _ {n o f w : ℕ} {c : Core} (on : OnRun n o f w c) where
  pub on_read : c.read < n
  on_read = rw on.size_is at on.fit.read_in

  pub on_write : w < n
  on_write = rw on.size_is at on.fit.write_in

  -- words waiting, as distances from the origin
  waits_from : distance n o c.read + distance n c.read w ≡ distance n o w
  waits_from = distance_sum n o c.read w on.origin_in on_read on_write on.past

  -- no fewer wait with the final pointer in
  pub waits_later : distance n c.read w ≤ distance n c.read f
  waits_later =
      omega (arith, waits_from, on.ahead, distance_sum n o c.read f on.origin_in on_read on.final_in (omega (arith, on.past, on.ahead)))

  -- the run that is left begins where the engine reads
  pub on_here : OnRun n c.read f w c
  unfolding waiting
  on_here = record {
    size_is = on.size_is;
    origin_in = on_read;
    final_in = on.final_in;
    past = omega (arith, empty n c.read);
    ahead = waits_later;
    fit = on.fit;
  }

  -- and an engine further on in it is further on in the whole run
  pub on_back : (d : Core) → OnRun n c.read f w d → OnRun n o f w d
  on_back d further =
      let l = distance_lt n o w on.origin_in in
      let t = distance_next n o c.read (distance n c.read d.read) on.origin_in on_read (omega (arith, waits_from, further.past)) in
      let r : d.read < n = rw further.size_is at further.fit.read_in in
      let e = rw (distance_leads n c.read d.read on_read r) at t in
      record {
        size_is = further.size_is;
        origin_in = on.origin_in;
        final_in = on.final_in;
        past = omega (arith, waits_from, further.past);
        ahead = on.ahead;
        fit = further.fit;
      }

-- ---- a unit stays on the run

-- as many words as the read pointer passes
pub advance : (n read length : ℕ) (w : Bool) → read < n → bad_return n read length w ≡ false
    → read_after n read length w ≡ (read + whole_words n read length w) % n
unfolding bad_return whole_words read_after
advance n read length false h e = refl
advance n read length true h e = go (length <? n - read) refl (ltb-false n (read + length) (neither (read =? 0) _ e).1)
  where
    go : (b : Bool) → length <? n - read ≡ b → read + length ≤ n → 0 ≡ (read + (if b then n - read else length)) % n
    go true t l = let s : read + (n - read) ≡ n = omega arith in rw s (sym (mod_self n))
    go false t l = let s : read + length ≡ n = omega (arith, ltb-false length (n - read) t) in rw s (sym (mod_self n))

-- a unit takes the read pointer past words that wait, if it takes it anywhere
unit_moves : (ring : List ℕ) (m : Machine) (w : ℕ) → Fit m.core w → possible ring m.core w ≡ true
    → (k : ℕ) × (k ≤ waiting m.core.ringlength m.core.read w) × ((unit ring m).core.read ≡ (m.core.read + k) % m.core.ringlength)
unfolding loaded_core taken_core stopped drawn_core fed_core
unit_moves ring m w fit e = go (step_of ring m)
  where
    c : Core
    c = m.core

    stays : c.read ≡ (c.read + 0) % c.ringlength
    stays = rw add-zero (sym (mod-eq_of_lt fit.read_in))

    -- past a data command, or not yet
    fed : (feed : Feed) (passed : Bool) → bad_return c.ringlength c.read (data_length feed.count) feed.returns ≡ false
        → whole_words c.ringlength c.read (data_length feed.count) feed.returns ≤ waiting c.ringlength c.read w
        → (k : ℕ) × (k ≤ waiting c.ringlength c.read w)
        × ((if passed then read_after c.ringlength c.read (data_length feed.count) feed.returns else c.read)
        ≡ (c.read + k) % c.ringlength)
    fed feed true b l = (_, l, advance c.ringlength c.read (data_length feed.count) feed.returns fit.read_in b)
    fed feed false b l = (0, omega arith, stays)

    go : Step ring m → (k : ℕ) × (k ≤ waiting c.ringlength c.read w) × ((unit ring m).core.read ≡ (c.read + k) % c.ringlength)
    go (loads p z d u) =
        let good = (good_header ring c).0 (accepted_header ring c z) in (
          _,
          (whole_waits ring c w).0 (ready_whole ring c w (possible_ready ring c w p e) good),
          rw u (advance c.ringlength c.read (length_at ring c) (returns_at ring c) fit.read_in (accepted_return ring c z)),
        )
    go (takes p z d u) = (0, omega arith, rw u stays)
    go (refuses p z u) = (0, omega arith, rw u stays)
    go (draws primitive k p u) = (0, omega arith, rw u stays)
    go (feeds k feed p u) =
        let f = fed_fit c w fit k feed p in
        let x = fed feed
        (pixel_count BltPrimitive c.registers ≤? k + 1 || feed.before + feed.count ≤? host_word c.registers (k + 1))
        f.good_return f.all_wait in
        (x.0, x.1, rw u x.2)

pub unit_on : (n o f w : ℕ) (ring : List ℕ) (m : Machine) → OnRun n o f w m.core → possible ring m.core w ≡ true
    → OnRun n o f w (unit ring m).core
unfolding waiting
unit_on n o f w ring m on e =
    let x = unit_moves ring m w on.fit e in
    let moved = subst (λ (q : ℕ). x.0 ≤ distance q m.core.read w) on.size_is x.1 in
    let next = subst (λ (q : ℕ). (unit ring m).core.read ≡ (m.core.read + x.0) % q) on.size_is x.2 in
    let s = waits_from on in
    let l = distance_lt n o w on.origin_in in
    record {
      size_is = (unit_keeps ring m).ringlength_kept ∙ on.size_is;
      origin_in = on.origin_in;
      final_in = on.final_in;
      past = rw (next, distance_next n o m.core.read x.0 on.origin_in (on_read on) (omega arith)) (omega arith);
      ahead = on.ahead;
      fit = fit_unit ring m w on.fit e;
    }

-- ---- a ring with the same published words gives the same unit

words_same : (ring all : List ℕ) (read header : ℕ) (rest : List ℕ) (i : ℕ) (registers : List ℕ)
    → ((j : ℕ) → j < length rest → word_at ring read (i + j + 1) ≡ word_at all read (i + j + 1))
    → load_words ring read header rest i registers ≡ load_words all read header rest i registers
unfolding load_words
words_same ring all read header [] i registers h = refl
words_same ring all read header (r ∷ rest) i registers h =
    let first : word_at ring read (i + 1) ≡ word_at all read (i + 1) =
    ap (λ (x : ℕ). word_at ring read (x + 1)) (sym (add-zero i)) ∙ h 0 (omega arith)
    ∙ ap (λ (x : ℕ). word_at all read (x + 1)) (add-zero i) in
    rw first
    (words_same ring all read header rest (i + 1) _
    (λ j l.
    let e : i + 1 + j ≡ i + suc j = omega arith in
    rw e (h (suc j) (omega arith))))

-- a table load's data
data_same : (ring all : List ℕ) (read i n index : ℕ) (table : List ℕ)
    → ((j : ℕ) → j < n → word_at ring read (i + j) ≡ word_at all read (i + j))
    → data_stored ring read i n index table ≡ data_stored all read i n index table
unfolding data_stored
data_same ring all read i zero index table h = refl
data_same ring all read i (suc n) index table h =
    let first : word_at ring read i ≡ word_at all read i = rw add-zero at (h 0 (omega arith)) in
    rw first
    (data_same ring all read (i + 1) n (next_index index) _
    (λ j l.
    let e : i + 1 + j ≡ i + suc j = omega arith in
    rw e (h (suc j) (omega arith))))

-- a command has a word for each of its registers
registers_length : (kind : Kind) (counted : ℕ) → length (word_registers kind) < command_length kind counted
registers_length Blt counted = omega arith
registers_length Vector counted = omega arith
registers_length Table counted = omega arith
registers_length Data counted = omega arith

-- where the header alone refuses a command nothing hangs on the rules that come after
start_first : (a b d : Bool) (rules others : List Rule) → a || b || d ≡ true
    → first (21 when a ∷ 30 when b ∷ 31 when d ∷ rules) ≡ first (21 when a ∷ 30 when b ∷ 31 when d ∷ others)
unfolding first
start_first true b d rules others e = refl
start_first false true d rules others e = refl
start_first false false true rules others e = refl
start_first false false false rules others e = absurd (not_both false e refl)

module _ (n o f w : ℕ) (ring all : List ℕ) (ring_is : length ring ≡ n) (all-is : length all ≡ n) (agree : Agree ring all n o w) where
  module _ (c : Core) (on : OnRun n o f w c) where
    -- word k from the read pointer, where more than k wait
    word_same : (k : ℕ) → k < waiting n c.read w → word_at ring c.read k ≡ word_at all c.read k
    unfolding word_at waiting
    word_same k h =
        let s = waits_from on in
        let l = distance_lt n o w on.origin_in in
        let t = distance_next n o c.read k on.origin_in (on_read on) (omega arith) in
        rw (ring_is, all-is) (agree ((c.read + k) % n) (mod-lt _ (omega (arith, on_read on))) (rw t (omega arith)))

    -- the word of a pixel that a data command feeds: its words wait
    fed_same : (k : ℕ) (feed : Feed) → FitFed c w k feed
        → fed_word ring c feed (host_word c.registers k) ≡ fed_word all c feed (host_word c.registers k)
    unfolding fed_word
    fed_same k feed p =
        let own = own_words c.ringlength c.read (data_length feed.count) feed.returns in
        let l : 2 + (host_word c.registers k - feed.before) < waiting c.ringlength c.read w =
        omega (arith, p.begun, p.feeding, p.all_wait) in
        word_same _ (rw on.size_is at l)

  module _ (c : Core) (on : OnRun n o f w c) (now : ready ring c w ≡ true) where
    waits : needed ring c ≤ waiting n c.read w
    waits = subst (λ (q : ℕ). needed ring c ≤ waiting q c.read w) on.size_is (ready_needs ring c w now)

    header_same : header_at ring c ≡ header_at all c
    unfolding waiting
    header_same = agree c.read (on_read on) (omega (arith, waits, needs_some ring c, waits_from on))

    abbrev start : Bool
    start = bad_start (wants c.place) (header_at ring c)

    -- the count word waits, where none of 21, 30 and 31 applies
    count_same : start ≡ false → counted_at ring c ≡ counted_at all c
    count_same b =
        word_same c on (count_place (kind_of (header_at ring c))) (omega (arith, waits, needs_judged ring c b)) ∙ rw header_same

    number_same : header_refusal ring c ≡ header_refusal all c
    unfolding header_refusal
    number_same = go start refl
      where
        go : (b : Bool) → start ≡ b → header_refusal ring c ≡ header_refusal all c
        go true b = rw header_same (start_first (bad_header (header_at all c)) _ _ _ _ (rw header_same at b))
        go false b = rw (count_same b, header_same)

    -- where the header refuses nothing none of them applies
    good_start : header_refusal ring c ≡ 0 → start ≡ false
    good_start z = let g = (good_header ring c).0 z in rw (g.0, g.1.0, g.1.1.0)

    needed_same : needed ring c ≡ needed all c
    unfolding needed
    needed_same = go (header_refusal ring c =? 0) refl
      where
        go : (b : Bool) → header_refusal ring c =? 0 ≡ b → needed ring c ≡ needed all c
        go true b = rw (b, ← number_same, b, count_same (good_start (eqb-true _ _ b)), header_same)
        go false b = rw (b, ← number_same, b, header_same)

    ready_same : ready all c w ≡ true
    unfolding ready
    ready_same = rw needed_same at now

    module _ (good : header_refusal ring c ≡ 0) where
      -- all its words wait
      own_same : (k : ℕ) → k < length_at ring c → word_at ring c.read k ≡ word_at all c.read k
      own_same k h = go (needs_of ring c)
        where
          go : Needs ring c → word_at ring c.read k ≡ word_at all c.read k
          go (its_header b e) = absurd (b ((good_header ring c).0 good))
          go (all_words g e l) = word_same c on k (omega (arith, waits))

      enabled_same : enabled ring c.read (header_at ring c) c.registers ≡ enabled all c.read (header_at ring c) c.registers
      enabled_same =
          words_same ring all c.read (header_at ring c) (word_registers (kind_of (header_at ring c))) 0 c.registers
          (λ j h. own_same (0 + j + 1) (omega (arith, registers_length (kind_of (header_at ring c)) (counted_at ring c))))

      loaded_same : loaded_at ring c ≡ loaded_at all c
      unfolding loaded
      loaded_same = rw (enabled_same, count_same (good_start good), header_same)

      table_same : (table : List ℕ) → table_after ring c table ≡ table_after all c table
      unfolding table_after loaded_table
      table_same table = rw enabled_same (go (kind_of (header_at ring c)) refl _ ∙ rw header_same)
        where
          go : (k : Kind) → kind_of (header_at ring c) ≡ k → (index : ℕ)
              → filled k ring c.read index table ≡ filled k all c.read index table
          go Blt e index = refl
          go Vector e index = refl
          go Data e index = refl
          go Table e index =
              let counted = count_word Table ring c.read in
              let l : length_at ring c ≡ 3 + data_count counted = ap (λ (k : Kind). command_length k (count_word k ring c.read)) e in
              data_same ring all c.read 3 (data_count counted) index table (λ j h. own_same (3 + j) (omega arith))
              ∙ ap (λ (x : ℕ). data_stored all c.read 3 (data_count x) index table) (own_same 2 (omega arith))

    abbrev others_at : List ℕ → List Rule
    others_at words = drawn_rules (drawn_by (header_at words c)) (loaded_at words c) c.framelength

    refusal_same : command_refusal ring c ≡ command_refusal all c
    refusal_same = command_first ring c ∙ go (header_refusal all c =? 0) refl number_same ∙ sym (command_first all c)
      where
        go : (b : Bool) → header_refusal all c =? 0 ≡ b → header_refusal ring c ≡ header_refusal all c
            → (if header_refusal ring c =? 0 then first (others_at ring) else header_refusal ring c)
            ≡ (if header_refusal all c =? 0 then first (others_at all) else header_refusal all c)
        go false e p = rw (p, e)
        go true e p = rw (p, e, loaded_same (p ∙ eqb-true _ _ e), header_same)

    core_same : command_refusal ring c ≡ 0 → accepted_core ring c ≡ accepted_core all c
    unfolding loaded_core taken_core
    core_same z =
        let good = accepted_header ring c z in rw (loaded_same good, count_same (good_start good), header_same)

  pub unit_same : (m : Machine) → OnRun n o f w m.core → possible ring m.core w ≡ true
      → (possible all m.core w ≡ true) × (unit ring m ≡ unit all m)
  unit_same m on e = go (step_of ring m)
    where
      c : Core
      c = m.core

      z : c.stop ≡ 0
      z = possible_running ring c w e

      accepted : drawing c.place ≡ false → command_refusal ring c ≡ 0 → (possible all c w ≡ true) × (unit ring m ≡ unit all m)
      accepted p h =
          let r = possible_ready ring c w p e in (
            idle_possible all c w z p ∙ ready_same c on r,
            unit_accepts ring m p h
                ∙ ap (λ (d : Core). machine d (table_after ring c m.table) m.frame) (core_same c on r h)
                ∙ ap (λ (t : List ℕ). machine (accepted_core all c) t m.frame) (table_same c on r (accepted_header ring c h) m.table)
                ∙ sym (unit_accepts all m p (sym (refusal_same c on r) ∙ h)),
          )

      go : Step ring m → (possible all c w ≡ true) × (unit ring m ≡ unit all m)
      go (loads p h d u) = accepted p h
      go (takes p h d u) = accepted p h
      go (refuses p h u) =
          let r = possible_ready ring c w p e in
          let same = refusal_same c on r in (
            idle_possible all c w z p ∙ ready_same c on r,
            u ∙ ap (λ (k : ℕ). machine (stopped c k) m.table m.frame) same ∙ sym (unit_refuses all m p (λ q. h (same ∙ q))),
          )
      go (draws primitive k p u) = (drawing_possible all c w z (ap drawing p), u ∙ sym (unit_draws all m primitive k p))
      go (feeds k feed p u) = (
        drawing_possible all c w z (ap drawing p),
        u ∙ ap (λ (x : ℕ). machine (fed_core c (k + 1) feed) m.table (draw_host c.registers m.table k x m.frame))
            (fed_same c on k feed (fed_fit c w on.fit k feed p))
            ∙ sym (unit_feeds all m k feed p),
      )

  -- ---- a run with the write pointer at w is as many units with the final pointer in

  pub record Taken (used : ℕ) (m : Machine) (d : Done) : Type 0 where
    pub count : ℕ
    pub used_is : d.used ≡ used + count
    pub same : units all f count used m ≡ d
    pub stays : OnRun n o f w d.machine.core

  pub units_taken : (k used : ℕ) (m : Machine) → OnRun n o f w m.core → Taken used m (units ring w k used m)
  units_taken =
      units_each ring w (λ k used m d. OnRun n o f w m.core → Taken used m d)
      none (λ k used m e. none used m)
      (λ k used m d e i on.
      let t = i (unit_on n o f w ring m on e) in
      let s = unit_same m on e in
      let p = possible_later all m.core w f (waits_more m on) s.0 in
      record {
        count = suc t.count;
        used_is = t.used_is ∙ omega arith;
        same = units_step all f t.count used m p ∙ ap (units all f t.count (used + 1)) (sym s.1) ∙ t.same;
        stays = t.stays;
      })
    where
      none : (used : ℕ) (m : Machine) → OnRun n o f w m.core → Taken used m (done m used)
      none used m on = record { count = 0; used_is = sym (add-zero used); same = units_zero all f used m; stays = on }

      waits_more : (m : Machine) → OnRun n o f w m.core
          → waiting m.core.ringlength m.core.read w ≤ waiting m.core.ringlength m.core.read f
      waits_more m on =
          subst (λ (q : ℕ). waiting q m.core.read w ≤ waiting q m.core.read f) (sym on.size_is) (unfold waiting in waits_later on)

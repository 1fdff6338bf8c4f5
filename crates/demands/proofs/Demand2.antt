-- What is proved of specs/Demand2.
use Rattle.std.specs.Prelude.{ℕ, zero, suc, ◌+◌, ◌-◌, ◌<◌, ◌≡◌, refl, Bool, true, false, ◌||◌, List, if◌then◌else◌}
use Rattle.std.proofs.Math.Path.{sym, ap}
use Rattle.std.proofs.Common.{◌∙◌, arith, add-zero, leb-true, leb-false}
use Rattle.std.proofs.lemmas.Bool.{lt-leb, not-false}
use Rattle.model.specs.Choice.{◌≤?◌, ◌=?◌}
use Rattle.model.proofs.Choice.{not_both, neither, nonzero}
use Rattle.model.specs.Registers.{width}
use Rattle.model.specs.Ring.{word_at}
use Rattle.model.specs.Lookup.{data_count}
use Rattle.model.specs.Command.{kind_of, is_data, filled, loaded_table}
use Rattle.model.specs.Host.{host_word, draw_host}
use Rattle.model.specs.Unit.{Machine, header_at, counted_at, command_refusal, table_after, taken_core, pixel_count, drawn_core, fed_word, fed_core, unit, wants, drawing, possible, units, done, times}
use Rattle.model.specs.Steps.{machine, Step, loads, takes, refuses, draws, feeds}
use Rattle.model.proofs.Steps.{step_of}
use Rattle.model.specs.Calls.{unfit, run_units, run, run_frame, ran_answer, machine_of}
use Rattle.model.specs.declared.Core.{Core}
use Rattle.model.specs.declared.State.{State}
use Rattle.model.specs.declared.Feed.{Feed}
use Rattle.model.specs.declared.Kind.{Kind}
use Rattle.model.specs.declared.Kind.TheVariants.{Blt, Vector, Table, Data}
use Rattle.model.specs.declared.Primitive.TheVariants.{Blt as BltPrimitive}
use Rattle.model.specs.declared.Place.TheVariants.{Idle, Wanting, Fed}
use Rattle.laws.specs.Units.{unit_accepts, unit_draws, unit_feeds, units_zero, units_stop, units_step, units_add, units_shift}
use Rattle.laws.specs.Fit.{FitFed, fit_parts, wanting_fit, fed_fit, accepted_header, accepted_count, judged_wide}
use Rattle.laws.specs.Host.{host_rises}
use Rattle.laws.specs.HostWords.{host_step, host_zero, every_word}
use Rattle.demands.proofs.Waits.{good_header}
use Rattle.demands.specs.Demand2.{Counted, RunCounted, RunIs, BudgetsAdd, LoadPaintsNothing, PixelPaints, TakesData, past, FedPaints, Feeds, Demand2}

-- ---- the proof

counted_units : (ring : List ℕ) (w n : ℕ) (m : Machine) → Counted ring w n m (units ring w n 0 m)
counted_units ring w zero m =
    rw (units_zero ring w 0 m)
    (record { fold = refl; each_possible = λ k h. absurd (omega arith); within = omega arith; at_rest = λ h. absurd (omega arith) })
counted_units ring w (suc n) m = go (possible ring m.core w) refl (counted_units ring w n (unit ring m))
  where
    go : (b : Bool) → possible ring m.core w ≡ b → Counted ring w n (unit ring m) (units ring w n 0 (unit ring m))
        → Counted ring w (suc n) m (units ring w (suc n) 0 m)
    go false e i =
        rw (units_stop ring w (suc n) 0 m e)
        (record { fold = refl; each_possible = λ k h. absurd (omega arith); within = omega arith; at_rest = λ h. e })
    go true e i =
        let d = units ring w n 0 (unit ring m) in
        let s : units ring w (suc n) 0 m ≡ done d.machine (suc d.used) =
        units_step ring w n 0 m e ∙ units_shift ring w n 1 0 (unit ring m) ∙ ap (done d.machine) (omega arith) in
        rw s
        (record {
          fold = i.fold;
          each_possible = each e i.each_possible;
          within = let h = i.within in omega arith;
          at_rest = λ h. i.at_rest (omega arith);
        })
      where
        each : possible ring m.core w ≡ true
            → ((k : ℕ) → k < (units ring w n 0 (unit ring m)).used → possible ring (times ring k (unit ring m)).core w ≡ true)
            → (k : ℕ) → k < suc (units ring w n 0 (unit ring m)).used → possible ring (times ring k m).core w ≡ true
        each e f zero h = e
        each e f (suc k) h = f k (omega arith)

run_counted : RunCounted
unfolding run_units
run_counted ring s frame budget = counted_units ring s.write budget (machine_of s frame)

run_is : RunIs
unfolding run run_frame ran_answer
run_is ring s frame budget e = (rw e, rw e, rw e)

budgets_add : BudgetsAdd
budgets_add ring w a b m =
    let first = units ring w a 0 m in
    units_add ring w a b 0 m
    ∙ ap (λ (n : ℕ). units ring w b n first.machine) (sym (add-zero first.used))
    ∙ units_shift ring w b first.used 0 first.machine

load_paints_nothing : LoadPaintsNothing
load_paints_nothing ring m p = go (step_of ring m)
  where
    go : Step ring m → (unit ring m).frame ≡ m.frame
    go (loads q e d u) = rw u
    go (takes q e d u) = rw u
    go (refuses q n u) = rw u
    go (draws primitive k q u) = absurd (not_both _ (ap drawing q) p)
    go (feeds k feed q u) = absurd (not_both _ (ap drawing q) p)

module _ (ring : List ℕ) (m : Machine) (idle : drawing m.core.place ≡ false) where
  loads_data : command_refusal ring m.core ≡ 0 → (unit ring m).table ≡ table_after ring m.core m.table
  loads_data e = ap (λ (k : Machine). k.table) (unit_accepts ring m idle e)

  others_leave : (command_refusal ring m.core ≡ 0 → kind_of (header_at ring m.core) ≡ Table → ⊥) → (unit ring m).table ≡ m.table
  unfolding table_after loaded_table
  others_leave other = go (step_of ring m)
    where
      c : Core
      c = m.core

      left : (k : Kind) (index : ℕ) → (k ≡ Table → ⊥) → filled k ring c.read index m.table ≡ m.table
      left Blt index n = refl
      left Vector index n = refl
      left Table index n = absurd (n refl)
      left Data index n = refl

      go : Step ring m → (unit ring m).table ≡ m.table
      go (loads p e d u) = rw u (left (kind_of (header_at ring c)) _ (other e))
      go (takes p e d u) = rw u (left (kind_of (header_at ring c)) _ (other e))
      go (refuses p n u) = rw u
      go (draws primitive k p u) = rw u
      go (feeds k feed p u) = rw u

pixel_paints : PixelPaints
unfolding drawn_core
pixel_paints ring m primitive k p = rw (unit_draws ring m primitive k p) (refl, refl, refl, refl, refl)

-- ---- pictures sent through the ring

-- 30 refuses every other command while a BLT wants data
accepted_data : (ring : List ℕ) (c : Core) → command_refusal ring c ≡ 0 → wants c.place ≡ true
    → is_data (kind_of (header_at ring c)) ≡ true
accepted_data ring c a p =
    not-false (is_data (kind_of (header_at ring c))) (rw p at ((good_header ring c).0 (accepted_header ring c a)).1.0)

takes_data_holds : TakesData
unfolding taken_core
takes_data_holds ring m k p a =
    let c = m.core in
    let idle = ap drawing p in
    let wanted = accepted_data ring c a (ap wants p) in
    let u : unit ring m ≡ machine (taken_core ring c) (table_after ring c m.table) m.frame =
    rw wanted at (unit_accepts ring m idle a) in
    let table = others_leave ring m idle (λ e t. not_both _ wanted (ap is_data t)) in
    rw u (rw p, refl, rw u at table, refl, refl, refl)

fed_paints : FedPaints
unfolding fed_core fed_word
fed_paints ring m k feed p = rw (unit_feeds ring m k feed p) (refl, refl, refl, refl, refl, refl)

module _ (ring : List ℕ) (s : State) (frame : List ℕ) (k : ℕ) (feed : Feed) (accepted : unfit s ≡ false)
    (fed : s.core.place ≡ Fed k feed) where
  abbrev c : Core
  c = s.core

  abbrev at : ℕ → ℕ
  at = host_word c.registers

  abbrev beyond : Bool
  beyond = feed.before + feed.count ≤? at (k + 1)

  abbrev last : Bool
  last = pixel_count BltPrimitive c.registers ≤? k + 1

  fit : FitFed c s.write k feed
  fit = fed_fit c s.write (fit_parts s accepted) k feed fed

  wide : 0 < width c.registers
  wide = judged_wide c.registers c.framelength fit.pixel.judged

  passed : (b : Bool) → last || beyond ≡ b → (unit ring (machine_of s frame)).core.read ≡ (if b then past c feed else c.read)
  passed b e = (fed_paints ring (machine_of s frame) k feed fed).3 ∙ rw e

  passes : ((j : ℕ) → k < j → Feeds c.registers feed j → ⊥) → (unit ring (machine_of s frame)).core.read ≡ past c feed
  passes none = passed true (go last beyond refl refl)
    where
      go : (a b : Bool) → last ≡ a → beyond ≡ b → last || beyond ≡ true
      go true b e d = rw e
      go false true e d = rw (e, d)
      go false false e d =
          absurd (none (k + 1) (omega arith)
          (record {
            pixel = leb-false _ _ e;
            begun = omega (arith, fit.begun, host_rises c.registers k 1 wide);
            reached = leb-false _ _ d;
          }))

  stays : (j : ℕ) → k < j → Feeds c.registers feed j → (unit ring (machine_of s frame)).core.read ≡ c.read
  stays j l f =
      let d : k + 1 + (j - (k + 1)) ≡ j = omega arith in
      let later = rw d at (host_rises c.registers (k + 1) (j - (k + 1)) wide) in
      passed false
      (rw (
        lt-leb (pixel_count BltPrimitive c.registers) (k + 1) (omega (arith, f.pixel)),
        lt-leb (feed.before + feed.count) (at (k + 1)) (omega (arith, f.reached)),
      ))

  not_read_again : (other : List ℕ)
      → ((i : ℕ) → i < feed.count → word_at ring c.read (2 + i) ≡ word_at other c.read (2 + i))
      → unit ring (machine_of s frame) ≡ unit other (machine_of s frame)
  unfolding fed_word
  not_read_again other same =
      unit_feeds ring (machine_of s frame) k feed fed
      ∙ ap (λ (x : ℕ). machine (fed_core c (k + 1) feed) s.table (draw_host c.registers s.table k x frame))
      (same (at k - feed.before) (omega (arith, fit.begun, fit.feeding)))
      ∙ sym (unit_feeds other (machine_of s frame) k feed fed)

  none_skipped : (unit ring (machine_of s frame)).core.place ≡ Wanting (k + 1) → at (k + 1) ≡ feed.before + feed.count
  none_skipped e = go last beyond refl refl (sym (fed_paints ring (machine_of s frame) k feed fed).5 ∙ e)
    where
      go : (a b : Bool) → last ≡ a → beyond ≡ b
          → (if last then Idle else if last || beyond then Wanting (k + 1) else Fed (k + 1) feed) ≡ Wanting (k + 1)
          → at (k + 1) ≡ feed.before + feed.count
      go false true ea eb q =
          let l = leb-true (feed.before + feed.count) (at (k + 1)) eb in
          let next = host_step c.registers c.framelength fit.pixel.judged fit.host k fit.pixel.within in
          omega (arith, fit.feeding)
      go false false ea eb q =
          let t : Fed (k + 1) feed ≡ Wanting (k + 1) = rw (ea, eb) at q in let z : ◌≡◌ {A = ℕ} 0 1 = cc in absurd (omega arith)
      go true b ea eb q = let t : Idle ≡ Wanting (k + 1) = rw ea at q in let z : ◌≡◌ {A = ℕ} 0 1 = cc in absurd (omega arith)

feeds_next : (ring : List ℕ) (s : State) (frame : List ℕ) (k : ℕ) → unfit s ≡ false → s.core.place ≡ Wanting k
    → command_refusal ring s.core ≡ 0
    → (feed : Feed) × ((unit ring (machine_of s frame)).core.place ≡ Fed k feed) × Feeds s.core.registers feed k
feeds_next ring s frame k accepted wanting a =
    let c = s.core in
    let fit = wanting_fit c s.write (fit_parts s accepted) k wanting in
    let good = accepted_count ring c a (accepted_data ring c a (ap wants wanting)) in
    let some = nonzero (data_count (counted_at ring c)) (neither (data_count (counted_at ring c) =? 0) _ good).0 in (
      _,
      (takes_data_holds ring (machine_of s frame) k wanting a).0,
      record { pixel = fit.pixel.within; begun = omega arith; reached = omega arith },
    )

pub demand2 : Demand2
demand2 = record {
  run_counted = run_counted;
  run_is = run_is;
  budgets_add = budgets_add;
  load_paints_nothing = load_paints_nothing;
  load_fills = record { loads_data = loads_data; others_leave = others_leave };
  pixel_paints = pixel_paints;
  takes_data_holds = takes_data_holds;
  fed_paints = fed_paints;
  host_data = record {
    fed = λ ring s frame k feed accepted p. record {
      passes = passes ring s frame k feed accepted p;
      stays = stays ring s frame k feed accepted p;
      not_read_again = not_read_again ring s frame k feed accepted p;
      none_skipped = none_skipped ring s frame k feed accepted p;
    };
    feeds_next = feeds_next;
    first_word = host_zero;
    every_word_feeds = every_word;
  };
}

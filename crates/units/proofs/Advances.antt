-- One turn of a run: the load of a command, or a span of pixels, takes as many units of the budget as it says.
use Rattle.std.proofs.Common.{◌≡◌, ℕ, zero, suc, ◌+◌, ◌-◌, ◌<◌, ◌≤◌, Bool, true, false, not, List, length, sym, refl, ap, ◌∙◌, add-zero, arith, ne_eqb, eqb-true}
use borrow.Author.Tests.{eqb-false}
use Rattle.std.proofs.Common.{⊎_elim}
use Rattle.std.specs.Bool.{then_some}
use Rattle.std.specs.Prelude.{if◌then◌else◌}
use Rattle.laws.specs.Numbers.{less_or_not}
use Rattle.model.specs.Choice.{◌=?◌}
use Rattle.model.proofs.Choice.{not_both}
use Rattle.model.specs.Host.{host_word}
use Rattle.model.specs.Unit.{Machine, command_refusal, pixel_count, draw_pixel, unit, ready, drawing, possible, units, Done, done}
use Rattle.model.specs.Steps.{machine}
use Rattle.model.specs.declared.Core.{Core}
use Rattle.model.specs.declared.Feed.{Feed}
use Rattle.model.specs.declared.Primitive.{Primitive}
use Rattle.model.specs.declared.Primitive.TheVariants.{Blt}
use Rattle.model.specs.declared.Place.TheVariants.{Drawing, Fed}
use Rattle.laws.specs.Units.{unit_accepts, unit_refuses, idle_possible, units_zero, units_stop, units_step, units_each, units_shift}
use Rattle.laws.specs.Fit.{drawing_fit, fed_fit}
use Rattle.laws.specs.WellFormed.{WellFormed, wellformed_unit, wellformed_units, length_pixel, length_host}
use Rattle.laws.specs.Order.{order_length}
use Rattle.laws.specs.Spans.{drawn_machine, units_span, fed_machine, units_fed}
use Rattle.units.specs.Turns.{FitCore, load_unit, table_unit, command_core, command_table, Painted, FedOn, hosts, Advanced, Rests, Onward, Going, Plain, Finished}

pub fit_core : (ring : List ℕ) (w : ℕ) (m : Machine) → WellFormed ring w m → FitCore m.core w (length ring)
fit_core ring w m h = record {
  ring_least_holds = h.fit.lengths.ring_least_holds;
  ring_most_holds = h.fit.lengths.ring_most_holds;
  read_in = h.fit.read_in;
  write_in = h.fit.write_in;
  ring_is = h.ring_is;
}

unit_idle : (ring : List ℕ) (m : Machine) → drawing m.core.place ≡ false
    → unit ring m ≡ machine (load_unit ring m.core) (table_unit ring m.core m.table) m.frame
unfolding load_unit table_unit
unit_idle ring m p = go (command_refusal ring m.core =? 0) refl
  where
    go : (b : Bool) → command_refusal ring m.core =? 0 ≡ b
        → unit ring m ≡ machine (load_unit ring m.core) (table_unit ring m.core m.table) m.frame
    go true e = rw e (unit_accepts ring m p (eqb-true _ _ e))
    go false e = rw e (unit_refuses ring m p (eqb-false _ _ e))

module _ (ring : List ℕ) (w : ℕ) (m : Machine) (left : ℕ) where
  -- an engine with no budget left does nothing, nor does a stopped one, nor one of another sort
  pub spent_rests : {Sort : Type 0} → left ≡ 0 → Rests Sort ring w m m left
  spent_rests z = record { no_more = λ l. absurd (omega arith); kept = refl }

  pub stop_rests : {Sort : Type 0} → (m.core.stop ≡ 0 → ⊥) → Rests Sort ring w m m left
  stop_rests z = record { no_more = λ l s. unfold possible in rw (ne_eqb _ _ z); kept = refl }

  pub sort_rests : {b : Bool} → hosts m.core.place ≡ b → Rests (hosts m.core.place ≡ not b) ring w m m left
  sort_rests e = record { no_more = λ l s. absurd (differ _ (sym e ∙ s)); kept = refl }
    where
      differ : (b : Bool) → b ≡ not b → ⊥
      differ true p = not_both true refl p
      differ false p = not_both false (sym (sym p)) refl

  -- the unit of an engine that draws nothing, or none
  pub command_advanced : (Sort : Type 0) → WellFormed ring w m → m.core.stop ≡ 0 → drawing m.core.place ≡ false → 0 < left
      → {taken : Bool} {d : Core} {table : List ℕ} → taken ≡ ready ring m.core w
      → d ≡ command_core ring m.core w → table ≡ command_table ring m.core w m.table
      → Advanced Sort ring w m (machine d table m.frame) left (then_some taken 1)
  unfolding command_core command_table
  command_advanced Sort h z p l e d t = rw (e, d, t) (go (ready ring c w) refl)
    where
      c : Core
      c = m.core

      u : unit ring m ≡ machine (load_unit ring c) (table_unit ring c m.table) m.frame
      u = unit_idle ring m p

      go : (b : Bool) → ready ring c w ≡ b
          → Advanced Sort ring w m
          (machine (if b then load_unit ring c else c) (if b then table_unit ring c m.table else m.table) m.frame) left (then_some b 1)
      go true r =
          let q : possible ring c w ≡ true = idle_possible ring c w z p ∙ r in
          let x : left ≡ suc (left - 1) = omega arith in
          record {
            some = omega arith;
            most = l;
            wellformed = rw u at (wellformed_unit ring w m h q);
            length_kept = refl;
            same = λ k.
                ap (λ (y : ℕ). units ring w y k m) x ∙ units_step ring w (left - 1) k m q ∙ ap (units ring w (left - 1) (k + 1)) u;
          }
      go false r = record { no_more = λ l s. idle_possible ring c w z p ∙ r; kept = refl }

  -- n + 1 units that come to a machine
  done_onward : WellFormed ring w m → (n : ℕ) (after : Machine) → suc n ≤ left
      → ((more used : ℕ) → units ring w (suc n + more) used m ≡ units ring w more (used + suc n) after)
      → length after.frame ≡ length m.frame → Onward ring w m after left (suc n)
  done_onward h n after l steps same =
      let all : units ring w (suc n) 0 m ≡ done after (suc n) =
      ap (λ (x : ℕ). units ring w x 0 m) (sym (add-zero (suc n)))
      ∙ steps 0 0
      ∙ units_zero ring w (0 + suc n) after
      ∙ ap (done after) (omega arith) in
      record {
        some = omega arith;
        most = l;
        wellformed = rw all at (wellformed_units ring w (suc n) 0 m h);
        length_kept = same;
        same = λ u.
            let e : left ≡ suc n + (left - suc n) = omega arith in
            ap (λ (x : ℕ). units ring w x u m) e ∙ steps (left - suc n) u;
      }

  span_onward : WellFormed ring w m → (primitive : Primitive) (k n : ℕ) → m.core.place ≡ Drawing primitive k
      → 0 < n → n ≤ left → k + n ≤ pixel_count primitive m.core.registers → Onward ring w m (drawn_machine m primitive k n) left n
  span_onward h primitive k zero p z l q = elim z [ ]
  span_onward h primitive k (suc n) p z l q =
      let running = (drawing_fit m.core w h.fit primitive k p).running in
      done_onward h n (drawn_machine m primitive k (suc n)) l (λ more used. units_span ring w n more used m primitive k running p q)
      (order_length (draw_pixel primitive m.core.registers m.table) (length_pixel primitive m.core.registers m.table) (suc n) k m.frame)

  -- the same of pixels that a data command feeds
  fed_onward : WellFormed ring w m → (k : ℕ) (feed : Feed) (n : ℕ) → m.core.place ≡ Fed k feed
      → 0 < n → n ≤ left → k + n ≤ pixel_count Blt m.core.registers
      → ((x : ℕ) → x < n → host_word m.core.registers (k + x) < feed.before + feed.count)
      → Onward ring w m (fed_machine ring m k feed n) left n
  fed_onward h k feed zero p z l q f = elim z [ ]
  fed_onward h k feed (suc n) p z l q f =
      let running = (fed_fit m.core w h.fit k feed p).pixel.running in
      done_onward h n (fed_machine ring m k feed (suc n)) l (λ more used. units_fed ring w n more used m k feed running p q f)
      (order_length _ (λ k. length_host _ _ k _) (suc n) k m.frame)

  pub fed_on_onward : WellFormed ring w m → {k : ℕ} {feed : Feed} → m.core.place ≡ Fed k feed
      → {d : Core} {after : List ℕ} {used : ℕ} → FedOn ring m.core k feed m.table m.frame after left d used
      → Onward ring w m (machine d m.table after) left used
  fed_on_onward h p x =
      rw (x.core_is, x.frame_is) (fed_onward h _ _ _ p x.some x.most x.within x.feeding)

  pub painted_onward : WellFormed ring w m → {primitive : Primitive} {k : ℕ} → m.core.place ≡ Drawing primitive k
      → {d : Core} {after : List ℕ} {used : ℕ} → Painted m.core primitive k m.table m.frame after left d used
      → Onward ring w m (machine d m.table after) left used
  painted_onward h p x = rw (x.core_is, x.frame_is) (span_onward h _ _ _ p x.some x.most x.within)

-- ---- budgets

module _ {ring : List ℕ} {w : ℕ} {before : Machine} {budget : ℕ} where
  pub going_start : WellFormed ring w before → Going ring w before before budget 0
  going_start h = record {
    most = omega arith;
    wellformed = h;
    length_kept = refl;
    same = ap (λ (x : ℕ). units ring w x 0 before) (omega arith);
  }

  module _ {now : Machine} {used : ℕ} (going : Going ring w before now budget used) where
    -- the same, counted on from another number
    going_from : (u : ℕ) → units ring w budget u before ≡ units ring w (budget - used) (u + used) now
    going_from u =
        let e = going.same in
        let z : u + 0 ≡ u = omega arith in
        rw z at (units_shift ring w budget u 0 before)
        ∙ ap (λ (d : Done). done d.machine (u + d.used)) e
        ∙ sym (units_shift ring w (budget - used) u used now)

    pub going_then : {after : Machine} {n : ℕ} → Going ring w now after (budget - used) n → Going ring w before after budget (used + n)
    going_then {after} {n} next =
        let e : budget - used - n ≡ budget - (used + n) = omega arith in
        record {
          most = let g = going.most in let h = next.most in omega arith;
          wellformed = next.wellformed;
          length_kept = next.length_kept ∙ going.length_kept;
          same = going.same ∙ next_from next ∙ ap (λ (x : ℕ). units ring w x (used + n) after) e;
        }
      where
        next_from : Going ring w now after (budget - used) n
            → units ring w (budget - used) used now ≡ units ring w (budget - used - n) (used + n) after
        next_from next =
            let z : used + 0 ≡ used = omega arith in
            rw z at (units_shift ring w (budget - used) used 0 now)
            ∙ ap (λ (d : Done). done d.machine (used + d.used)) next.same
            ∙ sym (units_shift ring w (budget - used - n) used n after)

    pub going_on : {after : Machine} {n : ℕ} → Onward ring w now after (budget - used) n → Going ring w before after budget (used + n)
    going_on {after} {n} next =
        let e : budget - used - n ≡ budget - (used + n) = omega arith in
        record {
          most = let g = going.most in let h = next.most in omega arith;
          wellformed = next.wellformed;
          length_kept = next.length_kept ∙ going.length_kept;
          same = going.same ∙ next.same used ∙ ap (λ (x : ℕ). units ring w x (used + n) after) e;
        }

    pub plain_rests : {after : Machine} → Rests (hosts now.core.place ≡ false) ring w now after (budget - used)
        → Plain ring w before after budget used
    plain_rests r = rw r.kept (record { going = going; rests = λ l p. r.no_more (omega arith) p })

    finished : budget ≤ used → Finished ring w before now budget used
    finished h =
        let e : budget - used ≡ 0 = omega arith in
        record {
          wellformed = going.wellformed;
          same = going.same ∙ ap (λ (x : ℕ). units ring w x used now) e ∙ units_zero ring w used now;
        }

  module _ {now : Machine} {used : ℕ} where
    pub plain_then : Going ring w before now budget used → {after : Machine} {n : ℕ} → Plain ring w now after (budget - used) n
        → Plain ring w before after budget (used + n)
    plain_then going next = record { going = going_then going next.going; rests = λ l p. next.rests (omega arith) p }

    pub finished_rests : Plain ring w before now budget used → {after : Machine}
        → Rests (hosts now.core.place ≡ true) ring w now after (budget - used) → Finished ring w before after budget used
    finished_rests plain r = rw r.kept (⊎_elim more (finished plain.going) (less_or_not used budget))
      where
        rest : used < budget → (b : Bool) → hosts now.core.place ≡ b → possible ring now.core w ≡ false
        rest l true e = r.no_more (omega arith) e
        rest l false e = plain.rests l e

        more : used < budget → Finished ring w before now budget used
        more l = record {
          wellformed = plain.going.wellformed;
          same = plain.going.same ∙ units_stop ring w (budget - used) used now (rest l (hosts now.core.place) refl);
        }

-- some, and then as many as could be
going_of : {ring : List ℕ} {w : ℕ} {before now : Machine} {left n : ℕ} → Onward ring w before now left n → Going ring w before now left n
going_of {n} o =
    let e : 0 + n ≡ n = omega arith in
    record { most = o.most; wellformed = o.wellformed; length_kept = o.length_kept; same = rw e at (o.same 0) }

pub stepped_some : {ring : List ℕ} {w : ℕ} {before now after : Machine} {left n more : ℕ} → Onward ring w before now left n
    → Plain ring w now after (left - n) more → (0 < n + more) × Plain ring w before after left (n + more)
stepped_some o plain = (omega (arith, o.some), plain_then (going_of o) plain)

-- what is left to do
pub plain_restart : {ring : List ℕ} {w : ℕ} {before now : Machine} {budget used : ℕ} → Plain ring w before now budget used
    → Plain ring w now now (budget - used) 0
plain_restart p = record { going = going_start p.going.wellformed; rests = λ l h. p.rests (omega arith) h }

pub finished_then : {ring : List ℕ} {w : ℕ} {before now after : Machine} {budget used n : ℕ} → Going ring w before now budget used
    → Finished ring w now after (budget - used) n → Finished ring w before after budget (used + n)
finished_then {ring} {w} {now = now} {after} {budget} {used} {n} going f = record {
  wellformed = f.wellformed;
  same = going.same ∙ (let z : used + 0 ≡ used = omega arith in rw z at (units_shift ring w (budget - used) used 0 now)
      ∙ ap (λ (d : Done). done d.machine (used + d.used)) f.same);
}

-- no more than the budget is done
units_most : (ring : List ℕ) (w n used : ℕ) (m : Machine) → (units ring w n used m).used ≤ used + n
units_most ring w =
    units_each ring w (λ n used m d. d.used ≤ used + n) (λ used m. omega arith) (λ n used m e. omega arith) (λ n used m d e i. omega arith)

pub finished_most : {ring : List ℕ} {w : ℕ} {before after : Machine} {budget used : ℕ} → Finished ring w before after budget used → used ≤ budget
finished_most {ring} {w} {before} {budget = budget} f =
    let e = ap (λ (d : Done). d.used) f.same in
    let l = units_most ring w budget 0 before in
    omega arith

-- Several pixels of one command at once are as many units.
use Rattle.std.specs.Prelude.{ℕ, zero, suc, ◌+◌, ◌≤◌, ◌<◌, ◌≡◌, refl, true, List}
use Rattle.std.proofs.Common.{sym, ap, ◌∙◌, arith, add-one, suc-add, zero-add, add-zero}
use borrow.Author.Tests.{lt-leb}
use Rattle.model.specs.Host.{host_word, draw_host}
use Rattle.model.specs.Unit.{Machine, drawing, pixel_count, draw_pixel, drawn_core, fed_word, fed_core, unit, possible, units}
use Rattle.model.specs.Steps.{machine}
use Rattle.model.specs.declared.Core.{Core}
use Rattle.model.specs.declared.Feed.{Feed}
use Rattle.model.specs.declared.Primitive.{Primitive}
use Rattle.model.specs.declared.Primitive.TheVariants.{Blt}
use Rattle.model.specs.declared.Place.TheVariants.{Drawing, Fed}
use Rattle.laws.specs.Units.{unit_draws, unit_feeds, drawing_possible, units_step}
use Rattle.laws.specs.Order.{in_order, pixels, order_zero, order_last}

-- machines each of which is one unit from the last
pub units_along : (ring : List ℕ) (w n more used : ℕ) (at : ℕ → Machine)
    → ((j : ℕ) → j < n → (possible ring (at j).core w ≡ true) × (unit ring (at j) ≡ at (j + 1)))
    → units ring w (n + more) used (at 0) ≡ units ring w more (used + n) (at n)
units_along ring w zero more used at h = rw (zero-add, add-zero)
units_along ring w (suc n) more used at h =
    let s = h 0 (omega arith) in
    let z : 0 + 1 ≡ 1 = omega arith in
    let u : used + 1 + n ≡ used + suc n = omega arith in
    let i = units_along ring w n more (used + 1) (λ j. at (j + 1)) (λ j l. h (j + 1) (omega arith)) in
    rw suc-add
    (units_step ring w (n + more) used (at 0) s.0 ∙ ap (units ring w (n + more) (used + 1)) s.1 ∙ i
    ∙ rw (u, add-one n))

-- ---- a BLT or a vector that is drawn by itself

-- the machine once pixels k to k + n - 1 are drawn
abbrev pub drawn_machine : Machine → Primitive → ℕ → ℕ → Machine
drawn_machine m primitive k n =
    machine (drawn_core m.core primitive (k + n)) m.table (pixels primitive m.core.registers m.table k n m.frame)

module _ (c : Core) (primitive : Primitive) (j : ℕ) (l : j < pixel_count primitive c.registers) where
  -- a place further on in the same command does not depend on where it was
  again : (k : ℕ) → drawn_core (drawn_core c primitive j) primitive k ≡ drawn_core c primitive k
  unfolding drawn_core
  again k = rw (lt-leb (pixel_count primitive c.registers) j l)

  drawn_place : (drawn_core c primitive j).place ≡ Drawing primitive j
  unfolding drawn_core
  drawn_place = rw (lt-leb (pixel_count primitive c.registers) j l)

  -- where it is
  drawn_here : c.place ≡ Drawing primitive j → drawn_core c primitive j ≡ c
  unfolding drawn_core
  drawn_here p = rw (lt-leb (pixel_count primitive c.registers) j l, ← p)

drawn_keeps : (c : Core) (primitive : Primitive) (k : ℕ)
    → ((drawn_core c primitive k).stop ≡ c.stop) × ((drawn_core c primitive k).registers ≡ c.registers)
unfolding drawn_core
drawn_keeps c primitive k = (refl, refl)

pub units_span : (ring : List ℕ) (w n more used : ℕ) (m : Machine) (primitive : Primitive) (k : ℕ) → m.core.stop ≡ 0
    → m.core.place ≡ Drawing primitive k → k + suc n ≤ pixel_count primitive m.core.registers
    → units ring w (suc n + more) used m ≡ units ring w more (used + suc n) (drawn_machine m primitive k (suc n))
units_span ring w n more used m primitive k z p h =
    ap (units ring w (suc n + more) used) (sym here) ∙ units_along ring w (suc n) more used (drawn_machine m primitive k) on
  where
    c : Core
    c = m.core

    here : drawn_machine m primitive k 0 ≡ m
    here =
        let e : k + 0 ≡ k = omega arith in
        rw (e, drawn_here c primitive k (omega arith) p, order_zero (draw_pixel primitive c.registers m.table) k m.frame)

    on : (j : ℕ) → j < suc n
        → (possible ring (drawn_machine m primitive k j).core w ≡ true)
        × (unit ring (drawn_machine m primitive k j) ≡ drawn_machine m primitive k (j + 1))
    on j l =
        let keeps = drawn_keeps c primitive (k + j) in
        let q = drawn_place c primitive (k + j) (omega arith) in
        let e : k + (j + 1) ≡ k + j + 1 = omega arith in (
          drawing_possible ring _ w (keeps.0 ∙ z) (ap drawing q),
          unit_draws ring _ primitive (k + j) q
              ∙ rw (again c primitive (k + j) (omega arith) (k + j + 1), keeps.1, e, add-one j, order_last (draw_pixel primitive c.registers m.table) k j m.frame),
        )

-- ---- a BLT that a data command feeds

-- the machine once pixels k to k + n - 1 are drawn from its words
abbrev pub fed_machine : List ℕ → Machine → ℕ → Feed → ℕ → Machine
fed_machine ring m k feed n =
    machine (fed_core m.core (k + n) feed) m.table
    (in_order (λ k. draw_host m.core.registers m.table k (fed_word ring m.core feed (host_word m.core.registers k))) k n m.frame)

-- as long as it feeds the next pixel nothing but the number of pixels changes
module _ (c : Core) (feed : Feed) (j : ℕ) (l : j < pixel_count Blt c.registers) (f : host_word c.registers j < feed.before + feed.count) where
  fed_again : (k : ℕ) → fed_core (fed_core c j feed) k feed ≡ fed_core c k feed
  unfolding fed_core
  fed_again k = rw (lt-leb (pixel_count Blt c.registers) j l, lt-leb _ _ f)

  fed_place : (fed_core c j feed).place ≡ Fed j feed
  unfolding fed_core
  fed_place = rw (lt-leb (pixel_count Blt c.registers) j l, lt-leb _ _ f)

  fed_draw : (ring table : List ℕ) (k : ℕ) (frame : List ℕ)
      → draw_host (fed_core c j feed).registers table k (fed_word ring (fed_core c j feed) feed (host_word (fed_core c j feed).registers k)) frame
      ≡ draw_host c.registers table k (fed_word ring c feed (host_word c.registers k)) frame
  unfolding fed_word fed_core
  fed_draw ring table k frame = rw (lt-leb (pixel_count Blt c.registers) j l, lt-leb _ _ f)

  fed_here : c.place ≡ Fed j feed → fed_core c j feed ≡ c
  unfolding fed_core
  fed_here p = rw (lt-leb (pixel_count Blt c.registers) j l, lt-leb _ _ f, ← p)

fed_keeps : (c : Core) (k : ℕ) (feed : Feed) → ((fed_core c k feed).stop ≡ c.stop) × ((fed_core c k feed).registers ≡ c.registers)
unfolding fed_core
fed_keeps c k feed = (refl, refl)

pub units_fed : (ring : List ℕ) (w n more used : ℕ) (m : Machine) (k : ℕ) (feed : Feed) → m.core.stop ≡ 0
    → m.core.place ≡ Fed k feed → k + suc n ≤ pixel_count Blt m.core.registers
    → ((x : ℕ) → x < suc n → host_word m.core.registers (k + x) < feed.before + feed.count)
    → units ring w (suc n + more) used m ≡ units ring w more (used + suc n) (fed_machine ring m k feed (suc n))
units_fed ring w n more used m k feed z p h f =
    ap (units ring w (suc n + more) used) (sym here) ∙ units_along ring w (suc n) more used (fed_machine ring m k feed) on
  where
    c : Core
    c = m.core

    draw : ℕ → List ℕ → List ℕ
    draw k = draw_host c.registers m.table k (fed_word ring c feed (host_word c.registers k))

    here : fed_machine ring m k feed 0 ≡ m
    here =
        let e : k + 0 ≡ k = omega arith in
        let g = rw e at (f 0 (omega arith)) in
        rw (e, fed_here c feed k (omega arith) g p, order_zero draw k m.frame)

    on : (j : ℕ) → j < suc n
        → (possible ring (fed_machine ring m k feed j).core w ≡ true)
        × (unit ring (fed_machine ring m k feed j) ≡ fed_machine ring m k feed (j + 1))
    on j l =
        let keeps = fed_keeps c (k + j) feed in
        let t : k + j < pixel_count Blt c.registers = omega arith in
        let q = fed_place c feed (k + j) t (f j l) in
        let e : k + (j + 1) ≡ k + j + 1 = omega arith in
        let next : unit ring (fed_machine ring m k feed j) ≡ machine (fed_core c (k + j + 1) feed) m.table (in_order draw k (suc j) m.frame) =
        unit_feeds ring _ (k + j) feed q
        ∙ rw (fed_again c feed (k + j) t (f j l) (k + j + 1))
        (ap (machine (fed_core c (k + j + 1) feed) m.table)
        (fed_draw c feed (k + j) t (f j l) ring m.table (k + j) _ ∙ sym (order_last draw k j m.frame))) in
        (drawing_possible ring _ w (keeps.0 ∙ z) (ap drawing q), next ∙ rw (e, add-one j))

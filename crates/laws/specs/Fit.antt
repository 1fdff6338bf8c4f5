-- What a fit state gives, and that every unit and every accepted call leaves a fit state.
use Prim.Native.Nat.{ℕ, ◌+◌, ◌-◌, ◌≤◌, ◌<◌}
use Rattle.std.specs.Prelude.{◌≡◌, Bool, ◌&&◌, ◌||◌, List, if◌then◌else◌, Option, Some, None}
use Rattle.std.proofs.Math.Path.{refl}
use Rattle.std.proofs.Common.{ap, subst, arith, mod-lt, mul-pos}
use Rattle.std.proofs.Math.Bool.{true, false, not}
use borrow.Author.Tests.{leb-true, leb-false, le-leb, lt-leb, ltb-false, lt-ltb, le-ltb, eqb-true, eq-eqb, ne_eqb, not-false}
use Rattle.model.specs.Choice.{◌<?◌, ◌≤?◌, ◌=?◌}
use Rattle.model.proofs.Choice.{not_both, neither, or_right, nonzero, if_both}
use Rattle.model.specs.Refusals.{first, NoRule, Each, NoTest, order, rising, positive}
use Rattle.model.proofs.Refusals.{rising_positive, exactly, none_first, first_each, first_append, any_none, none_any}
use Rattle.model.specs.Registers.{width, height, vector_length}
use Rattle.model.specs.Limits.{ring_least, ring_most, frame_most, count_most}
use Rattle.model.specs.Ring.{distance, waiting}
use Rattle.model.proofs.Ring.{distance_lt}
use Rattle.model.specs.Bits.{field}
use Rattle.model.specs.Lookup.{data_type, data_count}
use Rattle.model.specs.Command.{kind_of, is_data, command_length, data_length, bad_return, bad_data_count, bad_data_word, bad_data, drawn_by, whole_words, read_after}
use Rattle.model.specs.Host.{from_host, host_word, first_of_word, takes_data}
use Rattle.model.specs.Judging.{judge, judge_rules, row25}
use Rattle.model.specs.BltPixel.{blt_of, rectangle_of}
use Rattle.model.specs.VectorPixel.{vector_of}
use Rattle.model.specs.Unit.{Machine, wants, pixels_drawn, header_at, counted_at, loaded_at, length_at, returns_at, rules_at, header_refusal, drawn_rules, command_rules, command_refusal, needed, ready, stopped, place_after, loaded_core, feed_at, taken_core, drawn_core, fed_core, pixel_count, unit, possible}
use Rattle.model.specs.Steps.{Step, loads, takes, refuses, draws, feeds}
use Rattle.model.proofs.Steps.{step_of}
use Rattle.model.specs.Calls.{bad_ring, bad_frame, bad_stop, place_tests, unfit_tests, unfit, setup_rules, fresh_state, restarted}
use Rattle.model.specs.declared.Core.{Core}
use Rattle.model.specs.declared.State.{State}
use Rattle.model.specs.declared.Feed.{Feed}
use Rattle.model.specs.declared.Kind.{Kind}
use Rattle.model.specs.declared.Kind.TheVariants.{Blt as BltKind, Vector as VectorKind, Table as TableKind, Data as DataKind}
use Rattle.model.specs.declared.Primitive.{Primitive}
use Rattle.model.specs.declared.Primitive.TheVariants.{Blt, Vector}
use Rattle.model.specs.declared.Place.{Place}
use Rattle.model.specs.declared.Place.TheVariants.{Idle, Drawing, Wanting, Fed}
use Rattle.laws.specs.Units.{possible_running, possible_ready}
use Rattle.laws.specs.Host.{host_next}
use Rattle.laws.specs.Ranges.{judged_rows}

-- ---- row 3, by its parts

pub record FitLengths (ringlength framelength : ℕ) : Type 0 where
  pub ring_least_holds : ring_least ≤ ringlength
  pub ring_most_holds : ringlength ≤ ring_most
  pub frame_least : 0 < framelength
  pub frame_most_holds : framelength ≤ frame_most

pub record Fit (c : Core) (w : ℕ) : Type 0 where
  pub lengths : FitLengths c.ringlength c.framelength
  pub read_in : c.read < c.ringlength
  pub write_in : w < c.ringlength
  pub stop_fit : bad_stop c.stop ≡ false
  pub place_fit : NoTest (place_tests c w c.place)

pub fit_parts : (s : State) → unfit s ≡ false → Fit s.core s.write
unfolding unfit
fit_parts s e =
    let c = s.core in
    let h = any_none (unfit_tests c s.write) e in
    let ring = neither (c.ringlength <? ring_least) _ h.0 in
    let frame = neither (c.framelength =? 0) _ h.1.0 in
    record {
      lengths = record {
        ring_least_holds = ltb-false _ _ ring.0;
        ring_most_holds = ltb-false _ _ ring.1;
        frame_least = nonzero c.framelength frame.0;
        frame_most_holds = ltb-false _ _ frame.1;
      };
      read_in = leb-false _ _ h.1.1.0;
      write_in = leb-false _ _ h.1.1.1.0;
      stop_fit = h.1.1.1.1.0;
      place_fit = h.1.1.1.1.1;
    }

pub parts_fit : (s : State) → Fit s.core s.write → unfit s ≡ false
unfolding unfit
parts_fit s f =
    let c = s.core in
    let l = f.lengths in
    let ring : bad_ring c.ringlength ≡ false =
    rw (le-ltb c.ringlength ring_least l.ring_least_holds, le-ltb ring_most c.ringlength l.ring_most_holds) in
    let frame : bad_frame c.framelength ≡ false =
    rw (ne_eqb c.framelength 0 (λ e. omega (arith, l.frame_least)), le-ltb frame_most c.framelength l.frame_most_holds) in
    none_any (unfit_tests c s.write)
    (ring, (frame, (lt-leb _ _ f.read_in, (lt-leb _ _ f.write_in, (f.stop_fit, f.place_fit)))))

-- a command in progress that is fit: the engine is not stopped, judging accepts it, and pixel k is one of its own
pub record FitPlace (c : Core) (primitive : Primitive) (k : ℕ) : Type 0 where
  pub running : c.stop ≡ 0
  pub judged : judge primitive c.registers c.framelength ≡ 0
  pub within : k < pixel_count primitive c.registers

-- what row 3 asks of every place first, and then the rest
abbrev PixelTests : Core → Primitive → ℕ → Type 0 → Type 0
PixelTests c primitive k Rest =
    (not (c.stop =? 0) ≡ false)
    × ((not (judge primitive c.registers c.framelength =? 0) ≡ false) × ((pixel_count primitive c.registers ≤? k ≡ false) × Rest))

pixel_parts : {Rest : Type 0} (c : Core) (primitive : Primitive) (k : ℕ) → PixelTests c primitive k Rest → FitPlace c primitive k
pixel_parts c primitive k h = record {
  running = eqb-true _ _ (not-false _ h.0);
  judged = eqb-true _ _ (not-false _ h.1.0);
  within = leb-false _ _ h.1.1.0;
}

parts_pixel : {Rest : Type 0} (c : Core) (primitive : Primitive) (k : ℕ) → FitPlace c primitive k → Rest → PixelTests c primitive k Rest
parts_pixel c primitive k f rest =
    (ap not (eq-eqb _ _ f.running), (ap not (eq-eqb _ _ f.judged), (lt-leb _ _ f.within, rest)))

parts_drawing : (c : Core) (w : ℕ) (primitive : Primitive) (k : ℕ) → FitPlace c primitive k → takes_data primitive c.registers ≡ false
    → NoTest (place_tests c w (Drawing primitive k))
parts_drawing c w primitive k f e = parts_pixel c primitive k f (e, tt)

-- a BLT that wants data
pub record FitWanting (c : Core) (k : ℕ) : Type 0 where
  pub pixel : FitPlace c Blt k
  pub host : from_host c.registers ≡ true
  pub first : first_of_word c.registers k ≡ true

pub wanting_parts : (c : Core) (w k : ℕ) → NoTest (place_tests c w (Wanting k)) → FitWanting c k
wanting_parts c w k h =
    let t = h.1.1.1 in
    record { pixel = pixel_parts c Blt k h; host = not-false _ t.0; first = not-false _ t.1.0 }

parts_wanting : (c : Core) (w k : ℕ) → FitWanting c k → NoTest (place_tests c w (Wanting k))
parts_wanting c w k f = parts_pixel c Blt k f.pixel (ap not f.host, (ap not f.first, tt))

-- a BLT that a data command feeds: it begins at or before the word of the next pixel and reaches beyond it, and all its words wait
pub record FitFed (c : Core) (w k : ℕ) (feed : Feed) : Type 0 where
  pub pixel : FitPlace c Blt k
  pub host : from_host c.registers ≡ true
  pub begun : feed.before ≤ host_word c.registers k
  pub feeding : host_word c.registers k < feed.before + feed.count
  pub held : feed.count ≤ count_most
  pub some : 0 < feed.count
  pub most : feed.count ≤ c.ringlength - 3
  pub good_return : bad_return c.ringlength c.read (data_length feed.count) feed.returns ≡ false
  pub all_wait : whole_words c.ringlength c.read (data_length feed.count) feed.returns ≤ waiting c.ringlength c.read w

pub fed_parts : (c : Core) (w k : ℕ) (feed : Feed) → NoTest (place_tests c w (Fed k feed)) → FitFed c w k feed
fed_parts c w k feed h =
    let t = h.1.1.1.1 in
    let count = neither (feed.count =? 0) _ t.1.1.1.0 in
    record {
      pixel = pixel_parts c Blt k h;
      host = not-false _ h.1.1.1.0;
      begun = ltb-false _ _ t.0;
      feeding = leb-false _ _ t.1.0;
      held = ltb-false _ _ t.1.1.0;
      some = nonzero feed.count count.0;
      most = ltb-false _ _ count.1;
      good_return = t.1.1.1.1.0;
      all_wait = leb-true _ _ (not-false _ t.1.1.1.1.1.0);
    }

parts_fed : (c : Core) (w k : ℕ) (feed : Feed) → FitFed c w k feed → NoTest (place_tests c w (Fed k feed))
parts_fed c w k feed f =
    let count : bad_data_count c.ringlength feed.count ≡ false =
    rw (ne_eqb feed.count 0 (λ e. let h = f.some in omega arith)) (le-ltb _ _ f.most) in
    parts_pixel c Blt k f.pixel
    (ap not f.host, (le-ltb _ _ f.begun, (lt-leb _ _ f.feeding, (le-ltb _ _ f.held, (count, (f.good_return, (ap not (le-leb _ _ f.all_wait), tt)))))))

-- row 3's clause on the count follows from its others: the count is not 0 because the command feeds the next pixel, and not above ring
-- size less 3 because its words wait, of which there are at most ring size less 1 (with W, because they do not begin at ring word 0
-- and end before the ring's end)
pub count_follows : (size read write at before count : ℕ) (return : Bool) → read < size → write < size
    → before ≤ at → at < before + count → bad_return size read (data_length count) return ≡ false
    → whole_words size read (data_length count) return ≤ waiting size read write → bad_data_count size count ≡ false
unfolding bad_return whole_words waiting
count_follows size read write at before count return h l b f g e = go return g e
  where
    some : count =? 0 ≡ false
    some = ne_eqb count 0 (λ z. omega arith)

    go : (r : Bool) → r && (read =? 0 || size <? read + (2 + count)) ≡ false
        → (if r && 2 + count <? size - read then size - read else 2 + count) ≤ distance size read write → bad_data_count size count ≡ false
    go false g e = rw some (le-ltb (size - 3) count (let d = distance_lt size read write h in omega arith))
    go true g e =
        let q = neither (read =? 0) _ g in
        let p = nonzero read q.0 in
        let t = ltb-false size (read + (2 + count)) q.1 in
        rw some (le-ltb (size - 3) count (omega arith))

-- what row 3 says of the place, by its kind
module _ (c : Core) (w : ℕ) (fit : Fit c w) where
  at_place : (q : Place) → c.place ≡ q → NoTest (place_tests c w q)
  at_place q p = subst (λ (q : Place). NoTest (place_tests c w q)) p fit.place_fit

  pub drawing_fit : (primitive : Primitive) (k : ℕ) → c.place ≡ Drawing primitive k → FitPlace c primitive k
  drawing_fit primitive k p = pixel_parts c primitive k (at_place (Drawing primitive k) p)

  pub drawing_plain : (primitive : Primitive) (k : ℕ) → c.place ≡ Drawing primitive k → takes_data primitive c.registers ≡ false
  drawing_plain primitive k p = (at_place (Drawing primitive k) p).1.1.1.0

  pub wanting_fit : (k : ℕ) → c.place ≡ Wanting k → FitWanting c k
  wanting_fit k p = wanting_parts c w k (at_place _ p)

  pub fed_fit : (k : ℕ) (feed : Feed) → c.place ≡ Fed k feed → FitFed c w k feed
  fed_fit k feed p = fed_parts c w k feed (at_place _ p)

-- a place that is not none is that of an engine that has not stopped
pub place_running : (c : Core) (w : ℕ) → Fit c w → (c.stop ≡ 0 → ⊥) → c.place ≡ Idle
place_running c w fit z = go c.place refl
  where
    go : (q : Place) → c.place ≡ q → c.place ≡ Idle
    go Idle p = p
    go (Drawing primitive k) p = absurd (z (drawing_fit c w fit primitive k p).running)
    go (Wanting k) p = absurd (z (wanting_fit c w fit k p).pixel.running)
    go (Fed k feed) p = absurd (z (fed_fit c w fit k feed p).pixel.running)

-- ---- the rules of a command

-- the header's, and where none of them applies those of what it draws
pub command_first : (ring : List ℕ) (c : Core) → command_refusal ring c
    ≡ (if header_refusal ring c =? 0 then first (drawn_rules (drawn_by (header_at ring c)) (loaded_at ring c) c.framelength)
    else header_refusal ring c)
unfolding command_refusal header_refusal positive
command_first ring c = first_append _ (drawn_rules (drawn_by (header_at ring c)) (loaded_at ring c) c.framelength) refl

-- their numbers rise in their order
pub command_rises : (ring : List ℕ) (c : Core) → rising 0 (command_rules ring c) ≡ true
unfolding rising
command_rises ring c = go (drawn_by (header_at ring c))
  where
    go : (d : Option Primitive) → rising (order 22) (drawn_rules d (loaded_at ring c) c.framelength) ≡ true
    go None = refl
    go (Some primitive) = refl

-- and each may stand in the state
pub command_stop : (ring : List ℕ) (c : Core) → bad_stop (command_refusal ring c) ≡ false
unfolding command_refusal
command_stop ring c =
    first_each (λ n. bad_stop n ≡ false) (command_rules ring c) refl
    (refl, (refl, (refl, (refl, (refl, (refl, go (drawn_by (header_at ring c))))))))
  where
    go : (d : Option Primitive) → Each (λ n. bad_stop n ≡ false) (drawn_rules d (loaded_at ring c) c.framelength)
    go None = tt
    go (Some primitive) = (refl, (refl, (refl, (refl, (refl, (refl, tt))))))

-- judging accepts no command without a pixel
pub judged_pixels : (primitive : Primitive) (registers : List ℕ) (framelength : ℕ) → judge primitive registers framelength ≡ 0
    → 0 < pixel_count primitive registers
unfolding pixel_count blt_of rectangle_of vector_of
judged_pixels primitive registers framelength e = go primitive (judged_rows primitive registers framelength e).1.1.0
  where
    go : (primitive : Primitive) → row25 registers primitive ≡ false → 0 < pixel_count primitive registers
    go Blt e =
        let h = neither (width registers =? 0) (height registers =? 0) e in
        mul-pos (nonzero (width registers) h.0) (nonzero (height registers) h.1)
    go Vector e = nonzero (vector_length registers) e

pub judged_wide : (registers : List ℕ) (framelength : ℕ) → judge Blt registers framelength ≡ 0 → 0 < width registers
judged_wide registers framelength e =
    nonzero (width registers) (neither (width registers =? 0) _ (judged_rows Blt registers framelength e).1.1.0).0

data_length_lem : (kind : Kind) (counted : ℕ) → is_data kind ≡ true → command_length kind counted ≡ data_length (data_count counted)
data_length_lem BltKind counted d = absurd (not_both false d refl)
data_length_lem VectorKind counted d = absurd (not_both false d refl)
data_length_lem TableKind counted d = absurd (not_both false d refl)
data_length_lem DataKind counted d = refl

-- ---- a command that is accepted

module _ (ring : List ℕ) (c : Core) (accepted : command_refusal ring c ≡ 0) where
  no_rule : NoRule (command_rules ring c)
  unfolding command_refusal
  no_rule = none_first (command_rules ring c) (rising_positive 0 (command_rules ring c) (command_rises ring c)) accepted

  pub accepted_header : header_refusal ring c ≡ 0
  unfolding header_refusal positive
  accepted_header = let h = no_rule.1 in
      (exactly (rules_at ring c) refl).not_given.1
      (no_rule.0, (h.0, (h.1.0, (h.1.1.0, (h.1.1.1.0, (h.1.1.1.1.0, tt))))))

  pub accepted_return : bad_return c.ringlength c.read (length_at ring c) (returns_at ring c) ≡ false
  accepted_return = no_rule.1.1.1.1.1.0

  -- it needs all its words
  pub accepted_needs : needed ring c ≡ whole_words c.ringlength c.read (length_at ring c) (returns_at ring c)
  unfolding needed
  accepted_needs = rw (eq-eqb _ _ accepted_header)

  -- a data command is wanted, and its count is good
  pub accepted_wanted : is_data (kind_of (header_at ring c)) ≡ true → wants c.place ≡ true
  accepted_wanted d = go (wants c.place) (rw d at no_rule.1.1.0)
    where
      go : (b : Bool) → not b && true ≡ false → b ≡ true
      go true e = refl
      go false e = absurd (not_both true refl e)

  pub accepted_count : is_data (kind_of (header_at ring c)) ≡ true → bad_data_count c.ringlength (data_count (counted_at ring c)) ≡ false
  unfolding bad_data_word
  accepted_count d = go (kind_of (header_at ring c)) d no_rule.1.1.1.1.0
    where
      go : (kind : Kind) → is_data kind ≡ true → bad_data c.ringlength kind (counted_at ring c) ≡ false
          → bad_data_count c.ringlength (data_count (counted_at ring c)) ≡ false
      go BltKind d e = absurd (not_both false d refl)
      go VectorKind d e = absurd (not_both false d refl)
      go TableKind d e = absurd (not_both false d refl)
      go DataKind d e =
          let counted = counted_at ring c in
          (neither (not (data_type counted =? 0b000) || not (field counted 28 16 =? 0)) (bad_data_count c.ringlength (data_count counted)) e).1

  pub accepted_judge : (primitive : Primitive) → drawn_by (header_at ring c) ≡ Some primitive
      → judge primitive (loaded_at ring c) c.framelength ≡ 0
  unfolding judge positive
  accepted_judge primitive d =
      (exactly (judge_rules primitive (loaded_at ring c) c.framelength) refl).not_given.1
      (subst (λ (x : Option Primitive). NoRule (drawn_rules x (loaded_at ring c) c.framelength)) d no_rule.1.1.1.1.1.1)

-- ---- units keep a state fit

read_fit : (size read length : ℕ) (w : Bool) → 0 < size → read_after size read length w < size
unfolding read_after
read_fit size read length w h = if_both (λ (x : ℕ). x < size) w h (mod-lt (read + length) h)

-- a core with the same lengths
fit_as : (c : Core) (w : ℕ) → Fit c w → (d : Core) → d.ringlength ≡ c.ringlength → d.framelength ≡ c.framelength
    → d.read < d.ringlength → bad_stop d.stop ≡ false → NoTest (place_tests d w d.place) → Fit d w
fit_as c w fit d rings frames read stop place =
    let l = fit.lengths in
    record {
      lengths = record {
        ring_least_holds = rw rings l.ring_least_holds;
        ring_most_holds = rw rings l.ring_most_holds;
        frame_least = rw frames l.frame_least;
        frame_most_holds = rw frames l.frame_most_holds;
      };
      read_in = read;
      write_in = rw rings fit.write_in;
      stop_fit = stop;
      place_fit = place;
    }

-- where a command that judging accepts begins
first_fit : (c : Core) (w : ℕ) (primitive : Primitive) → c.stop ≡ 0 → judge primitive c.registers c.framelength ≡ 0
    → NoTest (place_tests c w (place_after (Some primitive) c.registers))
first_fit c w Vector z j = parts_drawing c w Vector 0 (record { running = z; judged = j; within = judged_pixels Vector _ _ j }) refl
first_fit c w Blt z j = go (from_host c.registers) refl
  where
    pixel : FitPlace c Blt 0
    pixel = record { running = z; judged = j; within = judged_pixels Blt _ _ j }

    go : (b : Bool) → from_host c.registers ≡ b → NoTest (place_tests c w (if b then Wanting 0 else Drawing Blt 0))
    go true e = parts_wanting c w 0 (record { pixel = pixel; host = e; first = refl })
    go false e = parts_drawing c w Blt 0 pixel e

-- a place that wants data
pub wanting_is : (q : Place) → wants q ≡ true → q ≡ Wanting (pixels_drawn q)
wanting_is Idle e = absurd (not_both false e refl)
wanting_is (Drawing primitive k) e = absurd (not_both false e refl)
wanting_is (Wanting k) e = refl
wanting_is (Fed k feed) e = absurd (not_both false e refl)

-- a pixel whose word is another than that of the pixel before it
past_first : (registers : List ℕ) (k : ℕ) → host_word registers k < host_word registers (k + 1) → first_of_word registers (k + 1) ≡ true
past_first registers k l =
    let s : k + 1 - 1 ≡ k = omega arith in
    or_right (k + 1 =? 0) _ (rw s (lt-ltb _ _ l))

module _ (ring : List ℕ) (c : Core) (w : ℕ) (fit : Fit c w) where
  size_some : 0 < c.ringlength
  size_some = omega (arith, fit.lengths.ring_least_holds)

  fit_loaded : command_refusal ring c ≡ 0 → c.stop ≡ 0 → Fit (loaded_core ring c) w
  unfolding loaded_core
  fit_loaded e z =
      fit_as c w fit _ refl refl (read_fit _ _ (length_at ring c) (returns_at ring c) size_some) fit.stop_fit
      (place (drawn_by (header_at ring c)) refl)
    where
      place : (d : Option Primitive) → drawn_by (header_at ring c) ≡ d → NoTest (place_tests (loaded_core ring c) w (place_after d (loaded_at ring c)))
      place None d = tt
      place (Some primitive) d = first_fit (loaded_core ring c) w primitive z (accepted_judge ring c e primitive d)

  -- a data command: it is whole, so its words wait
  fit_taken : command_refusal ring c ≡ 0 → is_data (kind_of (header_at ring c)) ≡ true → ready ring c w ≡ true → Fit (taken_core ring c) w
  unfolding taken_core ready
  fit_taken e d r =
      let k = pixels_drawn c.place in
      let f = wanting_fit c w fit k (wanting_is c.place (accepted_wanted ring c e d)) in
      let count = neither (data_count (counted_at ring c) =? 0) _ (accepted_count ring c e d) in
      let some = nonzero (data_count (counted_at ring c)) count.0 in
      let l = leb-true (needed ring c) (waiting c.ringlength c.read w) r in
      let is = data_length_lem (kind_of (header_at ring c)) (counted_at ring c) d in
      fit_as c w fit _ refl refl fit.read_in fit.stop_fit
      (parts_fed (taken_core ring c) w k (feed_at ring c)
      (record {
        pixel = record { running = f.pixel.running; judged = f.pixel.judged; within = f.pixel.within };
        host = f.host;
        begun = omega arith;
        feeding = omega arith;
        held = omega arith;
        some = some;
        most = ltb-false _ _ count.1;
        good_return = rw is at (accepted_return ring c e);
        all_wait = rw (accepted_needs ring c e, is) at l;
      }))

  fit_stopped : Fit (stopped c (command_refusal ring c)) w
  unfolding stopped
  fit_stopped = fit_as c w fit _ refl refl fit.read_in (command_stop ring c) tt

  fit_drawn : (primitive : Primitive) (k : ℕ) → FitPlace c primitive k → takes_data primitive c.registers ≡ false
      → Fit (drawn_core c primitive (k + 1)) w
  unfolding drawn_core
  fit_drawn primitive k p h =
      fit_as c w fit _ refl refl fit.read_in fit.stop_fit (place (pixel_count primitive c.registers ≤? k + 1) refl)
    where
      place : (b : Bool) → pixel_count primitive c.registers ≤? k + 1 ≡ b
          → NoTest (place_tests (drawn_core c primitive (k + 1)) w (if b then Idle else Drawing primitive (k + 1)))
      place true d = tt
      place false d =
          parts_drawing (drawn_core c primitive (k + 1)) w primitive (k + 1)
          (record { running = p.running; judged = p.judged; within = leb-false _ _ d }) h

  fit_fed : (k : ℕ) (feed : Feed) → FitFed c w k feed → Fit (fed_core c (k + 1) feed) w
  unfolding fed_core
  fit_fed k feed p =
      go (pixel_count Blt c.registers ≤? k + 1) (feed.before + feed.count ≤? host_word c.registers (k + 1)) refl refl
    where
      passed : ℕ
      passed = read_after c.ringlength c.read (data_length feed.count) feed.returns

      -- the core with another read pointer and place
      at : ℕ → Place → Core
      at read place = record {
        registers = c.registers;
        read = read;
        ringlength = c.ringlength;
        framelength = c.framelength;
        completion = c.completion;
        stop = c.stop;
        place = place;
      }

      pixel : (read : ℕ) (place : Place) → pixel_count Blt c.registers ≤? k + 1 ≡ false → FitPlace (at read place) Blt (k + 1)
      pixel read place e = record { running = p.pixel.running; judged = p.pixel.judged; within = leb-false _ _ e }

      go : (last used : Bool) → pixel_count Blt c.registers ≤? k + 1 ≡ last
          → feed.before + feed.count ≤? host_word c.registers (k + 1) ≡ used → Fit (fed_core c (k + 1) feed) w
      go true used el eu =
          rw el (fit_as c w fit _ refl refl (read_fit _ _ _ feed.returns size_some) fit.stop_fit tt)
      go false true el eu =
          rw (el, eu)
          (fit_as c w fit _ refl refl (read_fit _ _ _ feed.returns size_some) fit.stop_fit
          (parts_wanting (at passed (Wanting (k + 1))) w (k + 1)
          (record {
            pixel = pixel passed (Wanting (k + 1)) el;
            host = p.host;
            first = past_first c.registers k (let h = p.feeding in omega (arith, leb-true (feed.before + feed.count) _ eu));
          })))
      go false false el eu =
          rw (el, eu)
          (fit_as c w fit _ refl refl fit.read_in fit.stop_fit
          (parts_fed (at c.read (Fed (k + 1) feed)) w (k + 1) feed
          (record {
            pixel = pixel c.read (Fed (k + 1) feed) el;
            host = p.host;
            begun = let h = p.begun in omega (arith, host_next c.registers k (judged_wide c.registers _ p.pixel.judged));
            feeding = leb-false _ _ eu;
            held = p.held;
            some = p.some;
            most = p.most;
            good_return = p.good_return;
            all_wait = p.all_wait;
          })))

pub fit_unit : (ring : List ℕ) (m : Machine) (w : ℕ) → Fit m.core w → possible ring m.core w ≡ true
    → Fit (unit ring m).core w
fit_unit ring m w fit e = go (step_of ring m)
  where
    c : Core
    c = m.core

    go : Step ring m → Fit (unit ring m).core w
    go (loads p h d u) = rw u (fit_loaded ring c w fit h (possible_running ring c w e))
    go (takes p h d u) = rw u (fit_taken ring c w fit h d (possible_ready ring c w p e))
    go (refuses p h u) = rw u (fit_stopped ring c w fit)
    go (draws primitive k p u) = rw u (fit_drawn ring c w fit primitive k (drawing_fit c w fit primitive k p) (drawing_plain c w fit primitive k p))
    go (feeds k feed p u) = rw u (fit_fed ring c w fit k feed (fed_fit c w fit k feed p))

-- ---- and so do the calls

-- row 3 stays true as the write pointer goes on: publishing leaves no fewer words waiting
pub fit_later : (c : Core) (w later : ℕ) → later < c.ringlength
    → waiting c.ringlength c.read w ≤ waiting c.ringlength c.read later → Fit c w → Fit c later
fit_later c w later l h f = record {
  lengths = f.lengths;
  read_in = f.read_in;
  write_in = l;
  stop_fit = f.stop_fit;
  place_fit = place c.place f.place_fit;
}
  where
    place : (q : Place) → NoTest (place_tests c w q) → NoTest (place_tests c later q)
    place Idle t = tt
    place (Drawing primitive k) t = t
    place (Wanting k) t = t
    place (Fed k feed) t =
        let f = fed_parts c w k feed t in
        parts_fed c later k feed
        (record {
          pixel = f.pixel;
          host = f.host;
          begun = f.begun;
          feeding = f.feeding;
          held = f.held;
          some = f.some;
          most = f.most;
          good_return = f.good_return;
          all_wait = let l = f.all_wait in omega arith;
        })

-- a stopped engine has nothing in progress
pub fit_restarted : (s : State) → Fit s.core s.write → (s.core.stop ≡ 0 → ⊥) → Fit (restarted s).core s.write
fit_restarted s f z = record {
  lengths = f.lengths;
  read_in = f.write_in;
  write_in = f.write_in;
  stop_fit = refl;
  place_fit = rw (place_running s.core s.write f z) tt;
}

pub fit_fresh : (ringlength framelength : ℕ) → NoRule (setup_rules ringlength framelength)
    → unfit (fresh_state ringlength framelength) ≡ false
unfolding unfit
fit_fresh rl fl h =
    let l = ltb-false rl ring_least (neither (rl <? ring_least) _ h.0).0 in
    none_any (unfit_tests (fresh_state rl fl).core 0) (h.0, (h.1.0, (lt-leb rl 0 (omega arith), (lt-leb rl 0 (omega arith), (refl, tt)))))

-- What is proved of specs/Splits.
use Prim.Native.Nat.{ℕ, zero, suc, ◌+◌, ◌-◌, ◌≤◌, ◌<◌}
use Rattle.std.specs.Prelude.{◌≡◌, List, length, get_or}
use Rattle.std.proofs.Math.Path.{refl}
use Rattle.std.proofs.Common.{sym, ap, subst, ◌∙◌, arith, length-append, get_or-append-add}
use Rattle.std.proofs.Math.Bool.{true}
use Rattle.std.proofs.Math.Logic.{⊎_elim}
use Rattle.std.proofs.Math.ListN.{get_or-append}
use borrow.Author.Tests.{le-leb, lt-leb}
use Rattle.model.specs.Choice.{◌=?◌}
use Rattle.model.proofs.Choice.{not_both, neither, nonzero}
use Rattle.model.specs.Refusals.{first}
use Rattle.model.specs.Registers.{width}
use Rattle.model.specs.Ring.{word_at}
use Rattle.model.specs.Completion.{retired}
use Rattle.model.specs.Command.{returns, is_data, data_length, drawn_by, read_after, loaded_table}
use Rattle.model.specs.Host.{from_host, host_word, draw_host}
use Rattle.model.specs.Judging.{judge}
use Rattle.model.specs.Unit.{Machine, command_refusal, drawing, wants, taken_core, table_after, pixel_count, fed_word, fed_core, unit, times}
use Rattle.model.specs.Steps.{machine}
use Rattle.model.specs.declared.Feed.{Feed}
use Rattle.model.specs.declared.Place.{Place}
use Rattle.model.specs.declared.Place.TheVariants.{Idle, Wanting, Fed}
use Rattle.model.specs.declared.Primitive.TheVariants.{Blt}
use Rattle.laws.specs.Numbers.{less_or_not}
use Rattle.laws.specs.Order.{in_order}
use Rattle.laws.specs.Units.{unit_accepts, unit_feeds}
use Rattle.laws.specs.Fit.{accepted_count, judged_wide, judged_pixels}
use Rattle.laws.specs.Host.{host_rises}
use Rattle.laws.specs.HostWords.{host_step, host_zero}
use Rattle.demands.specs.Splits.{DataAt, Split, none, more, Sent, Ends, SplitsAlike, picture, Leaves, PictureDrawn, Splits}

-- ---- the units

-- the machine with another read pointer, completion number, place and frame memory
abbrev moved : Machine → (read completion : ℕ) → Place → List ℕ → Machine
moved m read completion place frame =
    machine (record {
      registers = m.core.registers;
      read = read;
      ringlength = m.core.ringlength;
      framelength = m.core.framelength;
      completion = completion;
      stop = m.core.stop;
      place = place;
    }) m.table frame

-- `given n` is word number n of all the BLT's data words
module _ (ring : List ℕ) (m : Machine) (given : ℕ → ℕ) where
  abbrev word : ℕ → ℕ
  word k = host_word m.core.registers k

  abbrev pixels : ℕ
  pixels = pixel_count Blt m.core.registers

  abbrev draw : ℕ → List ℕ → List ℕ
  draw k = draw_host m.core.registers m.table k (given (word k))

  abbrev wanting : (read k : ℕ) → List ℕ → Machine
  wanting read k = moved m read m.core.completion (Wanting k)

  abbrev fed : (read k : ℕ) → Feed → List ℕ → Machine
  fed read k feed = moved m read m.core.completion (Fed k feed)

  abbrev after : (read : ℕ) → Feed → ℕ
  after read feed = read_after m.core.ringlength read (data_length feed.count) feed.returns

  -- a data command is accepted
  module _ (read k : ℕ) {words : List ℕ} (frame : List ℕ) (d : DataAt ring m.core.ringlength read words) where
    abbrev feed_of : Feed
    feed_of = record { before = word k; count = length words; returns = returns (get_or ring read 0) }

    good : command_refusal ring (wanting read k frame).core ≡ 0
    unfolding command_refusal first drawn_by
    good = rw (d.kind, d.not_21, d.not_32, d.count, d.not_22)

    -- it has a word
    some_words : 0 < length words
    some_words =
        let count = rw (d.kind, d.count) at (accepted_count ring (wanting read k frame).core good (ap is_data d.kind)) in
        nonzero (length words) (neither (length words =? 0) _ count).0

    takes : unit ring (wanting read k frame) ≡ fed read k feed_of frame
    unfolding taken_core table_after loaded_table
    takes = unit_accepts ring (wanting read k frame) refl good ∙ rw (d.kind, d.count)

  -- it feeds a pixel: the last, the last before it is passed, or another
  module _ (read k : ℕ) (feed : Feed) (frame : List ℕ) (same : fed_word ring (fed read k feed frame).core feed (word k) ≡ given (word k)) where
    feeds_last : pixels ≤ k + 1
        → unit ring (fed read k feed frame) ≡ moved m (after read feed) (retired m.core.completion) Idle (draw k frame)
    unfolding fed_core
    feeds_last l = unit_feeds ring (fed read k feed frame) k feed refl ∙ rw (same, le-leb _ _ l)

    feeds_passed : k + 1 < pixels → feed.before + feed.count ≤ word (k + 1)
        → unit ring (fed read k feed frame) ≡ wanting (after read feed) (k + 1) (draw k frame)
    unfolding fed_core
    feeds_passed l h = unit_feeds ring (fed read k feed frame) k feed refl ∙ rw (same, lt-leb _ _ l, le-leb _ _ h)

    feeds_on : k + 1 < pixels → word (k + 1) < feed.before + feed.count
        → unit ring (fed read k feed frame) ≡ fed read (k + 1) feed (draw k frame)
    unfolding fed_core
    feeds_on l h = unit_feeds ring (fed read k feed frame) k feed refl ∙ rw (same, lt-leb _ _ l, lt-leb _ _ h)

  -- the BLT ends with this frame memory
  record Drawn (from : Machine) (frame : List ℕ) : Type 0 where
    number : ℕ
    read : ℕ
    until : (k : ℕ) → k < number → (times ring k from).core.place ≡ Idle → ⊥
    is : times ring number from ≡ moved m read (retired m.core.completion) Idle frame

  drawn_next : {from to : Machine} {frame : List ℕ} → unit ring from ≡ to → (from.core.place ≡ Idle → ⊥) → Drawn to frame → Drawn from frame
  drawn_next {from} {to} {frame} u busy d = record { number = suc d.number; read = d.read; until = until; is = rw u d.is }
    where
      until : (k : ℕ) → k < suc d.number → (times ring k from).core.place ≡ Idle → ⊥
      until zero l e = busy e
      until (suc k) l e = d.until k (omega arith) (ap (λ (x : Machine). (times ring k x).core.place) (sym u) ∙ e)

  -- it does so, with pixels k to k + j the last ones, where it wants data
  abbrev Ending : (read k j : ℕ) → Type 0
  Ending read k j = (frame : List ℕ) → Drawn (wanting read k frame) (in_order draw k (suc j) frame)

  module _ (judged : judge Blt m.core.registers m.core.framelength ≡ 0) (host : from_host m.core.registers ≡ true) where
    wide : 0 < width m.core.registers
    wide = judged_wide m.core.registers _ judged

    -- where a data command feeds it, if it does so once that one is passed: then the word after the command's last is due
    feeds : (read : ℕ) (feed : Feed)
        → ((n : ℕ) → feed.before ≤ n → n < feed.before + feed.count → word_at ring read (2 + (n - feed.before)) ≡ given n)
        → ((k j : ℕ) → k + suc j ≡ pixels → word k ≡ feed.before + feed.count → Ending (after read feed) k j)
        → (j k : ℕ) → k + suc j ≡ pixels → feed.before ≤ word k → word k < feed.before + feed.count
        → (frame : List ℕ) → Drawn (fed read k feed frame) (in_order draw k (suc j) frame)
    unfolding fed_word in_order
    feeds read feed words passed zero k e b l frame =
        drawn_next (feeds_last read k feed frame (words _ b l) (omega arith)) (λ p. not_both true refl (ap drawing p))
        (record { number = 0; read = after read feed; until = λ i h. absurd (omega arith); is = refl })
    feeds read feed words passed (suc j) k e b l frame =
        ⊎_elim
        (λ (h : word (k + 1) < feed.before + feed.count).
        drawn_next (feeds_on read k feed frame (words _ b l) (omega arith) h) (λ p. not_both true refl (ap drawing p))
        (feeds read feed words passed j (k + 1) (omega arith)
        (omega (arith, host_rises m.core.registers k 1 wide)) h (draw k frame)))
        (λ (h : feed.before + feed.count ≤ word (k + 1)).
        drawn_next (feeds_passed read k feed frame (words _ b l) (omega arith) h) (λ p. not_both true refl (ap drawing p))
        (passed (k + 1) j (omega arith) (omega (arith, host_step m.core.registers _ judged host k (omega arith))) (draw k frame)))
        (less_or_not (word (k + 1)) (feed.before + feed.count))

    -- and where data commands hold its words from that of pixel k on
    ending : {read : ℕ} {words : List ℕ} → Split ring m.core.ringlength read words → (k j : ℕ) → k + suc j ≡ pixels
        → ((i : ℕ) → i < length words → get_or words i 0 ≡ given (word k + i)) → word (pixels - 1) < word k + length words
        → Ending read k j
    ending none k j e same enough frame =
        let last : word (pixels - 1) ≡ word (k + j) = ap word (omega arith) in
        absurd (omega (arith, host_rises m.core.registers k j wide))
    ending {read} (more {words = words} {rest = rest} d split) k j e same enough frame =
        let both = length-append words rest in
        drawn_next (takes read k frame d) (λ p. not_both true refl (ap wants p))
        (feeds read (feed_of read k frame d)
        (λ n b l.
        let i : n - word k < length words = omega arith in
        d.holds (n - word k) i
        ∙ sym (get_or-append words rest 0 (n - word k) i)
        ∙ same (n - word k) (omega arith)
        ∙ ap given (omega arith))
        (λ k' j' e' due frame'.
        ending split k' j' e'
        (λ i l. sym (get_or-append-add words rest i 0) ∙ same (length words + i) (omega arith) ∙ ap given (omega arith))
        (omega arith) frame')
        j k e (omega arith) (omega (arith, some_words read k frame d)) frame)

-- ---- the proof

drawn : (ring : List ℕ) (m : Machine) (words : List ℕ) → Sent ring m words
    → Drawn ring m (λ n. get_or words n 0) m (picture m.core.registers m.table words m.frame)
drawn ring m words s =
    let r = m.core.registers in
    let given : ℕ → ℕ = λ n. get_or words n 0 in
    let some = judged_pixels Blt r _ s.judged in
    let all : suc (pixel_count Blt r - 1) ≡ pixel_count Blt r = omega arith in
    let first = host_zero r _ s.judged s.host in
    let d = ending ring m given s.judged s.host s.split 0 (pixel_count Blt r - 1) (omega arith) (λ i l. ap given (omega arith))
    (omega (arith, s.enough)) m.frame in
    subst (λ (q : Place). Drawn ring m given (moved m m.core.read m.core.completion q m.frame) (picture r m.table words m.frame))
    (sym s.wanting) (rw all at d)

pub picture_drawn : PictureDrawn
picture_drawn ring m words s =
    let d = drawn ring m words s in (
      d.number,
      record { ended = ap (λ (n : Machine). n.core.place) d.is; until = d.until },
      rw d.is (record { frame_is = refl; completion_is = refl; registers_kept = refl; table_kept = refl; stop_kept = refl }),
    )

-- it ends once
ends_alone : (ring : List ℕ) (m : Machine) (i j : ℕ) → Ends ring m i → Ends ring m j → i ≡ j
ends_alone ring m i j p q =
    ⊎_elim (λ l. absurd (q.until i l p.ended))
    (λ l. ⊎_elim (λ h. absurd (p.until j h q.ended)) (λ h. omega arith) (less_or_not j i)) (less_or_not i j)

leaves : (ring : List ℕ) (m : Machine) (words : List ℕ) (n : ℕ) → Sent ring m words → Ends ring m n → Leaves m words (times ring n m)
leaves ring m words n s e =
    let d = picture_drawn ring m words s in
    rw (ends_alone ring m n d.0 e d.1) d.2

pub splits_alike : SplitsAlike
splits_alike ring other m n words s t registers table frame completion i j e f =
    let p = leaves ring m words i s e in
    let q = leaves other n words j t f in
    (p.frame_is ∙ rw (registers, table, frame) (sym q.frame_is), p.completion_is ∙ rw completion (sym q.completion_is))

pub splits : Splits
splits = record { splits_alike = splits_alike; picture_drawn = picture_drawn }

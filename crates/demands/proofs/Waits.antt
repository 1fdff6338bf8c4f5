-- What is proved of specs/Waits.
use Rattle.std.specs.Prelude.{ℕ, ◌-◌, ◌≤◌, ◌<◌, Bool, ◌↔◌, List, if◌then◌else◌}
use Rattle.std.proofs.Math.Path.{◌≡◌, refl}
use Rattle.std.proofs.Math.Bool.{true, false}
use Rattle.std.proofs.Math.Logic.{⊎_elim}
use Rattle.std.proofs.Common.{arith}
use borrow.Author.Tests.{leb-true, leb-false, lt-leb, ltb-true, ltb-false, eqb-true, eqb-false, eq-eqb}
use Rattle.model.specs.Choice.{◌<?◌, ◌≤?◌, ◌=?◌}
use Rattle.model.proofs.Choice.{true_or_false, not_both, neither, if_both}
use Rattle.model.specs.Refusals.{positive}
use Rattle.model.proofs.Refusals.{exactly}
use Rattle.model.specs.Ring.{waiting}
use Rattle.model.specs.Command.{kind_of, command_length, bad_start, judged_words, whole_words}
use Rattle.model.specs.Unit.{header_at, counted_at, length_at, returns_at, rules_at, header_refusal, needed, ready, wants, drawing, possible}
use Rattle.model.specs.Calls.{run_word}
use Rattle.model.specs.declared.Core.{Core}
use Rattle.model.specs.declared.State.{State}
use Rattle.model.specs.declared.Kind.{Kind}
use Rattle.model.specs.declared.Kind.TheVariants.{Blt, Vector, Table, Data}
use Rattle.model.specs.declared.RunWord.TheVariants.{Stopped, Waiting, Spent}
use Rattle.demands.specs.Waits.{Whole, GoodHeader, NoCommand, no_word, not_whole, not_judged, Waits, Needs, its_header, all_words}

-- ---- they are the tests of the model

-- so many words, and no fewer
whole_words_lem : (size read length n : ℕ) (w : Bool)
    → (whole_words size read length w ≤ n) ↔ ((length ≤ n) × (w ≡ true → size - read ≤ n))
unfolding whole_words
whole_words_lem size read length n false = ((λ h. (h, λ p. absurd (not_both false p refl))), (λ h. h.0))
whole_words_lem size read length n true = go (length <? size - read) refl
  where
    go : (b : Bool) → length <? size - read ≡ b
        → ((if b then size - read else length) ≤ n) ↔ ((length ≤ n) × (◌≡◌ {A = Bool} true true → size - read ≤ n))
    go true e = ((λ h. let l = ltb-true length (size - read) e in (omega arith, λ p. h)), (λ h. h.1 refl))
    go false e = ((λ h. let l = ltb-false length (size - read) e in (h, λ p. omega arith)), (λ h. h.0))

pub own_words : (size read length : ℕ) (w : Bool) → length ≤ whole_words size read length w
own_words size read length w = ((whole_words_lem size read length (whole_words size read length w) w).0 (omega arith)).0

-- a command is judged on one word or more, and on no more than it has
judged_words_lem : (kind : Kind) (counted : ℕ) → (0 < judged_words kind) × (judged_words kind ≤ command_length kind counted)
judged_words_lem Blt counted = (omega arith, omega arith)
judged_words_lem Vector counted = (omega arith, omega arith)
judged_words_lem Table counted = (omega arith, omega arith)
judged_words_lem Data counted = (omega arith, omega arith)

module _ (ring : List ℕ) (c : Core) where
  pub judged_some : 0 < judged_words (kind_of (header_at ring c))
  judged_some = (judged_words_lem (kind_of (header_at ring c)) (counted_at ring c)).0

  pub judged_within : judged_words (kind_of (header_at ring c)) ≤ length_at ring c
  judged_within = (judged_words_lem (kind_of (header_at ring c)) (counted_at ring c)).1

  pub good_header : (header_refusal ring c ≡ 0) ↔ GoodHeader ring c
  unfolding header_refusal positive
  good_header = (exactly (rules_at ring c) refl).not_given

  pub needs_of : Needs ring c
  unfolding needed
  needs_of = go (header_refusal ring c =? 0) refl
    where
      go : (b : Bool) → header_refusal ring c =? 0 ≡ b → Needs ring c
      go true e = all_words (good_header.0 (eqb-true _ _ e)) (rw e) (rw e (own_words _ _ (length_at ring c) (returns_at ring c)))
      go false e = its_header (λ g. eqb-false _ _ e (good_header.1 g)) (rw e)

  -- no fewer than it is judged on, where none of 21, 30 and 31 applies
  pub needs_judged : bad_start (wants c.place) (header_at ring c) ≡ false → judged_words (kind_of (header_at ring c)) ≤ needed ring c
  needs_judged b = go needs_of
    where
      go : Needs ring c → judged_words (kind_of (header_at ring c)) ≤ needed ring c
      go (its_header g e) = rw (e, b) (omega arith)
      go (all_words g e l) = omega (arith, judged_within)

  pub needs_some : 0 < needed ring c
  needs_some = go needs_of
    where
      go : Needs ring c → 0 < needed ring c
      go (its_header g e) = rw e (if_both (λ (n : ℕ). 0 < n) (bad_start (wants c.place) (header_at ring c)) (omega arith) judged_some)
      go (all_words g e l) = omega (arith, judged_some, judged_within)

module _ (ring : List ℕ) (c : Core) (w : ℕ) where
  abbrev words : ℕ
  words = waiting c.ringlength c.read w

  pub whole_waits : Whole ring c w ↔ (whole_words c.ringlength c.read (length_at ring c) (returns_at ring c) ≤ words)
  whole_waits =
      let x = whole_words_lem c.ringlength c.read (length_at ring c) words (returns_at ring c) in (
        (λ h. x.1 (h.words_wait, λ p. omega (arith, h.reach_end p))),
        (λ h. let y = x.0 h in record { words_wait = y.0; reach_end = λ p. omega (arith, y.1 p) }),
      )

  pub ready_needs : ready ring c w ≡ true → needed ring c ≤ words
  unfolding ready
  ready_needs e = leb-true _ _ e

  -- where the header is good
  pub ready_whole : ready ring c w ≡ true → GoodHeader ring c → Whole ring c w
  ready_whole e g = go (needs_of ring c)
    where
      go : Needs ring c → Whole ring c w
      go (its_header h n) = absurd (h g)
      go (all_words h n l) = whole_waits.1 (omega (arith, ready_needs e))

  pub not_ready : ready ring c w ≡ false → NoCommand ring c w
  unfolding ready
  not_ready e = go (needs_of ring c) (leb-false _ _ e)
    where
      go : Needs ring c → words < needed ring c → NoCommand ring c w
      go (its_header h n) l = refused (bad_start (wants c.place) (header_at ring c)) refl (rw n at l)
        where
          refused : (b : Bool) → bad_start (wants c.place) (header_at ring c) ≡ b
              → words < (if b then 1 else judged_words (kind_of (header_at ring c))) → NoCommand ring c w
          refused true b l = no_word (omega arith)
          refused false b l = not_judged (record { good_start = b; words_few = l })
      go (all_words h n m) l = not_whole h (λ x. omega (arith, whole_waits.0 x))

  pub none_ready : NoCommand ring c w → ready ring c w ≡ false
  unfolding ready
  none_ready (no_word e) = lt-leb (needed ring c) words (omega (arith, needs_some ring c))
  none_ready (not_whole g f) =
      ⊎_elim (λ p. absurd (f (ready_whole p g))) (λ p. p) (true_or_false (needed ring c ≤? words))
  none_ready (not_judged u) = lt-leb (needed ring c) words (omega (arith, u.words_few, needs_judged ring c u.good_start))

-- ---- the engine waits

module _ (ring : List ℕ) (s : State) where
  -- an engine that has not stopped waits exactly where no unit can be done
  pub impossible_waits : s.core.stop ≡ 0 → possible ring s.core s.write ≡ false → Waits ring s
  unfolding possible
  impossible_waits z e =
      let h = neither (drawing s.core.place) (ready ring s.core s.write) (rw (eq-eqb _ _ z) at e) in
      record { not_stopped = z; nothing_drawn = h.0; no_command = not_ready ring s.core s.write h.1 }

  pub waits_impossible : Waits ring s → possible ring s.core s.write ≡ false
  unfolding possible
  waits_impossible h =
      rw (eq-eqb _ _ h.not_stopped, h.nothing_drawn, none_ready ring s.core s.write h.no_command)

  -- and exactly where a run would answer so
  pub waits_word : (run_word ring s ≡ Waiting) ↔ Waits ring s
  unfolding run_word
  waits_word = (
    (λ e. said (s.core.stop =? 0) (possible ring s.core s.write) refl refl e),
    (λ h. rw (eq-eqb _ _ h.not_stopped, waits_impossible h)),
  )
    where
      said : (a b : Bool) → s.core.stop =? 0 ≡ a → possible ring s.core s.write ≡ b → run_word ring s ≡ Waiting → Waits ring s
      said true false ea eb e = impossible_waits (eqb-true _ _ ea) eb
      said true true ea eb e = let w : run_word ring s ≡ Spent = rw (ea, eb) in let z : ◌≡◌ {A = ℕ} 0 1 = cc in absurd (omega arith)
      said false b ea eb e = let w : run_word ring s ≡ Stopped = rw ea in let z : ◌≡◌ {A = ℕ} 0 1 = cc in absurd (omega arith)

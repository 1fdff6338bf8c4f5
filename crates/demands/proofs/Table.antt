-- What is proved of specs/Table.
use Rattle.std.specs.Prelude.{ℕ, ◌+◌, ◌≡◌, refl, Bool, true, false, ◌↔◌, List, if◌then◌else◌}
use Rattle.std.proofs.Common.{sym, subst, ◌∙◌, inl, inr, ⊎_elim, ltb-true, leb-true, lt-ltb, le-leb, eqb-true}
use Rattle.model.specs.Choice.{◌<?◌, ◌=?◌}
use Rattle.model.proofs.Choice.{not_both, either, or_left, or_right}
use Rattle.model.specs.Refusals.{Rule, first, Exactly, rising}
use Rattle.model.proofs.Refusals.{rising_positive, exactly, first_lowest}
use Rattle.model.specs.Bounds.{byte_outside, outside}
use Rattle.model.specs.Rectangle.{plus, minus}
use Rattle.model.specs.BltPixel.{blt_of, source_outside}
use Rattle.model.specs.Host.{host_word}
use Rattle.model.specs.Judging.{row27, row28}
use Rattle.model.specs.Unit.{command_rules, command_refusal}
use Rattle.model.specs.Calls.{setup_rules, accepted, refused, answered, setup, publish, restart, ask_room, run_refusal, run_units, ran_answer, run, number_of}
use Rattle.model.specs.Course.{Call, publishing, running, asking, restarting, Configuration}
use Rattle.model.specs.Perform.{answer_of}
use Rattle.model.specs.declared.State.{State}
use Rattle.model.specs.declared.Answer.{Answer}
use Rattle.model.specs.declared.Primitive.{Primitive}
use Rattle.model.specs.declared.Primitive.TheVariants.{Blt, Vector}
use Rattle.model.specs.declared.Source.{Source}
use Rattle.model.specs.declared.Source.TheVariants.{Unselected, Frame, Bits}
use Rattle.laws.specs.Some.{some_found, some_at}
use Rattle.laws.specs.Fit.{count_follows, command_rises}
use Rattle.demands.specs.Table.{rules_of, Given, PixelOutside, DestinationOutside, ReadOutside, SourceOutside, Table}

-- ---- a call answers the number of its rules

number_is : (n : ℕ) (accepts refuses : Answer) → number_of accepts.reply ≡ 0 → number_of refuses.reply ≡ n
    → number_of (if n =? 0 then accepts else refuses).reply ≡ n
number_is n accepts refuses p q = go (n =? 0) refl
  where
    go : (b : Bool) → n =? 0 ≡ b → number_of (if b then accepts else refuses).reply ≡ n
    go true e = p ∙ sym (eqb-true _ _ e)
    go false e = q

answered_number : (rules : List Rule) (kept moved : State) → number_of (answered rules kept moved).reply ≡ first rules
answered_number rules kept moved = number_is (first rules) (accepted moved) (refused kept (first rules)) refl refl

pub setup_first : (rl fl : ℕ) → number_of (setup rl fl).reply ≡ first (setup_rules rl fl)
unfolding setup
setup_first rl fl = answered_number _ _ _

pub call_first : (ring : List ℕ) (call : Call) (y : Configuration)
    → number_of (answer_of ring call y).reply ≡ first (rules_of ring call y)
unfolding publish ask_room restart run run_refusal ran_answer
call_first ring (publishing p) y = answered_number _ _ _
call_first ring (running budget) y =
    number_is _ (ran_answer ring y.state (run_units ring y.state y.frame budget)) (refused y.state _) refl refl
call_first ring asking y = answered_number _ _ _
call_first ring restarting y = answered_number _ _ _

pub call_rises : (ring : List ℕ) (call : Call) (y : Configuration) → rising 0 (rules_of ring call y) ≡ true
unfolding rising
call_rises ring (publishing p) y = refl
call_rises ring (running budget) y = refl
call_rises ring asking y = refl
call_rises ring restarting y = refl

-- ---- pixels outside

pixel_outside_lem : (framelength depth count offset : ℕ) (plus minus : ℕ → ℕ)
    → (outside framelength depth count offset plus minus ≡ true) ↔ PixelOutside framelength depth count offset plus minus
unfolding outside byte_outside
pixel_outside_lem framelength depth count offset plus minus = (
  (λ e.
      let f = some_found count _ e in
      let g = some_found depth _ f.2 in (
        f.0,
        f.1,
        g.0,
        g.1,
        ⊎_elim (λ h. inl (ltb-true _ _ h)) (λ h. inr (leb-true _ _ h)) (either (offset + plus f.0 + g.0 <? minus f.0) _ g.2),
      )),
  (λ h.
      some_at count _ h.0 h.1
      (some_at depth _ h.2 h.3
      (⊎_elim (λ q. or_left _ _ (lt-ltb _ _ q)) (λ q. or_right (offset + plus h.0 + h.2 <? minus h.0) _ (le-leb _ _ q)) h.4))),
)

row27_is : (primitive : Primitive) (registers : List ℕ) (framelength : ℕ)
    → (row27 registers primitive framelength ≡ true) ↔ DestinationOutside primitive registers framelength
row27_is Blt registers framelength = pixel_outside_lem framelength _ _ _ _ _
row27_is Vector registers framelength = pixel_outside_lem framelength _ _ _ _ _

row28_is : (primitive : Primitive) (registers : List ℕ) (framelength : ℕ)
    → (row28 registers primitive framelength ≡ true) ↔ SourceOutside primitive registers framelength
row28_is Vector registers framelength = ((λ e. absurd (not_both false e refl)), (λ h. absurd h))
row28_is Blt registers framelength = go (blt_of registers).source
  where
    go : (source : Source) → (source_outside framelength source ≡ true) ↔ ReadOutside framelength source
    go (Unselected color) = ((λ e. absurd (not_both false e refl)), (λ h. absurd h))
    go (Frame r) = pixel_outside_lem framelength _ _ _ _ _
    go (Bits m) = pixel_outside_lem framelength _ _ _ _ _

-- ---- the theorem

-- every list of rules rises, so the first that applies has the lowest number
given : (rules : List Rule) (number : ℕ) → rising 0 rules ≡ true → number ≡ first rules → Given rules number
given rules number e p = record {
  exact = subst (Exactly rules) (sym p) (exactly rules (rising_positive 0 rules e));
  lowest = first_lowest rules e;
}

pub table : Table
unfolding rising command_refusal
table = record {
  setup_number = λ rl fl. given (setup_rules rl fl) _ refl (setup_first rl fl);
  call_number = λ ring call y. given (rules_of ring call y) _ (call_rises ring call y) (call_first ring call y);
  command_number = λ ring c. given (command_rules ring c) _ (command_rises ring c) refl;
  row_3_count = λ s k feed h l b f g e.
      count_follows s.core.ringlength s.core.read s.write (host_word s.core.registers k) feed.before feed.count
      feed.returns h l b f g e;
  row_27 = row27_is;
  row_28 = row28_is;
}

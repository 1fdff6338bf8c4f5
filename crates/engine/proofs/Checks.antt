-- What a check's number says of the rules: the first that applies, or none; and what is answered by it.
use Rattle.std.proofs.Common.{◌≡◌, ℕ, ◌<◌, Bool, true, false, List, [], ◌∷◌, sym, refl, ◌∙◌, arith, ap, ne_eqb, Result, Ok, Err}
use Rattle.std.specs.Prelude.{⊤, IsErrAnd}
use Rattle.model.proofs.Refusals.{first_here, first_later}
use Rattle.model.specs.Choice.{◌=?◌}
use Rattle.model.specs.Refusals.{Rule, ◌when◌, first}
use Rattle.model.specs.Numbers.{number, number_of_check}
use Rattle.model.specs.Calls.{unfit, accepted, refused, answered}
use Rattle.model.specs.declared.Refusal.{Refusal}
use Rattle.model.specs.declared.State.{State}
use Rattle.laws.specs.Fit.{fit_parts}
use Rattle.judging.specs.Checks.{refusal_some}
use Rattle.engine.specs.Answers.{InRing}

-- what `?` hands on
pub handed_on : (check : Result ⊤ Refusal) (refusal : Refusal) → IsErrAnd check (λ e. e ≡ refusal) → number_of_check check ≡ number refusal
handed_on (Ok x) refusal h = absurd h
handed_on (Err e) refusal h = ap number h

-- what a first rule refuses alone it refuses with others behind it
pub refused_more : (rule : Rule) (rules : List Rule) (refusal : Refusal) → number refusal ≡ first (rule ∷ []) → number refusal ≡ first (rule ∷ rules)
unfolding first
refused_more rule rules refusal e = go rule.applies refl
  where
    go : (b : Bool) → rule.applies ≡ b → number refusal ≡ first (rule ∷ rules)
    go true p = rw p (rw p at e)
    go false p = absurd (refusal_some refusal (rw p at e))

not_three : ◌≡◌ {A = ℕ} 0 3 → ⊥
not_three z = omega arith

-- a state that 3, the first of these rules, does not refuse
pub fit_state : (s : State) (rules : List Rule) → 0 ≡ first (3 when unfit s ∷ rules) → unfit s ≡ false
unfolding first
fit_state s rules e = go (unfit s) refl
  where
    go : (b : Bool) → unfit s ≡ b → unfit s ≡ false
    go true p = absurd (not_three (rw p at e))
    go false p = p

pub in_ring : (s : State) (rules : List Rule) → 0 ≡ first (3 when unfit s ∷ rules) → InRing s
in_ring s rules e =
    let f = fit_parts s (fit_state s rules e) in
    record { read_in = f.read_in; write_in = f.write_in }

module _ (rules : List Rule) (kept moved : State) where
  pub answered_ok : 0 ≡ first rules → accepted moved ≡ answered rules kept moved
  answered_ok e = rw (← e)

  pub answered_err : (refusal : Refusal) → number refusal ≡ first rules → refused kept (number refusal) ≡ answered rules kept moved
  answered_err refusal e = rw (← e, ne_eqb (number refusal) 0 (refusal_some refusal))

-- What is proved of specs/Steps.
use Rattle.std.specs.Prelude.{ℕ, ◌≤◌, ◌≡◌, Bool, List}
use Rattle.std.proofs.Math.Path.{refl}
use Rattle.std.proofs.Common.{ap, ◌∙◌, ⊎_elim, arith, leb-true, le-leb, eqb-true}
use Rattle.std.proofs.Math.Bool.{true, false}
use Rattle.std.proofs.lemmas.Bool.{eqb-false}
use Rattle.model.specs.Choice.{◌=?◌}
use Rattle.model.proofs.Choice.{both, either, or_left, or_right}
use Rattle.model.specs.Ring.{waiting}
use Rattle.model.specs.Command.{kind_of, is_data}
use Rattle.model.specs.Unit.{Machine, header_at, command_refusal, needed, ready, stopped, command_unit, unit_at, unit, drawing, possible}
use Rattle.model.specs.declared.Core.{Core}
use Rattle.model.specs.declared.Place.{Place}
use Rattle.model.specs.declared.Place.TheVariants.{Idle, Drawing, Wanting, Fed}
use Rattle.model.specs.Steps.{Step, loads, takes, refuses, draws, feeds}

-- ---- what a unit is

pub step_of : (ring : List ℕ) (m : Machine) → Step ring m
unfolding unit
step_of ring m = go m.core.place refl
  where
    at : {q : Place} → m.core.place ≡ q → unit_at ring m.core.place m ≡ unit_at ring q m
    at p = ap (λ (q : Place). unit_at ring q m) p

    command : (a b : Bool) → command_refusal ring m.core =? 0 ≡ a → is_data (kind_of (header_at ring m.core)) ≡ b
        → drawing m.core.place ≡ false → unit ring m ≡ command_unit ring m → Step ring m
    command false b e d p u = refuses p (eqb-false _ _ e) (u ∙ (unfold command_unit in rw e))
    command true true e d p u = takes p (eqb-true _ _ e) d (u ∙ (unfold command_unit in rw (e, d)))
    command true false e d p u = loads p (eqb-true _ _ e) d (u ∙ (unfold command_unit in rw (e, d)))

    go : (q : Place) → m.core.place ≡ q → Step ring m
    go Idle p = command _ _ refl refl (ap drawing p) (at p ∙ (unfold unit_at in refl))
    go (Wanting k) p = command _ _ refl refl (ap drawing p) (at p ∙ (unfold unit_at in refl))
    go (Drawing primitive k) p = draws primitive k p (at p ∙ (unfold unit_at in refl))
    go (Fed k feed) p = feeds k feed p (at p ∙ (unfold unit_at in refl))

-- a refusal moves nothing but the stop number, and abandons a BLT that wants data
pub stopped_keeps : (c : Core) (number : ℕ)
    → ((stopped c number).registers ≡ c.registers) × ((stopped c number).read ≡ c.read)
    × ((stopped c number).completion ≡ c.completion) × ((stopped c number).place ≡ Idle)
    × ((stopped c number).stop ≡ number)
unfolding stopped
stopped_keeps c number = (refl, refl, refl, refl, refl)

-- ---- a later write pointer

pub possible_later : (ring : List ℕ) (c : Core) (w later : ℕ)
    → waiting c.ringlength c.read w ≤ waiting c.ringlength c.read later
    → possible ring c w ≡ true → possible ring c later ≡ true
unfolding possible ready
possible_later ring c w later h e =
    let x = both (c.stop =? 0) _ e in
    rw x.0
    (⊎_elim
    (λ p. or_left (drawing c.place) _ p)
    (λ p. or_right (drawing c.place) _ (le-leb (needed ring c) _ (let l = leb-true (needed ring c) _ p in omega arith)))
    (either (drawing c.place) (ready ring c w) x.1))

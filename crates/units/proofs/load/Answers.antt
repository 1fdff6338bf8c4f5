use Rattle.std.proofs.Common.{sym, ◌∙◌, subst, Option}
use Rattle.model.specs.declared.Primitive.{Primitive}
use Rattle.judging.specs.Checks.{refusal_some}
use Rattle.units.specs.Turns.{Loadable}
use Rattle.units.proofs.Loads.{load_nothing, load_refuses, load_draws}
use Rattle.units.proofs.load.Goals as goal

pub returns-in-None : goal.returns-in-None
returns-in-None c = let h = subst (λ (d : Option Primitive). Loadable c.args.ring.now c.args.core.now c.args.header d c.args.next) c.in-None.is c.requires in
    let l = rw c.requires.header_is at c.load-registers.ensures in
    rw c.retire-core.ensures (load_nothing _ _ l h)

pub returns-in-Ok : goal.returns-in-Ok
returns-in-Ok c = let h = subst (λ (d : Option Primitive). Loadable c.args.ring.now c.args.core.now c.args.header d c.args.next) c.in-Some.is c.requires in
    let l = rw c.requires.header_is at c.load-registers.ensures in
    load_draws _ _ l h (sym c.in-Ok.ensures) c.first_place-core.ensures

pub returns-in-Err : goal.returns-in-Err
returns-in-Err c = let h = subst (λ (d : Option Primitive). Loadable c.args.ring.now c.args.core.now c.args.header d c.args.next) c.in-Some.is c.requires in
    let l = rw c.requires.header_is at c.load-registers.ensures in
    c.halt.ensures ∙ load_refuses _ _ l h c.in-Err.ensures (refusal_some c.in-Err.refusal)

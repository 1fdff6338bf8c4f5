use Rattle.std.proofs.Common.{sym, refl, ◌∙◌}
use Rattle.model.specs.Calls.{setup}
use Rattle.model.specs.Refusals.{positive}
use Rattle.laws.specs.Fit.{fit_parts, fit_fresh}
use Rattle.engine.proofs.Checks.{answered_ok, answered_err}
use Rattle.model.proofs.Refusals.{none_first}
use Rattle.engine.proofs.setup.Goals as goal

pub accepted-requires : goal.accepted-requires
unfolding positive
accepted-requires c = let f = fit_parts _ (fit_fresh c.args.ringlength c.args.framelength (none_first _ refl (sym c.in-Ok.ensures))) in
    rw c.fresh-state.ensures (record { read_in = f.read_in; write_in = f.write_in })

pub returns-in-Ok : goal.returns-in-Ok
unfolding setup
returns-in-Ok c = rw (c.accepted.ensures, c.fresh-state.ensures) (answered_ok _ _ _ c.in-Ok.ensures)

pub returns-in-Err : goal.returns-in-Err
unfolding setup
returns-in-Err c = rw (c.refused.ensures, c.fresh.ensures) (answered_err _ _ _ c.in-Err.refusal c.in-Err.ensures)

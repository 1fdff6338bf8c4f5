use Rattle.std.proofs.Common.{◌∙◌, sym, refl, arith}
use Rattle.model.specs.Refusals.{positive}
use Rattle.model.proofs.Refusals.{none_first}
use Rattle.model.specs.Calls.{publish_rules, publish}
use Rattle.laws.specs.Modular.{accepted_in}
use Rattle.engine.proofs.Checks.{in_ring, answered_ok, answered_err}
use Rattle.engine.proofs.publish.Goals as goal

pub accepted-requires : goal.accepted-requires
unfolding positive
accepted-requires c = let f = in_ring c.args.s _ c.in-Ok.ensures in
    let h = none_first (publish_rules c.args.s c.args.p) refl (sym c.in-Ok.ensures) in
    record { read_in = f.read_in; write_in = omega (arith, f.write_in, (accepted_in _ _ _ _ h.1).0) }

pub returns-in-Ok : goal.returns-in-Ok
unfolding publish
returns-in-Ok c = rw c.accepted.ensures (answered_ok _ _ _ c.in-Ok.ensures)

pub returns-in-Err : goal.returns-in-Err
unfolding publish
returns-in-Err c = rw c.refused.ensures (answered_err _ _ _ c.in-Err.refusal c.in-Err.ensures)

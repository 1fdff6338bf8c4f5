use Rattle.std.proofs.Common.{◌∙◌}
use Rattle.model.specs.Calls.{ask_room}
use Rattle.engine.proofs.Checks.{in_ring, answered_ok, answered_err}
use Rattle.engine.proofs.room.Goals as goal

pub accepted-requires : goal.accepted-requires
accepted-requires c = let f = in_ring c.args.s _ c.in-Ok.ensures in
    record { read_in = f.read_in; write_in = f.write_in }

pub returns-in-Ok : goal.returns-in-Ok
unfolding ask_room
returns-in-Ok c = rw c.accepted.ensures (answered_ok _ _ _ c.in-Ok.ensures)

pub returns-in-Err : goal.returns-in-Err
unfolding ask_room
returns-in-Err c = rw c.refused.ensures (answered_err _ _ _ c.in-Err.refusal c.in-Err.ensures)

use Rattle.std.proofs.Common.{[], ◌∙◌}
use Rattle.model.proofs.Refusals.{first_later}
use Rattle.engine.proofs.Checks.{handed_on, refused_more, fit_state, in_ring}
use Rattle.engine.proofs.check_publish.Goals as goal

pub returns-in_err-check_room : goal.returns-in_err-check_room
returns-in_err-check_room c = handed_on _ _ c.from_residual.ensures.1 ∙ refused_more _ _ c.in_err-check_room.field-0.0 c.in_err-check_room.ensures

pub check_position-requires : goal.check_position-requires
check_position-requires c = let f = in_ring c.args.s.now [] c.in_ok-check_room.ensures in (f.read_in, f.write_in)

pub returns : goal.returns
returns c = first_later _ _ (fit_state c.args.s.now [] c.in_ok-check_room.ensures) c.check_position.ensures

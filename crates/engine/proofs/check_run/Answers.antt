use Rattle.std.proofs.Common.{◌∙◌}
use Rattle.engine.proofs.Checks.{handed_on, refused_more}
use Rattle.engine.proofs.check_run.Goals as goal

pub returns-in_err-check_room : goal.returns-in_err-check_room
returns-in_err-check_room c = handed_on _ _ c.from_residual.ensures.1 ∙ refused_more _ _ c.in_err-check_room.field-0.0 c.in_err-check_room.ensures

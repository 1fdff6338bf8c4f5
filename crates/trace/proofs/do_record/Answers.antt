use Rattle.std.proofs.Common.{length-take, arith}
use Rattle.tracing.specs.Trace.{steps_reached}
use Rattle.trace.proofs.do_record.Goals as goal

pub returns-in-Ok-write : goal.returns-in-Ok-write
returns-in-Ok-write g c =
    steps_reached _ _ _ _ _
    (omega (arith, length-take c.in-Ok.n c.read.new.buf, c.read.auto.buf, c.empty_record-part.ensures))
    c.next_step-text.ensures

pub returns-in-Err : goal.returns-in-Err
returns-in-Err g c =
    steps_reached _ _ _ _ _
    (omega (arith, length-take c.in-Ok.n c.read.new.buf, c.read.auto.buf, c.empty_record-part.ensures))
    c.next_step-text.ensures

use Rattle.tracing.specs.Trace.{begins_bad, begins_good}
use Rattle.tracing.proofs.Records.{none_begins_bad, some_begins}
use Rattle.tracing.proofs.first_step.Goals.{then-is_refused, else-is_refused}
use Rattle.tracing.proofs.first_step.Goals as goal

pub returns-in_default : goal.returns-in_default
returns-in_default c = begins_bad c.args.head.now c.setup.result (none_begins_bad _ c.in_default.ensures) c.setup.ensures c.bad_line.ensures

pub returns : goal.returns
returns c =
    let b = some_begins c.args.head.now _ c.in-Some.ensures in
    begins_good c.args.head.now c.setup-made.result b.0 (rw (b.1, b.2) at c.setup-made.ensures) c.call_line.ensures
    (elim c.if-is_refused.branch [
      | then-is_refused w ↦ rw (w.result-is, ← c.is_refused.ensures, w.if-is_refused.true)
      | else-is_refused w ↦ rw (w.result-is, ← c.is_refused.ensures, w.if-is_refused.false)
    ])

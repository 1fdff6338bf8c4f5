use Rattle.tracing.specs.Trace.{held, steps_last, steps_store, steps_call}
use Rattle.tracing.proofs.Records.{none_bad, some_good, store_is, called_is, op_most, same_call}
use Rattle.std.proofs.Common.{refl, length}
use Rattle.tracing.proofs.next_step.Goals as goal

pub returns-in-None : goal.returns-in-None
returns-in-None c =
    steps_last c.args.part.now (held c.args.s c.args.ring.now c.args.frame.now) (none_bad _ _ c.in-None.ensures) c.last_line.ensures

pub returns-in-Some-Store : goal.returns-in-Some-Store
returns-in-Some-Store c =
    let g = some_good c.args.part.now (length c.args.ring.now) _ c.in-Some-Store.ensures in
    let s = store_is _ _ _ _ _ (rw c.in-Some-Store.field-0-is at g.1) in
    rw c.new.ensures (steps_store c.args.part.now (held c.args.s c.args.ring.now c.args.frame.now) g.0 refl s.1 s.0 _ s.2)

pub returns-in-Some-Called : goal.returns-in-Some-Called
returns-in-Some-Called c =
    let t = held c.args.s c.args.ring.now c.args.frame.now in
    let g = some_good c.args.part.now (length c.args.ring.now) _ c.in-Some-Called.ensures in
    let s = called_is _ _ _ c.in-Some-Called.call (rw c.in-Some-Called.field-0-is at g.1) in
    steps_call c.args.part.now t g.0 refl refl s.0
    (rw (← same_call _ _ t s.0 (op_most _ _ g.0), ← s.1) c.call_step.ensures)

use Rattle.units.proofs.Advances.{spent_rests, stop_rests, command_advanced, painted_onward}
use Rattle.model.specs.Steps.{machine}
use Rattle.model.specs.Unit.{drawing}
use Rattle.std.proofs.Common.{ap, arith}
use Rattle.units.proofs.advance.Goals as goal
use Rattle.units.proofs.advance.Goals.{then-left-eq0-via-then-left-eq0, then-left-eq0-via-else-left-eq0+then-core-ne0}

pub returns-then-left-eq0 : goal.returns-then-left-eq0
returns-then-left-eq0 c = let m = machine c.args.core.now c.args.table.now c.args.frame.now in
    elim c.then-left-eq0.branch [
      | then-left-eq0-via-then-left-eq0 w ↦ spent_rests _ _ m _ w.if-left-eq0.true
      | then-left-eq0-via-else-left-eq0+then-core-ne0 w ↦ stop_rests _ _ m _ w.if-core-ne0.true
    ]

pub returns-in-Idle : goal.returns-in-Idle
returns-in-Idle c = let m = machine c.args.core.now c.args.table.now c.args.frame.now in
    let t = c.take.ensures in
    rw c.then_some.ensures
    (command_advanced c.args.ring.now c.args.write m c.args.left _ c.requires c.if-core-ne0.false (ap drawing c.in-Idle.is) (omega (arith, c.if-left-eq0.false))
    t.taken t.core t.table)

pub returns-in-Drawing : goal.returns-in-Drawing
returns-in-Drawing c = painted_onward c.args.ring.now c.args.write (machine c.args.core.now c.args.table.now c.args.frame.now) c.args.left c.requires c.in-Drawing.is c.paint.ensures

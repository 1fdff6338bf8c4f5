use Rattle.units.proofs.Advances.{command_advanced, fed_on_onward}
use Rattle.units.proofs.Loads.{wanting_command}
use Rattle.model.specs.Steps.{machine}
use Rattle.model.specs.Unit.{wants, drawing}
use Rattle.std.proofs.Common.{sym, ap, arith}
use Rattle.units.proofs.advance_data.Goals as goal

pub returns-in-Wanting : goal.returns-in-Wanting
returns-in-Wanting c = let m = machine c.args.core.now c.args.table.now c.args.frame.now in
    let t = c.take_data.ensures in
    let w = wanting_command c.args.ring.now c.args.core.now c.args.write (ap wants c.in-Wanting.is) c.args.table.now in
    rw c.then_some.ensures
    (command_advanced c.args.ring.now c.args.write m c.args.left _ c.requires c.if-core-ne0.false (ap drawing c.in-Wanting.is) (omega (arith, c.if-left-eq0.false))
    t.taken t.core (sym w))

pub returns-in-Fed : goal.returns-in-Fed
returns-in-Fed c = fed_on_onward c.args.ring.now c.args.write (machine c.args.core.now c.args.table.now c.args.frame.now) c.args.left c.requires c.in-Fed.is c.feed_pixels.ensures

use native.Mathlib.Omega.{arith}
use Rattle.laws.specs.Order.{remain_all, remain_none}
use Rattle.laws.specs.Changes.{change_next}
use Rattle.laws.specs.Plain.{mark_rule}
use Rattle.writers.proofs.ByBits.lanes.Goals as goal

pub loop-k-init : goal.loop-k-init
loop-k-init g c = remain_all _

pub loop-k-preserved : goal.loop-k-preserved
loop-k-preserved g c = let number = g.P.Pixel.number in
    let inks = c.args.self.inks in
    change_next g.P.Pixel.BYTES (mark_rule c.args.self.bits (number inks.set.flip) (number inks.set.keep) (number inks.clear.flip) (number inks.clear.keep)) c.args.at c.loop-k.invariant c.loop-k-test.true
    (rw c.BYTES.ensures (omega arith)) (rw (c.blend.ensures, c.pick-flip.ensures, c.pick-keep.ensures, c.load.ensures) at c.store.ensures)

pub returns : goal.returns
returns g c = remain_none c.loop-k.invariant c.loop-k-test.false

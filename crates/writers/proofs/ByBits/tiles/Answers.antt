use Prim.Native.Nat.{◌+◌, ◌*◌}
use mathlib.Core.Path.{◌≡◌}
use native.Mathlib.Omega.{arith}
use Rattle.laws.specs.Order.{remain_none}
use Rattle.laws.specs.Eights.{chunk_next}
use Rattle.laws.specs.Plain.{mark_round}
use Rattle.writers.proofs.ByBits.tiles.Goals as goal

pub loop-t-preserved : goal.loop-t-preserved
loop-t-preserved g c = let number = g.P.Pixel.number in
    let inks = c.args.self.inks in
    let more : (c.loop-t.t + 1) * 32 ≡ c.loop-t.t * 32 + 32 = omega arith in
    rw more
    (chunk_next g.P.Pixel.BYTES (mark_round c.args.self.bits (number inks.set.flip) (number inks.set.keep) (number inks.clear.flip) (number inks.clear.keep)) 0 32 c.loop-t.invariant
    (omega (arith, c.loop-t-test.true)) (omega arith) (rw c.BYTES-in-loop-t.ensures (omega arith)) c.lanes.ensures)

pub returns-clause-written : goal.returns-clause-written
returns-clause-written g c = remain_none c.loop-t.invariant (omega (arith, c.loop-t-test.false))

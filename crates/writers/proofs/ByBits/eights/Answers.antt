use Prim.Native.Nat.{◌+◌, ◌*◌}
use mathlib.Core.Path.{◌≡◌}
use native.Mathlib.Omega.{arith}
use Rattle.laws.specs.Order.{remain_none}
use Rattle.laws.specs.Eights.{chunk_next}
use Rattle.laws.specs.Plain.{mark_round}
use Rattle.writers.proofs.ByBits.eights.Goals as goal

pub loop-m-preserved : goal.loop-m-preserved
loop-m-preserved g c = let number = g.P.Pixel.number in
    let inks = c.args.self.inks in
    let more : (c.loop-m.m + 1) * 8 ≡ c.loop-m.m * 8 + 8 = omega arith in
    rw more
    (chunk_next g.P.Pixel.BYTES (mark_round c.args.self.bits (number inks.set.flip) (number inks.set.keep) (number inks.clear.flip) (number inks.clear.keep)) c.args.k 8 c.loop-m.invariant
    (omega (arith, rw c.BYTES.ensures at c.loop-m-test.true, c.requires.eights)) (omega (arith, c.requires.eights)) (rw c.BYTES-in-loop-m.ensures (omega arith)) c.lanes.ensures)

pub returns : goal.returns
returns g c = remain_none c.loop-m.invariant (omega (arith, rw c.BYTES.ensures at c.loop-m-test.false, c.requires.eights))

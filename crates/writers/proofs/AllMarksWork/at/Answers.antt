use Prim.Native.Nat.{◌/◌}
use mathlib.Core.Path.{refl, ◌∙◌}
use lib.ListN.{length}
use native.Mathlib.Omega.{arith}
use Rattle.laws.specs.Eights.{same_row, then_rest, then_few}
use Rattle.laws.specs.Plain.{mark_round, mark_low}
use Rattle.writers.proofs.AllMarksWork.at.Goals as goal

pub returns : goal.returns
returns g c = let number = g.P.Pixel.number in
    let deep = g.P.Pixel.BYTES in
    let row = c.args.row.now in
    let narrow = c.of-marks.ensures in
    let bits = c.of-marks.result.bits in
    let inks = c.of-marks.result.inks in
    let round = mark_round bits (number inks.set.flip) (number inks.set.keep) (number inks.clear.flip) (number inks.clear.keep) in
    let same = same_row deep round row {n = length row / deep} c.tiles-k.ensures.inside c.tiles-k.ensures.written in
    let whole = then_rest deep round row (omega (arith, c.tiles-k.ensures.eights, c.tiles-k.ensures.inside)) c.tiles-k.ensures.written (rw same at c.eights.ensures) in
    then_few deep round row (omega arith) whole (omega arith) (rw c.BYTES.ensures (omega arith)) (rw (c.BYTES.ensures, c.BYTES-2.ensures) refl) c.few.ensures
    ∙ mark_low deep narrow.set narrow.clear bits c.args.self.bits narrow.bits (length row / deep) 0 row

use mathlib.Core.Path.{◌∙◌}
use native.Mathlib.Omega.{arith}
use Rattle.laws.specs.Order.{remain_none}
use Rattle.laws.specs.Changes.{change_next}
use Rattle.laws.specs.Pixels.{store_low}
use Rattle.writers.proofs.OneValueWork.at.Goals as goal

pub loop-i-preserved : goal.loop-i-preserved
loop-i-preserved g c = change_next g.P.Pixel.BYTES (λ m old. c.args.self.value) 0 c.loop-i.invariant (rw c.BYTES.ensures at c.loop-i-test.true)
    (rw c.BYTES-in-loop-i.ensures (omega arith)) (rw c.low-value.ensures at c.store.ensures ∙ store_low g.P.Pixel.BYTES _ _ c.args.self.value)

pub returns : goal.returns
returns g c = remain_none c.loop-i.invariant (rw c.BYTES.ensures at c.loop-i-test.false)

use Rattle.std.proofs.Common.{arith}
use Rattle.model.specs.Rectangle.{pixel_byte}
use Rattle.rectangle.proofs.pixel_byte.Goals as goal

pub returns-then-r : goal.returns-then-r
unfolding pixel_byte
returns-then-r c = rw c.if-r.true (omega (arith, c.further-plus.ensures.value, c.back-minus.ensures.value))

pub returns-else-r : goal.returns-else-r
unfolding pixel_byte
returns-else-r c = rw c.if-r.false (omega (arith, c.further-plus.ensures.value, c.back-minus.ensures.value))

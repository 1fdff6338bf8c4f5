use native.Mathlib.Omega.{arith}
use Rattle.model.specs.Pattern.{pattern_index}
use Rattle.pixel.proofs.pattern_index.Goals as goal

pub returns-then-negative : goal.returns-then-negative
unfolding pattern_index
returns-then-negative c = (rw c.if-negative.true, omega arith)

pub returns-else-negative : goal.returns-else-negative
unfolding pattern_index
returns-else-negative c = (rw c.if-negative.false, omega arith)

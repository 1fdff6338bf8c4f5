use Rattle.model.specs.Ring.{word_at}
use Rattle.laws.specs.Modular.{wrap_before, wrap_past}
use native.Mathlib.Omega.{arith}
use Rattle.ring.proofs.word_at.Goals as goal

pub returns-then-ahead-size : goal.returns-then-ahead-size
unfolding word_at
returns-then-ahead-size c = rw (wrap_before _ _ c.if-ahead-size.true)

pub returns-else-ahead-size : goal.returns-else-ahead-size
unfolding word_at
returns-else-ahead-size c = rw (wrap_past _ _ c.if-ahead-size.false (omega arith))

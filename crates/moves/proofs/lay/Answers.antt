use mathlib.Core.Path.{refl}
use native.Mathlib.Omega.{arith}
use Rattle.laws.specs.Moves.{laid_none, laid_next}
use Rattle.moves.proofs.lay.Goals as goal

pub loop-i-init : goal.loop-i-init
loop-i-init c = laid_none refl

pub loop-i-preserved : goal.loop-i-preserved
loop-i-preserved c = laid_next c.loop-i.invariant (omega arith) (omega arith)

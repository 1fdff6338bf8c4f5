use Rattle.laws.specs.Modular.{distance_ahead, distance_behind}
use mathlib.Core.Path.{sym}
use native.Mathlib.Omega.{arith}
use Rattle.ring.proofs.gap.Goals as goal

pub returns-then-from-to-clause-is : goal.returns-then-from-to-clause-is
returns-then-from-to-clause-is c = let a = c.args in sym (distance_ahead a.size a.from a.to (omega arith) (omega arith))

pub returns-else-from-to-clause-is : goal.returns-else-from-to-clause-is
returns-else-from-to-clause-is c = let a = c.args in sym (distance_behind a.size a.from a.to (omega arith) (omega arith))

use native.Mathlib.Omega.{arith}
use Rattle.laws.specs.Pixels.{depth_last}
use Rattle.tiles.proofs.eight.Goals as goal

pub returns-then-depth-eq1 : goal.returns-then-depth-eq1
returns-then-depth-eq1 c = rw c.if-depth-eq1.true c.eight1.ensures

pub returns-then-depth-eq2 : goal.returns-then-depth-eq2
returns-then-depth-eq2 c = rw c.if-depth-eq2.true c.eight2.ensures

pub eight4-requires : goal.eight4-requires
eight4-requires c = omega (arith, depth_last c.requires.0 c.if-depth-eq1.false c.if-depth-eq2.false, c.requires.1)

pub returns : goal.returns
returns c = rw (depth_last c.requires.0 c.if-depth-eq1.false c.if-depth-eq2.false) c.eight4.ensures

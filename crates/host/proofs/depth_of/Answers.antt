use Rattle.laws.specs.Pixels.{depth_of_most}
use mathlib.Core.Path.{refl}
use Rattle.host.proofs.depth_of.Goals as goal

pub returns : goal.returns
returns c = rw (c.depth_of.ensures, c.bits.ensures.0) (refl, depth_of_most _)

use Rattle.model.specs.Pixel.{read_pixel}
use native.Mathlib.Omega.{arith}
use Rattle.pixel.proofs.width.U16Pixel.load.Goals as goal

pub returns : goal.returns
unfolding read_pixel
returns c = omega arith

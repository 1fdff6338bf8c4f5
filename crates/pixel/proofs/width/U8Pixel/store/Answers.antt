use Prim.Native.Nat.{◌%◌}
use mathlib.Core.Path.{◌≡◌}
use native.Mathlib.Omega.{arith}
use Rattle.model.specs.Pixel.{store_pixel}
use Rattle.pixel.proofs.width.U8Pixel.store.Goals as goal

pub returns : goal.returns
unfolding store_pixel
returns c = let all : c.args.self % 256 ≡ c.args.self = omega (arith, c.ranges.self.fits) in rw all

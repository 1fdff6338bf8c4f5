use Prim.Native.Nat.{◌%◌, ◌/◌}
use mathlib.Core.Path.{◌≡◌}
use native.Mathlib.Omega.{arith}
use Rattle.model.specs.Pixel.{store_pixel}
use Rattle.pixel.proofs.width.U16Pixel.store.Goals as goal

pub returns : goal.returns
unfolding store_pixel
returns c = let high : c.args.self / 256 % 256 ≡ c.args.self / 256 = omega (arith, c.ranges.self.fits) in rw high

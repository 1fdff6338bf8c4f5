use Prim.Native.Nat.{◌+◌, ◌%◌, ◌/◌}
use mathlib.Core.Path.{◌≡◌}
use native.Mathlib.Omega.{arith}
use Rattle.model.specs.Pixel.{store_pixel}
use Rattle.pixel.proofs.width.U32Pixel.store.Goals as goal

pub returns : goal.returns
unfolding store_pixel
returns c = let a = c.args in
    let third : a.self / 256 / 256 ≡ a.self / 65536 = omega arith in
    let top : a.self / 65536 / 256 % 256 ≡ a.self / 16777216 = omega (arith, c.ranges.self.fits) in
    let at2 : a.at + 1 + 1 ≡ a.at + 2 = omega arith in
    let at3 : a.at + 2 + 1 ≡ a.at + 3 = omega arith in
    rw (third, top, at2, at3)

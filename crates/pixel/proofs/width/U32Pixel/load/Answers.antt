use Prim.Native.Nat.{◌+◌}
use mathlib.Core.Path.{◌≡◌}
use native.Mathlib.Omega.{arith}
use Rattle.model.specs.Pixel.{read_pixel}
use Rattle.pixel.proofs.width.U32Pixel.load.Goals as goal

pub returns : goal.returns
unfolding read_pixel
returns c =
    let at2 : c.args.at + 1 + 1 ≡ c.args.at + 2 = omega arith in
    let at3 : c.args.at + 2 + 1 ≡ c.args.at + 3 = omega arith in
    rw (at2, at3) (omega arith)

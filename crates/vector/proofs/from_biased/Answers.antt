use Prim.Native.Nat.{ℕ, ◌<◌}
use mathlib.Core.Path.{◌≡◌}
use native.Mathlib.Omega.{arith}
use lib.IntN.{pos, ◌-ℤ◌}
use mir.Syntax.{w16, w32}
use mir.Val.{SFits, to_z}
use mir.ValLaws.{to_z-of_z}
use borrow.Author.Tests.{lt-ltb}
use Rattle.laws.specs.ClosedForm.{bias, unbiased}
use Rattle.laws.specs.Signs.{mag_sub}
use Rattle.vector.proofs.from_biased.Goals as goal

-- The difference fits both widths.
module _ (x : ℕ) (h : x < 65_536) where
  value : to_z w32 x -ℤ pos bias ≡ unbiased x
  value = simp (lt-ltb x 2147483648 (omega arith))

  narrow : SFits w16 (unbiased x)
  narrow = record { sfits = mag_sub bias x bias (omega arith) (omega arith) }

  wide : SFits w32 (unbiased x)
  wide = record { sfits = omega (arith, narrow.sfits) }

pub overflow_sub-result : goal.overflow_sub-result
overflow_sub-result c = rw (value c.args.x c.requires) (wide c.args.x c.requires)

pub overflow_cast-result-2 : goal.overflow_cast-result-2
overflow_cast-result-2 c = let x = c.args.x in
    rw (value x c.requires, to_z-of_z w32 (unbiased x) (wide x c.requires)) (narrow x c.requires)

pub returns : goal.returns
returns c = let x = c.args.x in
    rw (value x c.requires, to_z-of_z w32 (unbiased x) (wide x c.requires), to_z-of_z w16 (unbiased x) (narrow x c.requires))

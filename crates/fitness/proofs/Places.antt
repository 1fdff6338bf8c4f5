-- A BLT that passes the tests of a place has a depth, and pixel k is one of its own.
use Rattle.std.proofs.Common.{◌≡◌, ℕ, ◌<◌, false, eqb-true}
use Rattle.std.proofs.lemmas.Bool.{not-false, leb-false}
use Rattle.model.specs.Refusals.{any}
use Rattle.model.proofs.Refusals.{any_none}
use Rattle.model.specs.Registers.{format_code}
use Rattle.model.specs.Formats.{Depth, format_of, depth_of}
use Rattle.model.specs.BltPixel.{rectangle_of, blt_of}
use Rattle.model.specs.Unit.{pixel_count}
use Rattle.model.specs.Calls.{pixel_tests}
use Rattle.model.specs.declared.Core.{Core}
use Rattle.model.specs.declared.Primitive.TheVariants.{Blt}
use Rattle.laws.specs.Ranges.{fit_blt}

pub pixel_good : (c : Core) (k : ℕ) → any (pixel_tests c Blt k) ≡ false
    → (Depth (depth_of (format_of (format_code c.registers)))) × (k < pixel_count Blt c.registers)
unfolding blt_of rectangle_of
pixel_good c k e =
    let h = any_none (pixel_tests c Blt k) e in
    ((fit_blt c.registers c.framelength (eqb-true _ _ (not-false _ h.1.0))).destination_fit.ranged.deep, leb-false _ _ h.1.1.0)

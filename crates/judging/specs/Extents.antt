-- What extents say: whether some byte of a rectangle, or of what a source reads, lies outside.
use Rattle.std.specs.Prelude.{ℕ, ◌≡◌, Option}
use Rattle.std.proofs.Common.{sym, ap, ◌∙◌}
use Rattle.model.specs.Rectangle.{pixels_of, plus, minus, rectangle_outside, rectangle_extent}
use Rattle.model.specs.BltPixel.{source_outside}
use Rattle.model.specs.declared.Extent.{Extent}
use Rattle.model.specs.declared.MonoSource.{MonoSource}
use Rattle.model.specs.declared.Rectangle.{Rectangle}
use Rattle.model.specs.declared.Source.{Source}
use Rattle.model.specs.declared.Source.TheVariants.{Frame, Bits}
use Rattle.laws.specs.Some.{is_outside, extent_outside}

pub rectangle_extent_lem : (framelength : ℕ) (r : Rectangle) {e : Option Extent} → e ≡ rectangle_extent framelength r
    → is_outside e ≡ rectangle_outside framelength r
rectangle_extent_lem framelength r q = sym (extent_outside framelength r.depth (pixels_of r) r.offset (plus r) (minus r) q)

module _ {s : Source} {e : Option Extent} (framelength : ℕ) where
  pub frame_extent : {r : Rectangle} → s ≡ Frame r → e ≡ rectangle_extent framelength r → is_outside e ≡ source_outside framelength s
  frame_extent {r} p q = rectangle_extent_lem framelength r q ∙ ap (source_outside framelength) (sym p)

  pub bits_extent : {m : MonoSource} → s ≡ Bits m → e ≡ rectangle_extent framelength m.bytes → is_outside e ≡ source_outside framelength s
  bits_extent {m} p q = rectangle_extent_lem framelength m.bytes q ∙ ap (source_outside framelength) (sym p)

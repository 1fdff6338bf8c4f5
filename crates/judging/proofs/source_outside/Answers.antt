use Rattle.std.proofs.Common.{◌≡◌, Bool, not, Option, is_some, is_none, sym, ap, ◌∙◌}
use Rattle.std.proofs.Math.Bool.{not-not}
use Rattle.judging.specs.Extents.{frame_extent, bits_extent}
use Rattle.judging.proofs.source_outside.Goals as goal

none_told : {A : Type 0} (o : Option A) {told : Bool} → is_some o ≡ not told → told ≡ is_none o
none_told o {told} e = sym (not-not told) ∙ ap not (sym e)

pub returns-in-Frame : goal.returns-in-Frame
returns-in-Frame c = none_told _ c.is_none.ensures ∙ frame_extent _ c.in-Frame.is c.extent.ensures

pub returns-in-Bits : goal.returns-in-Bits
returns-in-Bits c = none_told _ c.is_none-in-Bits.ensures ∙ bits_extent _ c.in-Bits.is c.extent-in-Bits.ensures

use mathlib.Core.Path.{refl}
use native.Mathlib.Omega.{arith}
use Rattle.laws.specs.Lows.{destination_span, low_reached, bytes_in}
use Rattle.laws.specs.Changes.{changes_part}
use Rattle.laws.specs.Plain.{mono_changes}
use Rattle.rows.proofs.mono.Goals as goal

pub mono_bits-bits-requires : goal.mono_bits-bits-requires
mono_bits-bits-requires c = (rw c.requires.2 at c.requires.0.fit.pattern_fit, c.low_column-low.ensures.1, omega (arith, c.requires.0.row, c.requires.0.fit.destination_fit.ranged.high_most))

pub pixel_byte-a-requires : goal.pixel_byte-a-requires
pixel_byte-a-requires c = rw c.low_column-low.ensures.0 (low_reached (destination_span c.requires.0 c.requires.1))

pub overflow_add-a : goal.overflow_add-a
overflow_add-a c = omega (arith, bytes_in (destination_span c.requires.0 c.requires.1) {a = c.pixel_byte-a.result} (rw (← c.low_column-low.ensures.0) c.pixel_byte-a.ensures), c.requires.0.small)

pub slice_bounds-marks-end : goal.slice_bounds-marks-end
slice_bounds-marks-end c = bytes_in (destination_span c.requires.0 c.requires.1) (rw (← c.low_column-low.ensures.0) c.pixel_byte-a.ensures)

pub marks-requires : goal.marks-requires
marks-requires c = c.requires.0.fit.destination_fit.ranged.deep

pub returns : goal.returns
returns c = changes_part c.requires.0 c.requires.1
    (mono_changes c.args.b c.requires.3 c.requires.2 _ _ _ c.requires.0.fit.destination_fit.ranged.deep c.mono_bits-bits.result c.blend_of.ensures.0
    c.blend_of.ensures.1 c.blend_unless.ensures.0 c.blend_unless.ensures.1
    (rw (← c.low_column-low.ensures.0) c.mono_bits-bits.ensures))
    (rw (← c.low_column-low.ensures.0) c.pixel_byte-a.ensures) _ refl (λ i. (c.slice_known-1.given i).fits) c.marks.ensures

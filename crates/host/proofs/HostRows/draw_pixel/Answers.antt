use native.Mathlib.Omega.{arith}
use Rattle.model.specs.BltPixel.{draw_from}
use Rattle.laws.specs.Rows.{destination_within}
use Rattle.host.proofs.HostRows.draw_pixel.Goals as goal

pub with_source-o-requires : goal.with_source-o-requires
with_source-o-requires c =
    let pixel = c.requires.pixel in
    let ranged = pixel.fit.destination_fit.ranged in
    (c.requires.fit, omega (arith, pixel.column, ranged.wide_most), omega (arith, pixel.row, ranged.high_most))

pub pixel_byte-requires : goal.pixel_byte-requires
pixel_byte-requires c = (destination_within c.requires.pixel).reached

pub draw-requires : goal.draw-requires
draw-requires c =
    let w = destination_within c.requires.pixel in
    (c.requires.pixel.fit.destination_fit.ranged.deep, rw c.pixel_byte.ensures w.bytes_in)

pub returns : goal.returns
unfolding draw_from
returns c = rw (c.draw.ensures, c.pixel_byte.ensures, c.with_source-o.ensures, c.value_of-value.ensures, c.word_at-word.ensures, c.byte_of-at.ensures.0)

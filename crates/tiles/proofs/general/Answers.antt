use mathlib.Core.Path.{refl, ◌∙◌}
use native.Mathlib.Omega.{arith}
use Rattle.model.specs.BltPixel.{with_color}
use Rattle.laws.specs.Order.{remain_all, remain_next, remain_none}
use Rattle.laws.specs.Rows.{length_at, operands_drawn, row_pixel, row_reached, row_in}
use Rattle.laws.specs.Tiles.{color_in, pixel_color}
use Rattle.tiles.proofs.general.Goals as goal

pub loop-m-init : goal.loop-m-init
loop-m-init c = remain_all _

pub overflow_add-x : goal.overflow_add-x
overflow_add-x c = omega (arith, c.requires.columns, c.requires.fit.destination_fit.ranged.wide_most)

pub color_at-color-requires : goal.color_at-color-requires
color_at-color-requires c = (
  omega (arith, c.requires.columns, c.requires.fit.destination_fit.ranged.wide_most),
  omega (arith, c.requires.row, c.requires.fit.destination_fit.ranged.high_most),
)

pub at-o-requires : goal.at-o-requires
at-o-requires c = rw c.with_color.ensures (pixel_color (row_pixel c.requires (omega arith) c.loop-m.invariant.same) _)

pub pixel_byte-requires : goal.pixel_byte-requires
pixel_byte-requires c = row_reached c.requires (omega arith)

pub draw-requires : goal.draw-requires
draw-requires c = row_in c.requires c.loop-m-test.true c.loop-m.invariant.same c.pixel_byte.ensures

pub loop-m-preserved : goal.loop-m-preserved
loop-m-preserved c = remain_next (λ x. length_at _ x c.args.j) c.loop-m.invariant c.loop-m-test.true
    (c.draw.ensures
    ∙ operands_drawn (with_color c.args.b (color_in c.args.tile.now.colors c.args.b.destination c.args.tile.now.row c.args.tile.now.column _ c.args.j)) _ _ _ refl
    c.pixel_byte.ensures (c.at-o.ensures ∙ rw (c.with_color.ensures, c.color_at-color.ensures)))

pub returns : goal.returns
returns c = remain_none c.loop-m.invariant (omega arith)

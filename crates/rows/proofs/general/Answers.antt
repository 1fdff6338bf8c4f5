use mathlib.Core.Path.{refl, ◌∙◌}
use native.Mathlib.Omega.{arith}
use Rattle.laws.specs.Order.{remain_next, remain_none}
use Rattle.laws.specs.Rows.{length_at, operands_drawn, row_pixel, row_reached, row_in}
use Rattle.rows.proofs.general.Goals as goal

pub overflow_add-x : goal.overflow_add-x
overflow_add-x c = omega (arith, c.requires.columns, c.requires.fit.destination_fit.ranged.wide_most)

pub at-o-requires : goal.at-o-requires
at-o-requires c = row_pixel c.requires (omega arith) c.loop-m.invariant.same

pub pixel_byte-at-requires : goal.pixel_byte-at-requires
pixel_byte-at-requires c = row_reached c.requires (omega arith)

pub draw-requires : goal.draw-requires
draw-requires c = row_in c.requires c.loop-m-test.true c.loop-m.invariant.same c.pixel_byte-at.ensures

pub loop-m-preserved : goal.loop-m-preserved
loop-m-preserved c = remain_next (λ x. length_at c.args.b x c.args.j) c.loop-m.invariant c.loop-m-test.true (c.draw.ensures ∙ operands_drawn c.args.b _ _ _ refl c.pixel_byte-at.ensures c.at-o.ensures)

pub returns : goal.returns
returns c = remain_none c.loop-m.invariant (omega arith)

use mathlib.Core.Path.{refl, ap, ◌∙◌}
use native.Mathlib.Omega.{arith}
use Rattle.std.proofs.Common.{Some}
use Rattle.laws.specs.Order.{remain_next, remain_none}
use Rattle.laws.specs.Rows.{source_within, length_at, row_pixel, row_reached, row_along, row_at, row_in, source_along, source_read}
use Rattle.laws.specs.Mixes.{ready_drawn}
use Rattle.mixes.proofs.in_order.Goals as goal

pub pixel_byte-to-requires : goal.pixel_byte-to-requires
pixel_byte-to-requires c = row_reached c.requires.0 (omega (arith, c.requires.1))

pub pixel_byte-from-requires : goal.pixel_byte-from-requires
pixel_byte-from-requires c = (rw c.requires.2.source at (source_within (row_pixel c.requires.0 {x = c.args.i} (omega (arith, c.requires.1)) refl))).reached

pub along-requires : goal.along-requires
along-requires c = source_along c.requires.0 c.loop-m-test.true c.loop-m.invariant.same c.requires.2.source c.pixel_byte-from.ensures

pub get-source-requires : goal.get-source-requires
get-source-requires c = (c.requires.0.fit.destination_fit.ranged.deep, (source_read c.requires.0 c.loop-m-test.true c.loop-m.invariant.same c.requires.2.source c.pixel_byte-from.ensures c.along.ensures).0)

pub along-at-requires : goal.along-at-requires
along-at-requires c = row_along c.requires.0 c.loop-m-test.true c.loop-m.invariant.same c.pixel_byte-to.ensures

pub paint-requires : goal.paint-requires
paint-requires c = let w = row_in c.requires.0 c.loop-m-test.true c.loop-m.invariant.same (row_at c.requires.0 c.loop-m-test.true c.loop-m.invariant.same c.pixel_byte-to.ensures c.along-at.ensures) in (w.0, w.1)

pub loop-m-preserved : goal.loop-m-preserved
loop-m-preserved c = remain_next (λ x. length_at c.args.b x c.args.j) c.loop-m.invariant c.loop-m-test.true
    (c.paint.ensures
    ∙ ready_drawn c.requires.0.fit.destination_fit.ranged.deep c.requires.2 _ _ _ (row_at c.requires.0 c.loop-m-test.true c.loop-m.invariant.same c.pixel_byte-to.ensures c.along-at.ensures)
    (ap Some c.get-source.ensures ∙ (source_read c.requires.0 c.loop-m-test.true c.loop-m.invariant.same c.requires.2.source c.pixel_byte-from.ensures c.along.ensures).1 _))

pub returns : goal.returns
returns c = remain_none c.loop-m.invariant (omega arith)

use mathlib.Core.Path.{refl, sym, ◌∙◌}
use native.Mathlib.Omega.{arith}
use Rattle.laws.specs.Order.{remain_next, remain_none}
use Rattle.laws.specs.Rows.{length_at, source_within, row_pixel, row_reached, row_along, row_at, row_in, source_along, source_read, source_at}
use Rattle.laws.specs.Moves.{copy_pixel}
use Rattle.moves.proofs.smear.Goals as goal

pub pixel_byte-to-requires : goal.pixel_byte-to-requires
pixel_byte-to-requires c = row_reached c.requires.0 (omega (arith, c.requires.1))

pub pixel_byte-from-requires : goal.pixel_byte-from-requires
pixel_byte-from-requires c = (rw c.requires.2 at (source_within (row_pixel c.requires.0 {x = c.args.i} (omega (arith, c.requires.1)) refl))).reached

pub along-requires : goal.along-requires
along-requires c = source_along c.requires.0 c.loop-m-test.true c.loop-m.invariant.same c.requires.2 c.pixel_byte-from.ensures

pub get-value-requires : goal.get-value-requires
get-value-requires c = (c.requires.0.fit.destination_fit.ranged.deep, (source_read c.requires.0 c.loop-m-test.true c.loop-m.invariant.same c.requires.2 c.pixel_byte-from.ensures c.along.ensures).0)

pub along-at-requires : goal.along-at-requires
along-at-requires c = row_along c.requires.0 c.loop-m-test.true c.loop-m.invariant.same c.pixel_byte-to.ensures

pub put-requires : goal.put-requires
put-requires c = row_in c.requires.0 c.loop-m-test.true c.loop-m.invariant.same (row_at c.requires.0 c.loop-m-test.true c.loop-m.invariant.same c.pixel_byte-to.ensures c.along-at.ensures)

pub loop-m-preserved : goal.loop-m-preserved
loop-m-preserved c = remain_next (λ x. length_at c.args.b x c.args.j) c.loop-m.invariant c.loop-m-test.true
    (c.put.ensures
    ∙ rw (
      c.get-value.ensures,
      row_at c.requires.0 c.loop-m-test.true c.loop-m.invariant.same c.pixel_byte-to.ensures c.along-at.ensures,
      source_at c.requires.0 c.loop-m-test.true c.loop-m.invariant.same c.requires.2 c.pixel_byte-from.ensures c.along.ensures,
    )
    (sym (copy_pixel c.requires.0 c.requires.1 c.requires.2 refl refl c.requires.3 c.requires.4 _ _)))

pub returns : goal.returns
returns c = remain_none c.loop-m.invariant (omega arith)

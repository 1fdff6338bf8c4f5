use mathlib.Core.Path.{◌∙◌}
use native.Mathlib.Omega.{arith}
use Rattle.laws.specs.Order.{remain_all, remain_next, remain_none}
use Rattle.laws.specs.Rows.{length_at, row_along, row_at, row_in, bits_within}
use Rattle.laws.specs.Glyphs.{bit_drawn}
use Rattle.glyphs.proofs.in_order.Goals as goal

pub loop-m-init : goal.loop-m-init
loop-m-init c = ((λ x. (c.slice_known-1.given x).fits), remain_all _)

pub along-at-requires : goal.along-at-requires
along-at-requires c = row_along c.requires.0 c.loop-m-test.true c.loop-m.invariant.1.same c.requires.2

pub overflow_add-x : goal.overflow_add-x
overflow_add-x c = omega (arith, (bits_within c.requires.0 c.loop-m-test.true c.loop-m.invariant.1.same c.requires.1.bits).bit_near)

pub overflow_add-x-in-loop-m : goal.overflow_add-x-in-loop-m
overflow_add-x-in-loop-m c = omega (arith, (bits_within c.requires.0 c.loop-m-test.true c.loop-m.invariant.1.same c.requires.1.bits).bit_near)

pub overflow_add-from : goal.overflow_add-from
overflow_add-from c = omega (arith, (bits_within c.requires.0 c.loop-m-test.true c.loop-m.invariant.1.same c.requires.1.bits).bit_in, c.requires.3, c.requires.0.small, c.loop-m.invariant.1.same)

pub load-byte-requires : goal.load-byte-requires
load-byte-requires c = omega (arith, (bits_within c.requires.0 c.loop-m-test.true c.loop-m.invariant.1.same c.requires.1.bits).bit_in, c.requires.3)

pub apply-requires : goal.apply-requires
apply-requires c = row_in c.requires.0 c.loop-m-test.true c.loop-m.invariant.1.same (row_at c.requires.0 c.loop-m-test.true c.loop-m.invariant.1.same c.requires.2 c.along-at.ensures)

pub loop-m-preserved : goal.loop-m-preserved
loop-m-preserved c = (
  (λ x. (c.slice_known-in-loop-m-1.given x).fits),
  remain_next (λ x. length_at c.args.b x c.args.j) c.loop-m.invariant.1 c.loop-m-test.true
      ((rw (c.choose.ensures.flip, c.choose.ensures.keep, c.from.ensures, c.load-byte.ensures) at c.apply.ensures)
      ∙ bit_drawn c.requires.0 c.requires.1 c.requires.3 c.loop-m-test.true (row_at c.requires.0 c.loop-m-test.true c.loop-m.invariant.1.same c.requires.2 c.along-at.ensures) _ c.loop-m.invariant.0),
)

pub shape_of-f : goal.shape_of-f
shape_of-f c = c.loop-m.invariant.1.same

pub returns : goal.returns
returns c = remain_none c.loop-m.invariant.1 (omega arith)

use native.Mathlib.Omega.{arith}
use lib.ListN.{length}
use Rattle.laws.specs.Pixels.{depth_least}
use Rattle.laws.specs.Order.{remain_all, remain_none}
use Rattle.laws.specs.Eights.{chunk_next}
use Rattle.laws.specs.Tiles.{colors_round, count_most_holds, eight_room}
use Rattle.tiles.proofs.eights.Goals as goal

pub nonzero_div-n : goal.nonzero_div-n
nonzero_div-n c = omega (arith, depth_least c.requires)

pub loop-i-init : goal.loop-i-init
loop-i-init c = (omega arith, remain_all _)

pub overflow_add-i : goal.overflow_add-i
overflow_add-i c = omega (arith, c.loop-i.invariant.1.drawn, count_most_holds c.requires (length c.args.row.now))

pub overflow_mul-i : goal.overflow_mul-i
overflow_mul-i c = omega (arith, eight_room c.args.depth c.loop-i.i (length c.args.row.now) c.loop-i-test.true)

pub eight-requires : goal.eight-requires
eight-requires c = (c.requires, omega (arith, eight_room c.args.depth c.loop-i.i (length c.args.row.now) c.loop-i-test.true, c.loop-i.invariant.1.same))

pub overflow_add-i-in-loop-i : goal.overflow_add-i-in-loop-i
overflow_add-i-in-loop-i c = omega (arith, count_most_holds c.requires (length c.args.row.now))

pub loop-i-smaller : goal.loop-i-smaller
loop-i-smaller c = omega arith

pub loop-i-preserved : goal.loop-i-preserved
loop-i-preserved c = (
  omega (arith, c.loop-i.invariant.0),
  chunk_next c.args.depth (colors_round c.args.colors) 0 8 c.loop-i.invariant.1
      (omega (arith, c.loop-i.invariant.0, c.loop-i-test.true)) (omega (arith, c.loop-i.invariant.0)) (omega arith) c.eight.ensures,
)

pub shape_of-row : goal.shape_of-row
shape_of-row c = c.loop-i.invariant.1.same

pub returns : goal.returns
returns c = remain_none c.loop-i.invariant.1 (omega (arith, c.loop-i.invariant.0, c.loop-i-test.false))

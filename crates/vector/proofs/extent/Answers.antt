use mathlib.Core.Path.{◌∙◌}
use native.Mathlib.Omega.{arith}
use Rattle.laws.specs.Pixels.{depth_least, depth_most}
use Rattle.laws.specs.Walks.{position_near, position_next}
use Rattle.vector.proofs.Frames.{seen_none, seen_more, seen_all, is_below, is_above}
use Rattle.vector.proofs.extent.Goals as goal

pub overflow_add-end : goal.overflow_add-end
overflow_add-end c = omega (arith, c.requires.offset_most, depth_most c.requires.deep)

pub position_of-s-requires : goal.position_of-s-requires
position_of-s-requires c = (c.requires, omega arith)

pub loop-k-init : goal.loop-k-init
loop-k-init c = (omega arith, c.position_of-s.ensures, seen_none _ _)

pub overflow_add-sum : goal.overflow_add-sum
overflow_add-sum c = omega (arith, c.requires.offset_most, position_near _ c.loop-k.k c.requires (omega arith) c.loop-k.invariant.1)

pub returns-then-sum-s : goal.returns-then-sum-s
returns-then-sum-s c = is_below _ _ c.loop-k.k c.loop-k.invariant.1 c.loop-k-test.true c.requires.deep c.if-sum-s.true

pub overflow_add-after : goal.overflow_add-after
overflow_add-after c = omega (arith, c.requires.offset_most, depth_most c.requires.deep, position_near _ c.loop-k.k c.requires (omega arith) c.loop-k.invariant.1)

pub returns-then-framelength-after : goal.returns-then-framelength-after
returns-then-framelength-after c = let d = depth_least c.requires.deep in
    is_above c.args.framelength c.args.v c.loop-k.k c.loop-k.invariant.1 c.loop-k-test.true c.requires.deep c.if-sum-s.false (omega arith)

pub next-s-requires : goal.next-s-requires
next-s-requires c = (c.requires, position_near _ c.loop-k.k c.requires (omega arith) c.loop-k.invariant.1)

pub loop-k-preserved : goal.loop-k-preserved
loop-k-preserved c = let i = c.loop-k.invariant in (
  omega arith,
  c.next-s.ensures ∙ position_next _ _ i.1,
  seen_more c.args.framelength c.args.v c.loop-k.k i.1 i.2 (omega arith) (omega arith) c.min-low.ensures c.max-end.ensures,
)

pub overflow_sub-result : goal.overflow_sub-result
overflow_sub-result c = omega (arith, c.loop-k.invariant.2.highest, depth_least c.requires.deep)

pub returns : goal.returns
returns c = seen_all _ _ (omega arith) c.requires.deep c.loop-k.invariant.2

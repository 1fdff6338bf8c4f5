use Prim.Native.Nat.{◌%◌}
use native.Mathlib.Omega.{arith}
use mathlib.Core.Path.{◌≡◌, refl}
use lib.ListN.{get_or}
use Rattle.laws.specs.Order.{remain_none}
use Rattle.laws.specs.Changes.{change_next, step_le}
use Rattle.tiles.proofs.few.Goals as goal

pub overflow_mul-x : goal.overflow_mul-x
overflow_mul-x c = omega (arith, step_le c.args.depth c.loop-x.x c.args.c c.loop-x-test.true, c.requires.2)

pub overflow_add-at : goal.overflow_add-at
overflow_add-at c = omega (arith, step_le c.args.depth c.loop-x.x c.args.c c.loop-x-test.true, c.requires.2)

pub put-requires : goal.put-requires
put-requires c = (c.requires.0, omega (arith, step_le c.args.depth c.loop-x.x c.args.c c.loop-x-test.true, c.requires.2, c.loop-x.invariant.same))

pub loop-x-preserved : goal.loop-x-preserved
loop-x-preserved c = let z : c.loop-x.x % 8 ≡ c.loop-x.x = omega (arith, c.requires.1, c.loop-x-test.true) in
    change_next c.args.depth (λ m old. get_or c.args.colors (m % 8) 0) c.args.at c.loop-x.invariant c.loop-x-test.true refl
    (rw z c.put.ensures)

pub returns : goal.returns
returns c = remain_none c.loop-x.invariant (omega arith)

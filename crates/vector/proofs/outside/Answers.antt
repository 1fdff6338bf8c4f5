use Prim.Native.Nat.{◌-◌}
use mathlib.Core.Path.{sym, ap, ◌∙◌}
use Rattle.std.proofs.Common.{not}
use Rattle.std.proofs.Math.Bool.{not-not}
use native.Mathlib.Omega.{arith}
use Rattle.laws.specs.Pixels.{depth_most}
use Rattle.laws.specs.Walks.{position_near}
use Rattle.vector.proofs.Frames.{is_near, extent_tells}
use Rattle.vector.proofs.outside.Goals as goal

-- By the last pixel where that is enough, else by the extent.
pub overflow_add-top : goal.overflow_add-top
overflow_add-top c =
    omega (arith, c.requires.offset_most, position_near _ (c.args.v.length - 1) c.requires (omega arith) c.position_of-last.ensures)

pub overflow_add-top-then-last-v : goal.overflow_add-top-then-last-v
overflow_add-top-then-last-v c =
    omega (arith, c.requires.offset_most, depth_most c.requires.deep, position_near _ (c.args.v.length - 1) c.requires (omega arith) c.position_of-last.ensures)

pub returns-then-top-v : goal.returns-then-top-v
returns-then-top-v c = let a = c.args in
    sym (is_near a.framelength a.v (a.v.length - 1) c.requires c.position_of-last.ensures (omega (arith, c.requires.long)) (omega arith) (omega arith))

pub returns : goal.returns
returns c = sym (not-not _) ∙ ap not (sym c.is_none.ensures) ∙ extent_tells _ _ c.extent.ensures

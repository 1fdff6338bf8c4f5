use Prim.Native.Nat.{◌/◌}
use lib.ListN.{length}
use Rattle.laws.specs.Whole.{blended}
use Rattle.laws.specs.Order.{Remain}
use Rattle.laws.specs.Changes.{changed_at}
use Rattle.writers.proofs.OneBlendWork.at.Given as goal

abbrev pub invariant-loop-i : goal.invariant-loop-i
invariant-loop-i g l = Remain (changed_at g.P.Pixel.BYTES (λ m. blended l.fn.self.blend.flip l.fn.self.blend.keep) 0) 0 (length l.initial.row / g.P.Pixel.BYTES) l.initial.row l.i l.row

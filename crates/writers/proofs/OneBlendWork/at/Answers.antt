use mathlib.Core.Path.{refl, ◌∙◌}
use native.Mathlib.Omega.{arith}
use Rattle.std.proofs.Math.Nat.{mod-mod}
use Rattle.laws.specs.Whole.{blended}
use Rattle.laws.specs.Order.{remain_none}
use Rattle.laws.specs.Changes.{change_next}
use Rattle.laws.specs.Plain.{blend_low}
use Rattle.writers.proofs.OneBlendWork.at.Goals as goal

pub loop-i-preserved : goal.loop-i-preserved
loop-i-preserved g c = change_next g.P.Pixel.BYTES (λ m. blended c.args.self.blend.flip c.args.self.blend.keep) 0 c.loop-i.invariant (rw c.BYTES.ensures at c.loop-i-test.true)
    (rw c.BYTES-in-loop-i.ensures (omega arith))
    (c.apply.ensures
    ∙ blend_low g.P.Pixel.BYTES _ _ (g.P.Pixel.number c.narrow-blend.result.flip) (g.P.Pixel.number c.narrow-blend.result.keep) _ c.args.self.blend.flip c.args.self.blend.keep _
    (rw c.narrow-blend.ensures.flip_low (mod-mod _ _)) (rw c.narrow-blend.ensures.keep_low (mod-mod _ _)) refl)

pub returns : goal.returns
returns g c = remain_none c.loop-i.invariant (rw c.BYTES.ensures at c.loop-i-test.false)

use Prim.Native.Nat.{◌+◌, ◌*◌}
use mathlib.Core.Path.{◌≡◌, ◌∙◌}
use native.Mathlib.Omega.{arith}
use Rattle.model.specs.Formats.{Depth}
use Rattle.laws.specs.Order.{remain_none}
use Rattle.laws.specs.Changes.{change_next}
use Rattle.laws.specs.Words.{mix_rule}
use Rattle.mixes.proofs.words.Goals as goal

pub loop-i-preserved : goal.loop-i-preserved
loop-i-preserved c = let e : 0 + c.loop-i.i * 4 ≡ c.loop-i.i * 4 = omega arith in
    change_next 4 (mix_rule 4 c.args.op.code c.args.op.pattern c.args.t.now 0) 0 {at = c.loop-i.i * 4} c.loop-i.invariant c.loop-i-test.true (omega arith)
    (c.paint.ensures ∙ rw (c.load.ensures, e))

pub returns : goal.returns
returns c = remain_none c.loop-i.invariant (omega arith)

pub paint-requires : goal.paint-requires
paint-requires c = (Depth.four, omega (arith, c.loop-i.invariant.same))

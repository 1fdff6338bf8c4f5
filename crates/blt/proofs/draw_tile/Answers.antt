use mathlib.Core.Path.{sym, ◌∙◌}
use Rattle.blocks.specs.Plains.{serves_fill}
use Rattle.blt.proofs.Serving.{serves_some}
use Rattle.blt.proofs.draw_tile.Goals as goal

pub invariant_of-paint : goal.invariant_of-paint
invariant_of-paint c = record {
  code = c.if-b-eq240.true;
  plain = serves_fill _ _ c.if-b-eq240.true (serves_some _ _ c.plain_value.ensures (sym c.is_some.ensures ∙ c.if-is_some.true));
}

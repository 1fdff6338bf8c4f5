use Rattle.std.proofs.Common.{ap, ◌∙◌}
use Rattle.model.specs.Expansion.{expand}
use Rattle.model.specs.BltPixel.{source_value}
use Rattle.laws.specs.Rows.{bit_at_lem}
use Rattle.operands.proofs.source_value.Goals as goal

pub returns-in-Bits : goal.returns-in-Bits
unfolding source_value
returns-in-Bits c = rw c.in-Bits.is (c.expanded.ensures ∙ ap (expand _) (bit_at_lem (rw c.in-Bits.is at c.requires) c.pixel_byte-from.ensures _))

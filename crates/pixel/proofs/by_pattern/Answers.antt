use mathlib.Core.Path.{◌∙◌}
use Rattle.laws.specs.Whole.{by_pattern}
use Rattle.pixel.proofs.by_pattern.Goals as goal

pub returns : goal.returns
unfolding by_pattern
returns c = c.choose.ensures ∙ rw (c.spread.ensures, c.spread-2.ensures)

use mathlib.Core.Path.{sym, ◌∙◌}
use Rattle.blt.proofs.Serving.{serves}
use Rattle.blt.proofs.draw.Goals as goal

pub draw_plain-requires-clause-plain : goal.draw_plain-requires-clause-plain
draw_plain-requires-clause-plain c = serves _ _ (sym c.plain_value.ensures ∙ c.in-Some.is)

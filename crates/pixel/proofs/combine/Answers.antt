use mathlib.Core.Path.{sym, ◌∙◌}
use Rattle.laws.specs.Whole.{by_choices, raster_choices}
use Rattle.pixel.proofs.combine.Goals as goal

pub returns : goal.returns
unfolding by_choices
returns c = let op = c.args.op in
    c.choose.ensures
    ∙ rw (c.choose-low.ensures, c.choose-high.ensures, op.neither_is, op.destination_is, op.source_is, op.both_is)
    (sym (raster_choices op.code 32 op.pattern c.args.source c.args.destination))

use mathlib.Core.Path.{◌∙◌}
use Rattle.laws.specs.Plain.{mark_low}
use Rattle.writers.proofs.FewMarksWork.at.Goals as goal

pub returns : goal.returns
returns g c = let narrow = c.of.ensures in
    c.few.ensures ∙ mark_low g.P.Pixel.BYTES narrow.set narrow.clear c.of.result.bits c.args.self.bits narrow.bits c.args.self.count c.args.self.at c.args.row.now

use Rattle.laws.specs.Pixels.{store_low}
use mathlib.Core.Path.{◌∙◌}
use Rattle.pixel.proofs.put.Goals as goal

pub returns-in-1 : goal.returns-in-1
returns-in-1 c = rw c.low.ensures at c.store.ensures ∙ rw c.in-1.is (store_low 1 c.args.f.now c.args.at c.args.value)

pub returns-in-2 : goal.returns-in-2
returns-in-2 c = rw c.low-in-2.ensures at c.store-in-2.ensures ∙ rw c.in-2.is (store_low 2 c.args.f.now c.args.at c.args.value)

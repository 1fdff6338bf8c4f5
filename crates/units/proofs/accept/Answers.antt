use Rattle.units.proofs.Loads.{takes_data_holds}
use Rattle.units.proofs.accept.Goals as goal

pub returns : goal.returns
returns c = rw c.pixels_drawn-k.ensures (takes_data_holds c.args.ring.now c.args.core.now c.requires (rw c.pixels_drawn-k.ensures at c.word_of-before.ensures.0))

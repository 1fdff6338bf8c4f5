use mathlib.Core.Path.{◌∙◌}
use Rattle.tiles.specs.Packed.{store_pair}
use Rattle.tiles.proofs.pair.Goals as goal

pub returns : goal.returns
returns c = c.put8.ensures ∙ store_pair c.args.row.now c.args.at c.args.low c.args.high c.ranges.low.fits

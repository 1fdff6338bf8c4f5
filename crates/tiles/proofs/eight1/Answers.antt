use mathlib.Core.Path.{◌∙◌}
use Rattle.tiles.specs.Packed.{eight_one}
use Rattle.tiles.proofs.eight1.Goals as goal

pub returns : goal.returns
returns c = c.pair.ensures ∙ rw (c.word-low.ensures, c.word-high.ensures) (eight_one c.args.colors c.args.row.now c.args.at)

use mathlib.Core.Path.{◌∙◌}
use Rattle.tiles.specs.Packed.{eight_four}
use Rattle.tiles.proofs.eight4.Goals as goal

pub returns : goal.returns
returns c = c.pair-4.ensures ∙ rw (c.pair-3.ensures, c.pair-2.ensures, c.pair.ensures) (eight_four c.args.colors c.args.row.now c.args.at)

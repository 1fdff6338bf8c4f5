use mathlib.Core.Path.{◌∙◌}
use Rattle.tiles.specs.Packed.{eight_two}
use Rattle.tiles.proofs.eight2.Goals as goal

pub returns : goal.returns
returns c = c.pair-2.ensures
    ∙ rw (c.pair.ensures, c.halves-a.ensures, c.halves-b.ensures, c.halves-c.ensures, c.halves-d.ensures)
    (eight_two c.args.colors c.args.row.now c.args.at)

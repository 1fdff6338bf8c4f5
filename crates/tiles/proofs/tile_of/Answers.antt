use Rattle.std.proofs.Common.{arith, refl, length-set}
use Rattle.laws.specs.Tiles.{up_to, upto_more, upto_all}
use Rattle.tiles.proofs.tile_of.Invariants.{row_colors}
use Rattle.tiles.proofs.tile_of.Goals as goal

pub loop-row-init : goal.loop-row-init
unfolding up_to
loop-row-init c = (refl, refl)

pub loop-row-preserved : goal.loop-row-preserved
loop-row-preserved c = (
  rw length-set c.loop-row.invariant.0,
  upto_more (row_colors c.args.depth c.args.table.now) c.loop-row.tile c.loop-row.row (omega arith) c.loop-row.invariant.1 c.row_of.ensures,
)

pub returns : goal.returns
returns c = upto_all (row_colors c.args.depth c.args.table.now) c.loop-row.tile c.loop-row.row 8 c.loop-row.invariant.0 (omega arith) c.loop-row.invariant.1

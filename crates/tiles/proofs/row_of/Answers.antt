use Rattle.std.proofs.Common.{arith, refl, length-set}
use Rattle.model.specs.Lookup.{tile_color}
use Rattle.laws.specs.Tiles.{up_to, upto_more, upto_all}
use Rattle.tiles.proofs.row_of.Goals as goal

pub loop-column-init : goal.loop-column-init
unfolding up_to
loop-column-init c = (refl, refl)

pub loop-column-preserved : goal.loop-column-preserved
loop-column-preserved c = (
  rw length-set c.loop-column.invariant.0,
  upto_more (tile_color c.args.depth c.args.table.now c.args.row) c.loop-column.colors c.loop-column.column (omega arith) c.loop-column.invariant.1 c.color_of.ensures,
)

pub returns : goal.returns
returns c = upto_all (tile_color c.args.depth c.args.table.now c.args.row) c.loop-column.colors c.loop-column.column 8 c.loop-column.invariant.0 (omega arith) c.loop-column.invariant.1

use Rattle.std.proofs.Common.{arith, refl, length-set}
use Rattle.laws.specs.Tiles.{up_to, upto_more, upto_all}
use Rattle.tiles.proofs.Tile.turned.Invariants.{further}
use Rattle.tiles.proofs.Tile.turned.Goals as goal

pub loop-x-init : goal.loop-x-init
unfolding up_to
loop-x-init c = (refl, refl)

pub loop-x-preserved : goal.loop-x-preserved
loop-x-preserved c = (
  rw length-set c.loop-x.invariant.0,
  upto_more (further c.args.self.now.colors c.args.row c.args.column) c.loop-x.colors c.loop-x.x (omega arith) c.loop-x.invariant.1 refl,
)

pub returns : goal.returns
returns c = upto_all (further c.args.self.now.colors c.args.row c.args.column) c.loop-x.colors c.loop-x.x 8 c.loop-x.invariant.0 (omega arith) c.loop-x.invariant.1

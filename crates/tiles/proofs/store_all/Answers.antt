use Prim.Native.Nat.{◌/◌}
use mathlib.Core.Path.{refl}
use lib.ListN.{length}
use native.Mathlib.Omega.{arith}
use Rattle.laws.specs.Pixels.{depth_least}
use Rattle.laws.specs.Eights.{eights_room, same_row, then_few}
use Rattle.laws.specs.Tiles.{colors_round}
use Rattle.tiles.proofs.store_all.Goals as goal

pub nonzero_div-n : goal.nonzero_div-n
nonzero_div-n c = omega (arith, depth_least c.requires)

pub overflow_mul-n : goal.overflow_mul-n
overflow_mul-n c = omega (arith, eights_room c.args.depth (length c.args.row.now))

pub few-requires : goal.few-requires
few-requires c = (
  c.requires,
  omega arith,
  rw (same_row c.args.depth (colors_round c.args.colors) c.args.row.now {n = length c.args.row.now / c.args.depth} (omega arith) c.eights.ensures)
      (eights_room c.args.depth (length c.args.row.now)),
)

pub returns : goal.returns
returns c = then_few c.args.depth (colors_round c.args.colors) c.args.row.now (omega arith) c.eights.ensures (omega arith) (omega arith) refl c.few.ensures

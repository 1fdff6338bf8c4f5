use mathlib.Core.Path.{◌≡◌}
use lib.ListN.{length, take}
use Rattle.model.specs.Lookup.{tile_color}
use Rattle.laws.specs.Tiles.{up_to}
use Rattle.tiles.proofs.row_of.Given as goal

abbrev pub invariant-loop-column : goal.invariant-loop-column
invariant-loop-column l = (length l.colors ≡ 8) × (take l.column l.colors ≡ up_to l.column (tile_color l.depth l.table l.row))

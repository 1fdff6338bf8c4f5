use Prim.Native.Nat.{ℕ}
use mathlib.Core.Path.{◌≡◌}
use mathlib.Core.List.{List}
use lib.ListN.{length, take}
use Rattle.model.specs.Lookup.{tile_color}
use Rattle.laws.specs.Tiles.{up_to}
use Rattle.tiles.proofs.tile_of.Given as goal

abbrev pub row_colors : (depth : ℕ) → List ℕ → ℕ → List ℕ
row_colors depth table row = up_to 8 (tile_color depth table row)

abbrev pub invariant-loop-row : goal.invariant-loop-row
invariant-loop-row l = (length l.tile ≡ 8) × (take l.row l.tile ≡ up_to l.row (row_colors l.depth l.table))

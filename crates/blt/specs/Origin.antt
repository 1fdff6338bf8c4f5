-- The colour pattern by the offset register whose low bits say where in the tile the first pixel lies.
use Rattle.std.specs.Prelude.{ℕ, Option, Some, None}
use Rattle.model.specs.Bits.{field}
use Rattle.model.specs.BltPixel.{tile_from}
use Rattle.model.specs.declared.TileOrigin.{TileOrigin}

-- none: no colour pattern
abbrev pub pattern_at : Option ℕ → Option TileOrigin
pattern_at (Some origin) = tile_from (field origin 31 29) (field origin 28 26)
pattern_at None = None

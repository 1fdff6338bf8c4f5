use mathlib.Core.Path.{◌∙◌}
use native.Mathlib.Omega.{arith}
use Rattle.laws.specs.Tiles.{color_byte_most, tile_color_lem}
use Rattle.tiles.proofs.color_of.Goals as goal

pub overflow_mul-at-2 : goal.overflow_mul-at-2
overflow_mul-at-2 c = omega (arith, color_byte_most c.requires.0 c.requires.1 c.requires.2)

pub overflow_add-word : goal.overflow_add-word
overflow_add-word c = omega (arith, color_byte_most c.requires.0 c.requires.1 c.requires.2)

pub offset_bounds-table-at : goal.offset_bounds-table-at
offset_bounds-table-at c = omega (arith, color_byte_most c.requires.0 c.requires.1 c.requires.2)

pub bounds-table-at : goal.bounds-table-at
bounds-table-at c = omega (arith, color_byte_most c.requires.0 c.requires.1 c.requires.2)

pub returns : goal.returns
returns c = c.low_bytes.ensures ∙ tile_color_lem c.requires.0 _ c.args.row c.args.column

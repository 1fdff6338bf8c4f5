use mathlib.Core.Path.{refl}
use native.Mathlib.Omega.{arith}
use Rattle.laws.specs.Lows.{destination_span, low_asked, bytes_in}
use Rattle.laws.specs.Changes.{changes_part}
use Rattle.laws.specs.Tiles.{tile_changes}
use Rattle.tiles.proofs.fill.Goals as goal

pub colors_of-colors-requires : goal.colors_of-colors-requires
colors_of-colors-requires c = record {
  some = c.requires.1;
  columns_near = omega (arith, c.requires.0.columns, c.requires.0.fit.destination_fit.ranged.wide_most);
  row_near = omega (arith, c.requires.0.row, c.requires.0.fit.destination_fit.ranged.high_most);
}

pub low_byte-a-requires : goal.low_byte-a-requires
low_byte-a-requires c = low_asked (destination_span c.requires.0 c.requires.1)

pub overflow_mul-n : goal.overflow_mul-n
overflow_mul-n c = omega (arith, bytes_in (destination_span c.requires.0 c.requires.1) c.low_byte-a.ensures, c.requires.0.small)

pub overflow_add-a : goal.overflow_add-a
overflow_add-a c = omega (arith, bytes_in (destination_span c.requires.0 c.requires.1) c.low_byte-a.ensures, c.requires.0.small)

pub slice_bounds-store-end : goal.slice_bounds-store-end
slice_bounds-store-end c = bytes_in (destination_span c.requires.0 c.requires.1) c.low_byte-a.ensures

pub store-requires : goal.store-requires
store-requires c = c.requires.0.fit.destination_fit.ranged.deep

pub returns : goal.returns
returns c = changes_part c.requires.0 c.requires.1
    (tile_changes c.args.tile.now.colors c.args.tile.now.row c.args.tile.now.column c.args.b c.requires.3.1 c.requires.2 c.colors_of-colors.ensures) c.low_byte-a.ensures _ refl
    (λ i. (c.slice_known-1.given i).fits) c.store.ensures

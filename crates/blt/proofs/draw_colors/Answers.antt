use Prim.Native.Nat.{ℕ}
use mathlib.Core.Path.{◌≡◌, ap, ◌∙◌}
use mathlib.Core.List.{List}
use Rattle.model.specs.Bits.{field}
use Rattle.model.specs.BltPixel.{blt_of, draw_tiled, tile_from}
use Rattle.model.specs.declared.Blt.{Blt}
use Rattle.laws.specs.Order.{in_order}
use Rattle.laws.specs.Tiles.{tile_of, tile_pixels, tiled_pixels_lem}
use Rattle.blt.proofs.draw_colors.Goals as goal

by_tile : (table registers : List ℕ) (origin : ℕ) {b : Blt} (k n : ℕ) (frame : List ℕ) {tile : List (List ℕ)} {row column : ℕ} {after : List ℕ}
    → b ≡ blt_of registers → tile ≡ tile_of b.destination.depth table → row ≡ field origin 31 29
    → column ≡ field origin 28 26 → after ≡ tile_pixels tile row column b k n frame
    → after ≡ in_order (draw_tiled (tile_from (field origin 31 29) (field origin 28 26)) table (blt_of registers)) k n frame
by_tile table registers origin {b} k n frame {row = row} {column} p t r s e =
    e
    ∙ ap (λ (l : List (List ℕ)). tile_pixels l row column b k n frame) t
    ∙ tiled_pixels_lem table row column b k n frame
    ∙ ap (λ (c : Blt). in_order (draw_tiled (tile_from row column) table c) k n frame) p
    ∙ ap (λ (x : ℕ). in_order (draw_tiled (tile_from x column) table (blt_of registers)) k n frame) r
    ∙ ap (λ (x : ℕ). in_order (draw_tiled (tile_from (field origin 31 29) x) table (blt_of registers)) k n frame) s

pub tile_of-requires : goal.tile_of-requires
tile_of-requires c = rw c.blt_of-b.ensures c.requires.fit.destination_fit.ranged.deep

pub draw_tile-requires : goal.draw_tile-requires
draw_tile-requires c = rw c.blt_of-b.ensures c.requires

pub returns : goal.returns
returns c = by_tile c.args.table.now c.args.registers c.args.origin c.args.k c.args.n c.args.f.now c.blt_of-b.ensures c.tile_of.ensures c.number.ensures.0 c.number-2.ensures.0
    c.draw_tile.ensures

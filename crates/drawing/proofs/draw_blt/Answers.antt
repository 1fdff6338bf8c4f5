use mathlib.Core.Path.{sym, ◌∙◌}
use native.Mathlib.Omega.{arith}
use Rattle.model.specs.Unit.{pixel_count}
use Rattle.laws.specs.Ranges.{fit_blt}
use Rattle.laws.specs.Tiles.{untiled_pixels, blt_pixels_lem}
use Rattle.drawing.proofs.draw_blt.Goals as goal

pub draw_colors-requires : goal.draw_colors-requires
unfolding pixel_count
draw_colors-requires c = record { fit = fit_blt _ _ c.requires.0; inside = c.requires.1; small = c.requires.2 }

pub returns-in-Some : goal.returns-in-Some
returns-in-Some c = c.draw_colors.ensures ∙ blt_pixels_lem c.args.registers _ (sym (rw c.in-Some.is at c.tile_origin.ensures)) _ _ _

pub draw-requires : goal.draw-requires
unfolding pixel_count
draw-requires c = rw c.blt_of.ensures (fit_blt _ _ c.requires.0, omega (arith, c.requires.1), c.requires.2)

pub returns-in-None : goal.returns-in-None
returns-in-None c = rw c.blt_of.ensures at c.draw.ensures
    ∙ untiled_pixels c.args.table.now _ _ _ _
    ∙ blt_pixels_lem c.args.registers _ (sym (rw c.in-None.is at c.tile_origin.ensures)) _ _ _

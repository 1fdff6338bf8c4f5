use Rattle.model.specs.Unit.{pixel_count, draw_pixel}
use Rattle.laws.specs.Ranges.{fit_vector}
use Rattle.drawing.proofs.draw.Goals as goal

pub draw_blt-requires : goal.draw_blt-requires
draw_blt-requires c = rw c.in-Blt.is at c.requires

pub draw-requires : goal.draw-requires
unfolding pixel_count
draw-requires c = let told = c.in-Vector.is in
    rw c.vector_of.ensures (fit_vector _ _ (rw told at c.requires.0), rw told at c.requires.1, c.requires.2)

pub returns-in-Blt : goal.returns-in-Blt
returns-in-Blt c = rw c.in-Blt.is c.draw_blt.ensures

pub returns-in-Vector : goal.returns-in-Vector
unfolding draw_pixel
returns-in-Vector c = rw c.in-Vector.is (rw c.vector_of.ensures at c.draw.ensures)

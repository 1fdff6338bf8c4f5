use Rattle.laws.specs.Pixels.{store_raster}
use Rattle.pixel.proofs.paint.Goals as goal

pub returns : goal.returns
returns c = simp (c.put.ensures, c.combine-value.ensures, c.get.ensures) (store_raster _ c.requires.0 _ _ _ _ _ _)

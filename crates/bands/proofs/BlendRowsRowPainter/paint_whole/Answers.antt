use Rattle.model.specs.BltPixel.{draw_blt}
use Rattle.bands.proofs.BlendRowsRowPainter.paint_whole.Goals as goal

pub returns : goal.returns
unfolding draw_blt
returns c = c.paint.ensures

use native.Mathlib.Omega.{arith}
use Rattle.laws.specs.Order.{remain_none}
use Rattle.bands.proofs.Parts.{asked_rest}
use Rattle.bands.proofs.paint.Goals as goal

pub paint_rows-requires-clause-asked : goal.paint_rows-requires-clause-asked
paint_rows-requires-clause-asked g c =
    let painter = c.args.painter.now in
    asked_rest (g.P.RowPainter.asks painter) (g.P.RowPainter.blt painter) c.args.k c.requires.asked c.paint_whole-drawn.result

pub returns-else-drawn-n : goal.returns-else-drawn-n
returns-else-drawn-n g c = remain_none c.paint_whole-drawn.ensures (omega arith)

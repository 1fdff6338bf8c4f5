use native.Mathlib.Omega.{arith}
use Rattle.laws.specs.Order.{remain_none}
use Rattle.bands.proofs.Parts.{rows_at, asked_part, part_least}
use Rattle.bands.proofs.paint_rows.Goals as goal

pub paint-requires-clause-asked : goal.paint-requires-clause-asked
paint-requires-clause-asked g c =
    asked_part (g.P.RowPainter.asks c.args.painter.now) c.requires.asked c.loop-drawn.invariant (part_least c.loop-drawn.invariant.narrow (omega arith) (rw c.width-width.ensures at c.min-count.ensures))

pub loop-drawn-preserved : goal.loop-drawn-preserved
loop-drawn-preserved g c =
    rows_at (g.P.RowPainter.pixel c.args.painter.now) (g.met.P.RowPainter.keeps c.args.painter.now) c.loop-drawn.invariant
    (part_least c.loop-drawn.invariant.narrow (omega arith) (rw c.width-width.ensures at c.min-count.ensures)) c.paint.ensures

pub returns : goal.returns
returns g c = remain_none c.loop-drawn.invariant.remain (omega arith)

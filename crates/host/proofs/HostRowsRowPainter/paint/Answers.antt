use native.Mathlib.Omega.{arith}
use Rattle.model.specs.BltPixel.{blt_at}
use Rattle.laws.specs.Order.{remain_all, remain_next, remain_none}
use Rattle.laws.specs.Rows.{row_pixel}
use Rattle.laws.specs.Pictures.{length_from}
use Rattle.host.proofs.HostRowsRowPainter.paint.Goals as goal

pub loop-m-init : goal.loop-m-init
loop-m-init c = remain_all _

pub draw_pixel-requires-clause-pixel : goal.draw_pixel-requires-clause-pixel
draw_pixel-requires-clause-pixel c = row_pixel c.requires.row (omega arith) c.loop-m.invariant.same

pub draw_pixel-requires-clause-fit : goal.draw_pixel-requires-clause-fit
draw_pixel-requires-clause-fit c = c.requires.row.fit.pattern_fit

pub draw_pixel-requires-clause-held : goal.draw_pixel-requires-clause-held
draw_pixel-requires-clause-held c = c.requires.asked c.loop-m.m (omega arith)

pub loop-m-preserved : goal.loop-m-preserved
unfolding blt_at
loop-m-preserved c = remain_next (λ x. length_from _ _ _ _) c.loop-m.invariant (omega arith) c.draw_pixel.ensures

pub returns : goal.returns
returns c = remain_none c.loop-m.invariant (omega arith)

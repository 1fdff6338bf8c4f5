use mathlib.Core.Path.{sym, ◌∙◌}
use Rattle.laws.specs.Order.{order_zero}
use Rattle.laws.specs.Pictures.{stream_word}
use Rattle.host.proofs.Parts.{absent_pixels, picture_pixels}
use Rattle.host.proofs.draw.Goals as goal

pub returns-then-n-eq0 : goal.returns-then-n-eq0
returns-then-n-eq0 c = rw c.if-n-eq0.true (sym (order_zero _ c.args.k _))

pub returns-in-Some : goal.returns-in-Some
returns-in-Some c =
    c.draw_colors.ensures
    ∙ picture_pixels c.args.registers c.args.table.now (stream_word c.args.ring.now c.args.read c.args.before) (sym (rw c.in-Some.is at c.tile_origin.ensures))
    c.picture_of.ensures c.args.k c.args.n _

pub returns-in-None : goal.returns-in-None
returns-in-None c =
    let words = stream_word c.args.ring.now c.args.read c.args.before in
    c.draw_plain.ensures
    ∙ absent_pixels c.args.table.now c.picture_of.result words c.args.k c.args.n _
    ∙ picture_pixels c.args.registers c.args.table.now words (sym (rw c.in-None.is at c.tile_origin.ensures)) c.picture_of.ensures c.args.k c.args.n _

use mathlib.Core.Path.{◌∙◌}
use Rattle.laws.specs.Pictures.{stream_word}
use Rattle.host.proofs.Parts.{tiled_pixels_lem}
use Rattle.host.proofs.draw_colors.Goals as goal

pub returns : goal.returns
returns c =
    let rows = c.args.rows.now in
    c.paint.ensures
    ∙ rw (c.tile_of.ensures, c.number.ensures.0, c.number-2.ensures.0)
    (tiled_pixels_lem c.args.table.now _ _ rows.picture (stream_word rows.ring.now rows.read rows.before) c.args.k c.args.n _)

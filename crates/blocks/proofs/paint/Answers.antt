use mathlib.Core.Path.{sym, ◌∙◌}
use Rattle.laws.specs.Wholes.{wholes_row, wholes_next}
use Rattle.blocks.proofs.paint.Goals as goal

pub loop-drawn-preserved : goal.loop-drawn-preserved
loop-drawn-preserved g c =
    let rows = c.loop-drawn.invariant.0 in
    let next = wholes_next rows c.requires (rw (← c.width-width.ensures) c.loop-drawn-test.true) c.paint-place.ensures.drawn in
    rw c.width-width.ensures
    (next, λ more. c.paint-place.ensures.next (rw (next.remain.same ∙ sym rows.remain.same) at (wholes_row next c.requires more)))

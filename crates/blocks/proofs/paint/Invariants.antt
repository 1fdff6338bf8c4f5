use Prim.Native.Nat.{◌-◌, ◌≤◌}
use Rattle.model.specs.BltPixel.{draw_blt}
use Rattle.laws.specs.Rows.{ByRows}
use Rattle.laws.specs.Wholes.{wide}
use Rattle.blocks.proofs.paint.Given as goal

abbrev pub invariant-loop-drawn : goal.invariant-loop-drawn
invariant-loop-drawn g l =
    (ByRows (draw_blt (g.R.WholeRows.blt l.rows)) (g.R.WholeRows.blt l.rows) l.k l.n l.initial.f 0 l.j l.drawn l.f)
    × (wide (g.R.WholeRows.blt l.rows) ≤ l.n - l.drawn → g.R.WholeRows.begins l.rows l.place l.j)

abbrev pub decreases-loop-drawn : goal.decreases-loop-drawn
decreases-loop-drawn g l = l.n - l.drawn

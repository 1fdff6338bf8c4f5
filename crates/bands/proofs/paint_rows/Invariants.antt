use Prim.Native.Nat.{◌-◌}
use Rattle.laws.specs.Rows.{ByRows}
use Rattle.bands.specs.Numbered.{numbered}
use Rattle.bands.proofs.paint_rows.Given as goal

abbrev pub invariant-loop-drawn : goal.invariant-loop-drawn
invariant-loop-drawn g l =
    ByRows (numbered (g.P.RowPainter.blt l.painter) (g.P.RowPainter.pixel l.painter)) (g.P.RowPainter.blt l.painter) l.k l.n l.initial.f
    l.column l.row l.drawn l.f

abbrev pub decreases-loop-drawn : goal.decreases-loop-drawn
decreases-loop-drawn g l = l.n - l.drawn

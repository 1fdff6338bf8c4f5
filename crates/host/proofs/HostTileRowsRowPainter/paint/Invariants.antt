use Rattle.laws.specs.Order.{Remain}
use Rattle.laws.specs.Pictures.{stream_word}
use Rattle.host.specs.Pictures.{tiled_at}
use Rattle.host.proofs.HostTileRowsRowPainter.paint.Given as goal

abbrev pub invariant-loop-m : goal.invariant-loop-m
invariant-loop-m l =
    let rows = l.self.rows.now in
    Remain (λ x. tiled_at l.self.tile.now.colors l.self.tile.now.row l.self.tile.now.column rows.picture (stream_word rows.ring.now rows.read rows.before) x l.j)
    l.i l.n l.initial.f l.m l.f

use Rattle.laws.specs.Order.{Remain}
use Rattle.laws.specs.Tiles.{tile_at}
use Rattle.tiles.proofs.general.Given as goal

abbrev pub invariant-loop-m : goal.invariant-loop-m
invariant-loop-m l = Remain (λ x. tile_at l.tile.colors l.tile.row l.tile.column l.b x l.j) l.i l.n l.initial.f l.m l.f

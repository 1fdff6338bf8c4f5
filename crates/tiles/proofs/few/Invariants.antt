use Prim.Native.Nat.{◌%◌}
use lib.ListN.{get_or}
use Rattle.laws.specs.Order.{Remain}
use Rattle.laws.specs.Changes.{changed_at}
use Rattle.tiles.proofs.few.Given as goal

abbrev pub invariant-loop-x : goal.invariant-loop-x
invariant-loop-x l = Remain (changed_at l.depth (λ m old. get_or l.colors (m % 8) 0) l.at) 0 l.c l.initial.row l.x l.row

use Prim.Native.Nat.{◌-◌, ◌%◌}
use mathlib.Core.Path.{◌≡◌}
use lib.ListN.{get_or}
use Rattle.laws.specs.Order.{Remain}
use Rattle.laws.specs.Changes.{changed_at}
use Rattle.laws.specs.Eights.{whole_eights}
use Rattle.tiles.proofs.eights.Given as goal

abbrev pub invariant-loop-i : goal.invariant-loop-i
invariant-loop-i l = (l.i % 8 ≡ 0) × (Remain (changed_at l.depth (λ m old. get_or l.colors (m % 8) 0) 0) 0 (whole_eights l.n) l.initial.row l.i l.row)

abbrev pub decreases-loop-i : goal.decreases-loop-i
decreases-loop-i l = l.n - l.i

use Prim.Native.Nat.{◌*◌}
use Rattle.laws.specs.Order.{Remain}
use Rattle.laws.specs.Changes.{changed_at}
use Rattle.laws.specs.Plain.{mark_rule}
use Rattle.writers.proofs.ByBits.tiles.Given as goal

abbrev pub invariant-loop-t : goal.invariant-loop-t
invariant-loop-t g l = let number = g.P.Pixel.number in
    let inks = l.self.inks in
    Remain (changed_at g.P.Pixel.BYTES (mark_rule l.self.bits (number inks.set.flip) (number inks.set.keep) (number inks.clear.flip) (number inks.clear.keep)) 0) 0 (32 * l.tiles) l.initial.row (l.t * 32) l.row

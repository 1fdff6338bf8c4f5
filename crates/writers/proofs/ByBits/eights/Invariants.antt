use Prim.Native.Nat.{◌*◌, ◌-◌, ◌/◌}
use lib.ListN.{length}
use Rattle.laws.specs.Order.{Remain}
use Rattle.laws.specs.Changes.{changed_at}
use Rattle.laws.specs.Eights.{whole_eights}
use Rattle.laws.specs.Plain.{mark_rule}
use Rattle.writers.proofs.ByBits.eights.Given as goal

abbrev pub invariant-loop-m : goal.invariant-loop-m
invariant-loop-m g l = let number = g.P.Pixel.number in
    let inks = l.self.inks in
    Remain (changed_at g.P.Pixel.BYTES (mark_rule l.self.bits (number inks.set.flip) (number inks.set.keep) (number inks.clear.flip) (number inks.clear.keep)) 0) l.k (whole_eights (length l.initial.row / g.P.Pixel.BYTES) - l.k) l.initial.row (l.m * 8) l.row

use Rattle.laws.specs.Order.{Remain}
use Rattle.laws.specs.Changes.{changed_at}
use Rattle.laws.specs.Plain.{mark_rule}
use Rattle.writers.proofs.ByBits.few.Given as goal

abbrev pub invariant-loop-k : goal.invariant-loop-k
invariant-loop-k g l = let number = g.P.Pixel.number in
    let inks = l.fn.self.inks in
    Remain (changed_at g.P.Pixel.BYTES (mark_rule l.fn.self.bits (number inks.set.flip) (number inks.set.keep) (number inks.clear.flip) (number inks.clear.keep)) l.at) 0 l.n l.initial.row l.k l.row

use Rattle.units.specs.Turns.{Going}
use Rattle.model.specs.Steps.{machine}
use Rattle.std.proofs.Common.{◌-◌}
use Rattle.units.proofs.do_plain.Given as goal

abbrev pub invariant-loop-more : goal.invariant-loop-more
invariant-loop-more l = Going l.ring l.write (machine l.initial.core l.initial.table l.initial.frame) (machine l.core l.table l.frame) l.budget l.used

abbrev pub decreases-loop-more : goal.decreases-loop-more
decreases-loop-more l = l.budget - l.used

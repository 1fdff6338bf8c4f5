use Rattle.laws.specs.Moves.{Laid}
use Rattle.moves.proofs.lay.Given as goal

abbrev pub invariant-loop-i : goal.invariant-loop-i
invariant-loop-i l = Laid l.s l.from l.to 0 l.i l.initial.t l.t

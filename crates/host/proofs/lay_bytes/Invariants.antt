use Rattle.laws.specs.Pictures.{word_bytes}
use Rattle.laws.specs.Moves.{Laid}
use Rattle.host.proofs.lay_bytes.Given as goal

abbrev pub invariant-loop-i : goal.invariant-loop-i
invariant-loop-i l = Laid (word_bytes l.ring) l.from l.to l.a l.i l.initial.t l.t

use Prim.Native.Nat.{◌+◌, ◌*◌}
use Rattle.laws.specs.Pictures.{word_bytes}
use Rattle.laws.specs.Moves.{Laid}
use Rattle.host.proofs.lay_fours.Given as goal

abbrev pub invariant-loop-i : goal.invariant-loop-i
invariant-loop-i l = Laid (word_bytes l.ring) l.from l.to l.a (l.a + 4 * l.i) l.initial.t l.t

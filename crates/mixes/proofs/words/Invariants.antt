use Prim.Native.Nat.{◌/◌}
use lib.ListN.{length}
use Rattle.laws.specs.Order.{Remain}
use Rattle.laws.specs.Changes.{changed_at}
use Rattle.laws.specs.Words.{mix_rule}
use Rattle.mixes.proofs.words.Given as goal

abbrev pub invariant-loop-i : goal.invariant-loop-i
invariant-loop-i l = Remain (changed_at 4 (mix_rule 4 l.op.code l.op.pattern l.t 0) 0) 0 (length l.initial.row / 4) l.initial.row l.i l.row

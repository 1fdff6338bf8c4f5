use Rattle.model.specs.BltPixel.{draw_at}
use Rattle.laws.specs.Order.{Remain}
use Rattle.moves.proofs.smear.Given as goal

abbrev pub invariant-loop-m : goal.invariant-loop-m
invariant-loop-m l = Remain (λ x. draw_at l.fn.b x l.j) l.i l.n l.initial.f l.m l.f

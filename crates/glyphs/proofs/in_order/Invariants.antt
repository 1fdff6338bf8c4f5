use Rattle.model.specs.BltPixel.{draw_at}
use Rattle.laws.specs.Pixels.{Bytes}
use Rattle.laws.specs.Order.{Remain}
use Rattle.glyphs.proofs.in_order.Given as goal

abbrev pub invariant-loop-m : goal.invariant-loop-m
invariant-loop-m l = (Bytes l.f) × (Remain (λ x. draw_at l.b x l.j) l.i l.n l.initial.f l.m l.f)

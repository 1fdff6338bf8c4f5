use mathlib.Core.List.{[]}
use Rattle.std.proofs.Common.{None}
use Rattle.laws.specs.Order.{Remain}
use Rattle.laws.specs.Pictures.{stream_word, host_at}
use Rattle.host.proofs.HostRowsRowPainter.paint.Given as goal

abbrev pub invariant-loop-m : goal.invariant-loop-m
invariant-loop-m l =
    let p = l.self.picture in
    Remain (λ x. host_at None [] p.blt p.host p.mono p.bits (stream_word l.self.ring.now l.self.read l.self.before) x l.j) l.i l.n l.initial.f l.m l.f

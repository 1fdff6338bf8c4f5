use Rattle.std.specs.Prelude.{length, ◌≡◌}
use Rattle.tracing.specs.Trace.{held, begin_of, Reached}
use Rattle.trace.proofs.records.Given as goal

abbrev pub invariant-loop-turn : goal.invariant-loop-turn
invariant-loop-turn g l =
    (length l.ring ≡ length l.initial.ring) × (length l.frame ≡ length l.initial.frame)
    × Reached (begin_of l.head).held (held l.t l.ring l.frame)

use Prim.Native.Nat.{◌≤◌}
use mathlib.Core.Path.{◌≡◌}
use Rattle.model.specs.VectorPixel.{position}
use Rattle.vector.proofs.Frames.{Seen}
use Rattle.vector.proofs.extent.Given as goal

-- The loop has seen k pixels, and found none outside.
abbrev pub invariant-loop-k : goal.invariant-loop-k
invariant-loop-k l = (l.k ≤ l.v.length) × (l.s ≡ position l.v l.k) × (Seen l.framelength l.v l.k l.low l.end)

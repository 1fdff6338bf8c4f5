use Prim.Native.Nat.{◌+◌, ◌-◌, ◌≤◌}
use mathlib.Core.Path.{◌≡◌}
use lib.ListN.{length}
use Rattle.model.specs.VectorPixel.{position}
use Rattle.laws.specs.Order.{vector_pixels}
use Rattle.vector.proofs.draw.Given as goal

-- What is left of the pixels, drawn on frame memory as it stands, gives them all.
abbrev pub invariant-loop-i : goal.invariant-loop-i
invariant-loop-i l = (l.i ≤ l.n) × (l.s ≡ position l.v (l.k + l.i)) × (length l.f ≡ length l.initial.f)
    × (vector_pixels l.v (l.k + l.i) (l.n - l.i) l.f ≡ vector_pixels l.v l.k l.n l.initial.f)

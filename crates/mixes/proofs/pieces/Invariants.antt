use Prim.Native.Nat.{◌*◌}
use mathlib.Core.Path.{◌≡◌}
use Rattle.laws.specs.Pixels.{Bytes}
use Rattle.laws.specs.Rows.{row_pixels}
use Rattle.mixes.proofs.pieces.Given as goal

abbrev pub invariant-loop-k : goal.invariant-loop-k
invariant-loop-k l = (Bytes l.f) × (l.f ≡ row_pixels l.fn.b l.i l.j (l.k * l.c) l.initial.f)

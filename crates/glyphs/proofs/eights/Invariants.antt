use Prim.Native.Nat.{◌*◌}
use mathlib.Core.Path.{◌≡◌}
use Rattle.laws.specs.Pixels.{Bytes}
use Rattle.laws.specs.Rows.{row_pixels}
use Rattle.glyphs.proofs.eights.Given as goal

abbrev pub invariant-loop-k : goal.invariant-loop-k
invariant-loop-k l = record { bytes : Bytes l.f; drawn : l.f ≡ row_pixels l.fn.b l.i l.j (8 * l.k) l.initial.f }

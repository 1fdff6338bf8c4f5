-- Whether words run across the ring's end, without a sum.
use Prim.Native.Nat.{ℕ, ◌+◌, ◌-◌, ◌<◌}
use mathlib.Core.Path.{◌≡◌, refl, sym}
use mathlib.Core.Bool.{Bool, true, false}
use native.Mathlib.Omega.{arith}
use borrow.Author.Tests.{ltb-true, ltb-false, lt-ltb, le-ltb}
use Rattle.model.specs.Choice.{◌<?◌}

pub before_end : (size read length : ℕ) → read < size → size - read <? length ≡ size <? read + length
before_end size read length h = go (size - read <? length) refl
  where
    go : (b : Bool) → size - read <? length ≡ b → b ≡ size <? read + length
    go true e = let l = ltb-true (size - read) length e in sym (lt-ltb size (read + length) (omega arith))
    go false e = let l = ltb-false (size - read) length e in sym (le-ltb size (read + length) (omega arith))

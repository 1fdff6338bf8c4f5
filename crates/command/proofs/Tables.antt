-- A BLT's table of registers, by a test that is computed over it.
use Prim.Native.Nat.{ℕ, zero, suc, ◌≤◌, ◌<◌}
use mathlib.Core.Path.{◌≡◌, refl}
use mathlib.Core.Bool.{not}
use native.Mathlib.Omega.{arith}
use lib.ListN.{get_or}
use borrow.Author.Tests.{eqb-true, not-false}
use Rattle.model.specs.Choice.{◌=?◌}
use Rattle.model.specs.Bounds.{some}
use Rattle.model.specs.Command.{word_registers}
use Rattle.model.specs.declared.Kind.TheVariants.{Blt}
use Rattle.laws.specs.Some.{some_not}

-- a BLT's words are the registers in their own order
pub blt_register : (i : ℕ) → i < 16 → get_or (word_registers Blt) i 0 ≡ i
unfolding some
blt_register i h = eqb-true _ _ (not-false _ (some_not 16 (λ k. not (get_or (word_registers Blt) k 0 =? k)) i refl h))

-- what is none of the first k numbers is at least k
abbrev pub NoneOf : ℕ → ℕ → Type 0
NoneOf zero i = Unit {0}
NoneOf (suc k) i = NoneOf k i × (i ≡ k → ⊥)

pub none_of : (k i : ℕ) → NoneOf k i → k ≤ i
none_of zero i p = omega arith
none_of (suc k) i p = omega (arith, none_of k i p.0, p.1)

pub last_one : (i : ℕ) → i < 13 → 12 ≤ i → i ≡ 12
last_one i l p = omega arith

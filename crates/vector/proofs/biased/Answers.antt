use Prim.Native.Nat.{ℕ, suc, ◌+◌, ◌-◌, ◌<◌}
use mathlib.Core.Path.{◌≡◌, refl, sym, ap, ◌∙◌}
use native.Mathlib.Omega.{arith}
use lib.IntN.{ℤ, pos, negsuc, ◌+ℤ◌, ◌-ℤ◌, +ℤ-neg_ℤ_cancel}
use lib.Signed.{mag}
use mir.Syntax.{w16, w32}
use mir.Val.{SFits, to_z, of_z}
use mir.ValLaws.{to_z-of_z}
use borrow.Author.Tests.{le-ltb}
use Rattle.laws.specs.ClosedForm.{bias}
use borrow.Author.Rules.{rules}
use Rattle.vector.proofs.biased.Goals as goal

-- The sum is not below 0, and both widths hold it.
record Biased (z : ℤ) : Type 0 where
  sum : ℕ
  most : sum < 65_536
  is : z +ℤ pos bias ≡ pos sum

module _ (z : ℤ) (f : SFits w16 z) where
  biased : Biased z
  biased = go z f.sfits
    where
      go : (z : ℤ) → mag z < bias → Biased z
      go (pos n) h = record { sum = n + bias; most = omega arith; is = refl }
      go (negsuc n) h = record { sum = bias - suc n; most = omega arith; is = rw (le-ltb bias (suc n) h) }

  wide : SFits w32 z
  wide = record { sfits = omega (arith, f.sfits) }

  first : to_z w32 (of_z w32 (to_z w16 (of_z w16 z))) ≡ z
  first = rw (to_z-of_z w16 z f, to_z-of_z w32 z wide)

  whole : to_z w32 (of_z w32 (to_z w32 (of_z w32 (to_z w16 (of_z w16 z))) +ℤ pos bias)) ≡ pos biased.sum
  whole = rw (first, biased.is) (to_z-of_z w32 (pos biased.sum) (record { sfits = omega (arith, biased.most) }))

pub overflow_add-result : goal.overflow_add-result
overflow_add-result c = let b = biased c.args.x (search rules) in
    rw (c.from.ensures, first c.args.x (search rules), b.is) (record { sfits = omega (arith, b.most) })

pub overflow_cast-result : goal.overflow_cast-result
overflow_cast-result c = let b = biased c.args.x (search rules) in
    rw (c.from.ensures, whole c.args.x (search rules)) (tt, record { fits = omega (arith, b.most) })

pub returns : goal.returns
returns c = let z = c.args.x in
    let b = biased z (search rules) in
    rw (c.from.ensures, whole z (search rules))
    (sym (+ℤ-neg_ℤ_cancel z (pos bias)) ∙ ap (λ (y : ℤ). y -ℤ pos bias) b.is, b.most)

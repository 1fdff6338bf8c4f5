-- The sums of the first k steps fit, and what the diagonal ones take off is part of what the axial term adds.
use Prim.Native.Nat.{ℕ, ◌-◌}
use mathlib.Core.Path.{◌≡◌}
use native.Mathlib.Omega.{arith}
use Rattle.laws.specs.ClosedForm.{Terms, diagonals, error_at, Counted, counted, product_most}
use Rattle.vector.proofs.error_after.Goals as goal

steps : (initial axial diagonal k n : ℕ) → Terms initial axial diagonal → n ≡ diagonals initial axial diagonal k
    → Counted initial axial diagonal k n (error_at initial axial diagonal k)
steps initial axial diagonal k n terms is = rw is (counted initial axial diagonal terms k)

pub overflow_mul-result : goal.overflow_mul-result
overflow_mul-result c = omega (arith, product_most c.args.k (c.args.axial - 32768) c.requires.1 (omega arith))

pub overflow_add-result : goal.overflow_add-result
overflow_add-result c = omega (arith, product_most c.args.k (c.args.axial - 32768) c.requires.1 (omega arith))

pub overflow_mul-result-2 : goal.overflow_mul-result-2
overflow_mul-result-2 c =
    let a = c.args in
    omega (arith, product_most a.k (a.axial - 32768) c.requires.1 (omega arith), (steps a.initial a.axial a.diagonal a.k a.n c.requires.0 c.requires.2).sum)

pub overflow_sub-result-3 : goal.overflow_sub-result-3
overflow_sub-result-3 c =
    let a = c.args in omega (arith, (steps a.initial a.axial a.diagonal a.k a.n c.requires.0 c.requires.2).sum)

pub returns : goal.returns
returns c =
    let a = c.args in
    let s = steps a.initial a.axial a.diagonal a.k a.n c.requires.0 c.requires.2 in
    (omega (arith, s.sum), omega (arith, s.small))

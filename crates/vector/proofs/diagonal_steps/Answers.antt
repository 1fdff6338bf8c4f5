use Prim.Native.Nat.{ℕ, zero, suc, ◌-◌, ◌*◌, ◌<◌}
use native.Mathlib.Omega.{arith}
use Rattle.laws.specs.ClosedForm.{product_most, none_diagonal, some_diagonal, each_diagonal}
use Rattle.vector.proofs.diagonal_steps.Goals as goal

-- The three answers are those of the closed form.
positive : (k n : ℕ) → 0 < k * n → 0 < n
positive k zero h = absurd (omega arith)
positive k (suc n) h = omega arith

pub overflow_mul-total : goal.overflow_mul-total
overflow_mul-total c = omega (arith, product_most c.args.k (c.args.axial - 32768) c.requires.1 (omega arith))

pub overflow_add-total : goal.overflow_add-total
overflow_add-total c = omega (arith, product_most c.args.k (c.args.axial - 32768) c.requires.1 (omega arith))

pub returns-then-total-diagonal : goal.returns-then-total-diagonal
returns-then-total-diagonal c =
    let a = c.args in none_diagonal a.initial a.axial a.diagonal c.requires.0 a.k (omega arith)

pub overflow_mul-k : goal.overflow_mul-k
overflow_mul-k c = omega (arith, product_most c.args.k (c.args.axial - c.args.diagonal) c.requires.1 (omega arith))

pub nonzero_div-result : goal.nonzero_div-result
nonzero_div-result c = let a = c.args in positive a.k (a.axial - a.diagonal) (omega arith)

pub returns-then-total-diagonal-2 : goal.returns-then-total-diagonal-2
returns-then-total-diagonal-2 c =
    let a = c.args in some_diagonal a.initial a.axial a.diagonal c.requires.0 a.k (omega arith) (omega arith)

pub returns-else-total-diagonal-2 : goal.returns-else-total-diagonal-2
returns-else-total-diagonal-2 c =
    let a = c.args in each_diagonal a.initial a.axial a.diagonal c.requires.0 a.k (omega arith) (omega arith)

use Prim.Native.Nat.{◌≤◌}
use native.Mathlib.Omega.{arith}
use native.Mathlib.Nat.{mul-le-mul}
use Rattle.model.specs.BltPixel.{blt_of, rectangle_of}
use Rattle.model.specs.VectorPixel.{vector_of}
use Rattle.model.specs.Unit.{pixel_count}
use Rattle.drawing.proofs.pixel_count.Goals as goal

pub overflow_mul-result : goal.overflow_mul-result
overflow_mul-result c = let w : c.number-width.result ≤ 4095 = omega arith in
    let h : c.number.result ≤ 4095 = omega arith in
    let b = mul-le-mul w h in
    omega arith

pub returns-in-Blt : goal.returns-in-Blt
unfolding pixel_count blt_of rectangle_of
returns-in-Blt c = let w : c.number-width.result ≤ 4095 = omega arith in
    let h : c.number.result ≤ 4095 = omega arith in
    let b = mul-le-mul w h in
    rw c.in-Blt.is (rw (c.number-width.ensures.0, c.number.ensures.0), omega arith)

pub returns-in-Vector : goal.returns-in-Vector
unfolding pixel_count vector_of
returns-in-Vector c = rw c.in-Vector.is (c.number-width.ensures.0, omega arith)

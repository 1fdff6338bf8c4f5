use Rattle.host.proofs.Parts.{quotient_most}
use Rattle.laws.specs.Host.{pixels_in}
use native.Mathlib.Nat.{mul-le-mul, mod-lt}
use Prim.Native.Nat.{◌*◌, ◌/◌, ◌^◌, ◌≤◌}
use native.Mathlib.Omega.{arith}
use Rattle.host.proofs.pixels_in.Goals as goal

pub overflow_mul-result : goal.overflow_mul-result
overflow_mul-result c = let q = quotient_most c.saturating_sub-rest.result c.args.h.stride c.requires.1 in
    let p : c.saturating_sub-rest.result / c.args.h.stride * c.args.width ≤ 2 ^ 48 * 4_096 = mul-le-mul {n₂ = 2 ^ 48} {m₂ = 4_096} (omega (arith, c.saturating_sub-rest.ensures)) (omega arith) in
    omega arith

pub columns_in-requires : goal.columns_in-requires
columns_in-requires c = (c.requires.0, omega (arith, mod-lt c.saturating_sub-rest.result c.requires.1, c.requires.0.stride_most))

pub overflow_add-result : goal.overflow_add-result
overflow_add-result c = let q = quotient_most c.saturating_sub-rest.result c.args.h.stride c.requires.1 in
    let p : c.saturating_sub-rest.result / c.args.h.stride * c.args.width ≤ 2 ^ 48 * 4_096 = mul-le-mul {n₂ = 2 ^ 48} {m₂ = 4_096} (omega (arith, c.saturating_sub-rest.ensures)) (omega arith) in
    omega (arith, c.columns_in.ensures.1)

pub returns : goal.returns
unfolding pixels_in
returns c = rw (← c.saturating_sub-rest.ensures, ← c.columns_in.ensures.0)

use Rattle.model.specs.Host.{host_byte}
use mathlib.Core.Path.{refl}
use native.Mathlib.Nat.{mul-le-mul}
use native.Mathlib.Omega.{arith}
use Prim.Native.Nat.{◌*◌, ◌≤◌}
use Rattle.host.proofs.byte_of.Goals as goal

pub overflow_mul-result : goal.overflow_mul-result
overflow_mul-result c = let r = c.requires.0 in
    let p : c.args.j * c.args.h.stride ≤ 4_095 * 65_535 = mul-le-mul {n₂ = 4_095} {m₂ = 65_535} (omega arith) (omega (arith, r.stride_most)) in
    let q : c.args.i * c.args.h.bits ≤ 4_095 * 32 = mul-le-mul {n₂ = 4_095} {m₂ = 32} (omega arith) r.bits_most in
    omega (arith, r.first_most, r.skip_most)

pub overflow_add-result : goal.overflow_add-result
overflow_add-result c = let r = c.requires.0 in
    let p : c.args.j * c.args.h.stride ≤ 4_095 * 65_535 = mul-le-mul {n₂ = 4_095} {m₂ = 65_535} (omega arith) (omega (arith, r.stride_most)) in
    let q : c.args.i * c.args.h.bits ≤ 4_095 * 32 = mul-le-mul {n₂ = 4_095} {m₂ = 32} (omega arith) r.bits_most in
    omega (arith, r.first_most, r.skip_most)

pub overflow_mul-result-2 : goal.overflow_mul-result-2
overflow_mul-result-2 c = let r = c.requires.0 in
    let p : c.args.j * c.args.h.stride ≤ 4_095 * 65_535 = mul-le-mul {n₂ = 4_095} {m₂ = 65_535} (omega arith) (omega (arith, r.stride_most)) in
    let q : c.args.i * c.args.h.bits ≤ 4_095 * 32 = mul-le-mul {n₂ = 4_095} {m₂ = 32} (omega arith) r.bits_most in
    omega (arith, r.first_most, r.skip_most)

pub overflow_add-result-2 : goal.overflow_add-result-2
overflow_add-result-2 c = let r = c.requires.0 in
    let p : c.args.j * c.args.h.stride ≤ 4_095 * 65_535 = mul-le-mul {n₂ = 4_095} {m₂ = 65_535} (omega arith) (omega (arith, r.stride_most)) in
    let q : c.args.i * c.args.h.bits ≤ 4_095 * 32 = mul-le-mul {n₂ = 4_095} {m₂ = 32} (omega arith) r.bits_most in
    omega (arith, r.first_most, r.skip_most)

pub overflow_add-result-3 : goal.overflow_add-result-3
overflow_add-result-3 c = let r = c.requires.0 in
    let p : c.args.j * c.args.h.stride ≤ 4_095 * 65_535 = mul-le-mul {n₂ = 4_095} {m₂ = 65_535} (omega arith) (omega (arith, r.stride_most)) in
    let q : c.args.i * c.args.h.bits ≤ 4_095 * 32 = mul-le-mul {n₂ = 4_095} {m₂ = 32} (omega arith) r.bits_most in
    omega (arith, r.first_most, r.skip_most)

pub returns : goal.returns
unfolding host_byte
returns c = let r = c.requires.0 in
    let p : c.args.j * c.args.h.stride ≤ 4_095 * 65_535 = mul-le-mul {n₂ = 4_095} {m₂ = 65_535} (omega arith) (omega (arith, r.stride_most)) in
    let q : c.args.i * c.args.h.bits ≤ 4_095 * 32 = mul-le-mul {n₂ = 4_095} {m₂ = 32} (omega arith) r.bits_most in
    (refl, omega (arith, r.first_most, r.skip_most))

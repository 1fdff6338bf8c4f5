use Rattle.host.proofs.Parts.{area_wide, stride_some, words_feed}
use Rattle.laws.specs.Host.{ranged_host, pixels_in}
use Rattle.model.specs.declared.Primitive.TheVariants.{Blt}
use Rattle.model.specs.Unit.{pixel_count}
use Rattle.model.specs.Host.{host_of}
use Rattle.model.specs.BltPixel.{rectangle_of, blt_of}
use Rattle.model.specs.Registers.{width}
use native.Mathlib.Nat.{mul-le-mul}
use mathlib.Core.Path.{◌≡◌, ◌∙◌}
use Prim.Native.Nat.{◌+◌, ◌*◌, ◌≤◌, ◌<◌}
use native.Mathlib.Omega.{arith}
use Rattle.host.proofs.span.Goals as goal

pub pixels_in-there-requires : goal.pixels_in-there-requires
unfolding pixel_count blt_of rectangle_of
pixels_in-there-requires c = let wide : 0 < width c.args.registers = area_wide _ _ _ c.requires.1 in
    rw c.host_of.ensures (ranged_host c.args.registers c.requires.0, stride_some c.args.registers c.requires.0 wide, c.number-width.ensures.1, omega arith)

pub overflow_mul-width : goal.overflow_mul-width
overflow_mul-width c = let p : c.number-width.result * c.number-height.result ≤ 4_096 * 4_096 = mul-le-mul {n₂ = 4_096} {m₂ = 4_096} (omega (arith, c.number-width.ensures.1)) (omega (arith, c.number-height.ensures.1)) in
    omega arith

pub returns-then-rest-lt2 : goal.returns-then-rest-lt2
returns-then-rest-lt2 c = (omega arith, omega arith, omega arith, λ x l. let z : c.args.k + x ≡ c.args.k = omega arith in rw z c.requires.2)

pub returns-else-rest-lt2 : goal.returns-else-rest-lt2
unfolding pixel_count blt_of rectangle_of
returns-else-rest-lt2 c = let wide : 0 < width c.args.registers = area_wide _ _ _ c.requires.1 in
    let all : c.number-width.result * c.number-height.result ≡ pixel_count Blt c.args.registers = rw (c.number-width.ensures.0, c.number-height.ensures.0) in
    let there : c.pixels_in-there.result ≡ pixels_in (host_of c.args.registers) (width c.args.registers) (4 * c.args.word) = c.pixels_in-there.ensures ∙ rw (c.host_of.ensures, c.number-width.ensures.0) in (
      omega arith,
      omega arith,
      omega arith,
      λ x l. words_feed c.args.registers c.requires.0 wide c.args.word (c.args.k + x) (omega arith),
    )

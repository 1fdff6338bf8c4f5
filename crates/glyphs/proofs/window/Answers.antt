use Prim.Native.Nat.{◌+◌, ◌-◌, ◌/◌}
use mathlib.Core.Path.{◌∙◌}
use native.Mathlib.Omega.{arith}
use Rattle.laws.specs.Pixels.{Bytes, read_lt}
use Rattle.laws.specs.Glyphs.{window_read}
use Rattle.glyphs.proofs.window.Goals as goal

pub overflow_mul-result : goal.overflow_mul-result
overflow_mul-result c = let p : Bytes c.args.f.now = λ k. omega (arith, c.shared_slice_known-1.given k) in
    omega (arith, c.wide-first.ensures ∙ c.load.ensures, read_lt 1 c.args.f.now c.args.q p)

pub overflow_add-result : goal.overflow_add-result
overflow_add-result c = let p : Bytes c.args.f.now = λ k. omega (arith, c.shared_slice_known-1.given k) in
    omega (arith, c.wide-first.ensures ∙ c.load.ensures, c.wide-second.ensures ∙ c.load-2.ensures, read_lt 1 c.args.f.now c.args.q p, read_lt 1 c.args.f.now (c.args.q + (c.args.shift + c.args.c - 1) / 8) p)

pub returns : goal.returns
returns c = window_read _ (λ k. omega (arith, c.shared_slice_known-1.given k)) _ _ _ c.requires.0 c.requires.2 (c.wide-first.ensures ∙ c.load.ensures) (c.wide-second.ensures ∙ c.load-2.ensures)

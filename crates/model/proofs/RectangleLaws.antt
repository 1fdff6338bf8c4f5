-- What is proved of specs/Rectangle.
use Rattle.std.specs.Prelude.{ℕ, ◌+◌, ◌≤◌, ◌≡◌, refl}
use native.Mathlib.Omega.{arith}
use Rattle.std.proofs.Common.{zero-mul}
use Rattle.model.proofs.Choice.{if_both}
use Rattle.model.specs.declared.Axis.{Axis}
use Rattle.model.specs.declared.Rectangle.{Rectangle}
use Rattle.model.specs.Rectangle.{named_byte, ahead, behind, minus_at, pixel_byte}

-- ---- laws

no_steps : (a : Axis) → (ahead a 0 ≡ 0) × (behind a 0 ≡ 0)
no_steps a =
    (if_both (λ n. n ≡ 0) a.negative refl (zero-mul a.step), if_both (λ n. n ≡ 0) a.negative (zero-mul a.step) refl)

module _ (r : Rectangle) where
  -- the offset is that byte of the first pixel, unless the pixel begins below byte 0
  pub offset_names : named_byte r ≤ r.offset → pixel_byte r 0 0 + named_byte r ≡ r.offset
  unfolding pixel_byte
  offset_names l = let x = no_steps r.columns in let y = no_steps r.rows in omega arith

  -- "At 8 bits nothing moves.": with one byte a pixel every pixel lies where document 01 has it
  pub one_byte : r.depth ≡ 1 → (i j : ℕ) → minus_at r i j ≡ behind r.columns i + behind r.rows j
  one_byte e i j =
      let z : named_byte r ≡ 0 = if_both (λ n. n ≡ 0) r.columns.negative (omega arith) (omega arith) in
      omega arith

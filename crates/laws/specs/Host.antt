-- Host sources: in the order of a BLT's pixels the bytes and words that hold them rise.
use Prim.Native.Nat.{ℕ, zero, suc, ◌+◌, ◌-◌, ◌*◌, ◌/◌, ◌%◌, ◌≤◌, ◌<◌}
use Rattle.std.specs.Prelude.{◌≡◌, Bool, true, false, List, if◌then◌else◌}
use Rattle.std.proofs.Math.Path.{refl}
use Rattle.std.proofs.Common.{◌∙◌, mod-lt, suc-mul, mul-le-mul, div-add-mod', ltb-true, ltb-false}
use Rattle.std.proofs.Math.Logic.{⊎_elim}
use native.Mathlib.Omega.{arith}
use Rattle.std.proofs.Math.Nat.{add-mul, mul-le-mul_right, div-mul-le_self}
use Rattle.model.specs.Choice.{◌<?◌, ◌=?◌}
use Rattle.model.proofs.Choice.{if_both}
use Rattle.model.specs.Registers.{format_code, width, source_mode}
use Rattle.model.specs.Formats.{Depth, format_of, depth_of}
use Rattle.model.specs.BltPixel.{mono_mode, blt_of, rectangle_of}
use Rattle.model.specs.Host.{row_bytes, starting_bit, bits_per_pixel, host_stride, host_of, host_byte, host_pixel, host_word}
use Rattle.model.specs.declared.Host.{Host}
use Rattle.laws.specs.Pixels.{depth_least, depth_most}
use Rattle.laws.specs.Numbers.{less_or_not, column_add, row_add, column_next, row_next}

-- the rows do not overlap
pub stride_holds : (registers : List ℕ) → row_bytes (starting_bit registers) (bits_per_pixel registers) (width registers) ≤ host_stride registers
stride_holds registers =
    if_both (λ (x : ℕ). row_bytes (starting_bit registers) (bits_per_pixel registers) (width registers) ≤ x)
    (source_mode registers =? 0b10) (omega arith) (omega arith)

-- the next pixel lies no earlier: in the same row, or in the next one
module _ (h : Host) (w : ℕ) (holds : row_bytes h.skip h.bits w ≤ h.stride) where
  pub byte_next : (k : ℕ) → 0 < w → host_byte h (k % w) (k / w) ≤ host_byte h ((k + 1) % w) ((k + 1) / w)
  unfolding host_byte
  byte_next k wide = ⊎_elim within over (less_or_not (k % w + 1) w)
    where
      within : k % w + 1 < w → host_byte h (k % w) (k / w) ≤ host_byte h ((k + 1) % w) ((k + 1) / w)
      within l =
          let p : (k % w + 1) * h.bits ≡ k % w * h.bits + h.bits = add-mul (k % w) 1 h.bits ∙ omega arith in
          rw (column_add w k 1 l, row_add w k 1 l) (omega arith)

      over : w ≤ k % w + 1 → host_byte h (k % w) (k / w) ≤ host_byte h ((k + 1) % w) ((k + 1) / w)
      over l =
          let m : k % w < w = mod-lt k wide in
          let s : w - k % w ≡ 1 = omega arith in
          let c = rw s at (column_next w k wide) in
          let r = rw s at (row_next w k wide) in
          let p : k % w * h.bits ≤ w * h.bits = mul-le-mul_right h.bits (omega arith) in
          let q : (k / w + 1) * h.stride ≡ k / w * h.stride + h.stride = add-mul (k / w) 1 h.stride ∙ omega arith in
          rw (c, r) (omega arith)

pub host_next : (registers : List ℕ) (k : ℕ) → 0 < width registers → host_word registers k ≤ host_word registers (k + 1)
unfolding host_word host_pixel host_of blt_of rectangle_of
host_next registers k wide = omega (arith, byte_next (host_of registers) (width registers) (stride_holds registers) k wide)

-- from any pixel to any later one
pub host_rises : (registers : List ℕ) (k x : ℕ) → 0 < width registers → host_word registers k ≤ host_word registers (k + x)
host_rises registers k zero wide = let e : k + 0 ≡ k = omega arith in rw e (omega arith)
host_rises registers k (suc x) wide =
    let e : k + suc x ≡ k + x + 1 = omega arith in
    rw e (omega (arith, host_rises registers k x wide, host_next registers (k + x) wide))

-- ---- ranges

pub record RangedHost (h : Host) : Type 0 where
  pub first_most : h.first < 4
  pub stride_most : h.stride < 65_536
  pub skip_most : h.skip < 8
  pub bits_least : 0 < h.bits
  pub bits_most : h.bits ≤ 32

module _ (registers : List ℕ) (deep : Depth (depth_of (format_of (format_code registers)))) where
  bits_in : (0 < bits_per_pixel registers) × (bits_per_pixel registers ≤ 32)
  bits_in =
      let d = depth_least deep in
      let e = depth_most deep in
      if_both (λ (x : ℕ). (0 < x) × (x ≤ 32)) (mono_mode registers) (omega arith, omega arith) (omega arith, omega arith)

  skip_in : starting_bit registers < 8
  skip_in = if_both (λ (x : ℕ). x < 8) (mono_mode registers) (omega arith) (omega arith)

  row_most : row_bytes (starting_bit registers) (bits_per_pixel registers) (width registers) ≤ 16_384
  row_most =
      let p : width registers * bits_per_pixel registers ≤ 4_095 * 32 = mul-le-mul {n₂ = 4_095} {m₂ = 32} (omega arith) bits_in.1 in
      let s = skip_in in
      omega arith

  pub ranged_host : RangedHost (host_of registers)
  unfolding host_of
  ranged_host =
      let m = row_most in
      record {
        first_most = omega arith;
        stride_most = if_both (λ (x : ℕ). x < 65_536) (source_mode registers =? 0b10) (omega arith) (omega arith);
        skip_most = skip_in;
        bits_least = bits_in.0;
        bits_most = bits_in.1;
      }

-- ---- how many pixels so many bytes feed

-- of a row of `width` pixels, those that begin in its first `bytes` bytes
unfoldable pub columns_in : Host → (width bytes : ℕ) → ℕ
columns_in h width bytes =
    let n = (8 * bytes - h.skip + h.bits - 1) / h.bits in
    if width <? n then width else n

-- of all rows, those that begin in the first `bytes` bytes of all words
unfoldable pub pixels_in : Host → (width bytes : ℕ) → ℕ
pixels_in h width bytes =
    let rest = bytes - h.first in
    rest / h.stride * width + columns_in h width (rest % h.stride)

module _ (h : Host) (ranged : RangedHost h) (w : ℕ) (holds : row_bytes h.skip h.bits w ≤ h.stride) (wide : 0 < w) where
  -- a pixel begins within its row's bytes
  column_byte : (i : ℕ) → i < w → (h.skip + i * h.bits) / 8 < h.stride
  column_byte i l =
      let p : (i + 1) * h.bits ≤ w * h.bits = mul-le-mul_right h.bits (omega arith) in
      let e : (i + 1) * h.bits ≡ i * h.bits + h.bits = add-mul i 1 h.bits ∙ omega arith in
      omega (arith, ranged.bits_least)

  columns_in_lem : (bytes i : ℕ) → i < columns_in h w bytes → (i < w) × ((h.skip + i * h.bits) / 8 < bytes)
  unfolding columns_in
  columns_in_lem bytes i l = go (w <? (8 * bytes - h.skip + h.bits - 1) / h.bits) refl l
    where
      within : i < (8 * bytes - h.skip + h.bits - 1) / h.bits → (h.skip + i * h.bits) / 8 < bytes
      within l =
          let n = 8 * bytes - h.skip + h.bits - 1 in
          let p : (i + 1) * h.bits ≤ n / h.bits * h.bits = mul-le-mul_right h.bits (omega arith) in
          let q = div-mul-le_self n h.bits in
          let e : (i + 1) * h.bits ≡ i * h.bits + h.bits = add-mul i 1 h.bits ∙ omega arith in
          omega (arith, ranged.bits_least)

      go : (b : Bool) → w <? (8 * bytes - h.skip + h.bits - 1) / h.bits ≡ b
          → i < (if b then w else (8 * bytes - h.skip + h.bits - 1) / h.bits) → (i < w) × ((h.skip + i * h.bits) / 8 < bytes)
      go true e q = let s : i < w = q in (s, within (omega (arith, ltb-true w _ e)))
      go false e q = let s : i < (8 * bytes - h.skip + h.bits - 1) / h.bits = q in (omega (arith, ltb-false w _ e), within s)

  pub pixels_in_lem : (bytes k : ℕ) → k < pixels_in h w bytes → host_byte h (k % w) (k / w) < bytes
  unfolding pixels_in host_byte
  pixels_in_lem bytes k l = ⊎_elim before same (less_or_not (k / w) (rest / h.stride))
    where
      rest : ℕ
      rest = bytes - h.first

      split : rest / h.stride * h.stride + rest % h.stride ≡ rest
      split = div-add-mod' rest h.stride

      before : k / w < rest / h.stride → h.first + k / w * h.stride + (h.skip + k % w * h.bits) / 8 < bytes
      before q =
          let c = column_byte (k % w) (mod-lt k wide) in
          let p : (k / w + 1) * h.stride ≤ rest / h.stride * h.stride = mul-le-mul_right h.stride (omega arith) in
          let e : (k / w + 1) * h.stride ≡ k / w * h.stride + h.stride = add-mul (k / w) 1 h.stride ∙ omega arith in
          omega (arith, split)

      same : rest / h.stride ≤ k / w → h.first + k / w * h.stride + (h.skip + k % w * h.bits) / 8 < bytes
      same q =
          let m = mod-lt k wide in
          let s = div-add-mod' k w in
          let p : rest / h.stride * w ≤ k / w * w = mul-le-mul_right w q in
          let c0 = columns_in_lem (rest % h.stride) (k - rest / h.stride * w) (omega arith) in
          let e : k / w ≡ rest / h.stride = row_of (omega (arith, c0.0)) in
          let f : k - rest / h.stride * w ≡ k % w = rw (← e) (omega arith) in
          let c = rw f at c0.1 in
          rw e (omega (arith, split))
        where
          row_of : k < rest / h.stride * w + w → k / w ≡ rest / h.stride
          row_of l =
              let p : suc (k / w) * w ≤ k + w = rw (suc-mul (k / w) w) (omega (arith, div-add-mod' k w)) in
              ⊎_elim (λ t. let u : (rest / h.stride + 2) * w ≤ suc (k / w) * w = mul-le-mul_right w (omega arith) in
              let v : (rest / h.stride + 2) * w ≡ rest / h.stride * w + 2 * w = add-mul (rest / h.stride) 2 w in absurd (omega arith))
              (λ t. omega arith) (less_or_not (rest / h.stride) (k / w))

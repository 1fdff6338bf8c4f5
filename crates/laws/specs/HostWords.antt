-- Host sources: every word that a BLT takes holds a pixel. From one pixel to the next the word stays or is the next one.
use Rattle.std.specs.Prelude.{ℕ, zero, suc, ◌+◌, ◌-◌, ◌*◌, ◌/◌, ◌%◌, ◌≤◌, ◌<◌, ◌≡◌, Bool, true, false, ◌&&◌, ◌||◌, List}
use Rattle.std.proofs.Math.Path.{refl}
use Rattle.std.proofs.Common.{sym, ◌∙◌, mod-lt, mul_assoc, mul_comm, mul-one, add-one}
use Rattle.std.proofs.Math.Logic.{⊎_elim}
use native.Mathlib.Omega.{arith}
use Rattle.std.proofs.Math.Nat.{add-mul, zero-mul, zero-mod, zero-div}
use Rattle.model.specs.Choice.{◌=?◌}
use Rattle.model.proofs.Choice.{neither, or_right}
use Rattle.model.specs.Registers.{width, pattern_inversion, pattern_mode, source_mode, source_select, format_code}
use Rattle.model.specs.Formats.{format_of, depth_of}
use Rattle.model.specs.BltPixel.{mono_mode, blt_of, rectangle_of}
use Rattle.model.specs.Host.{row_bytes, from_host, starting_byte, starting_bit, bits_per_pixel, host_stride, host_of, host_byte, host_pixel, host_word, straddles}
use Rattle.model.specs.Judging.{judge, source_bits, mono_back, row24_source, row24_channel3}
use Rattle.model.specs.Unit.{pixel_count}
use Rattle.model.specs.declared.Host.{Host}
use Rattle.model.specs.declared.Primitive.TheVariants.{Blt}
use Rattle.laws.specs.Numbers.{less_or_not, column_add, row_add, column_next, row_next}
use Rattle.laws.specs.Straddling.{in_word}
use Rattle.laws.specs.Ranges.{judged_rows, fit_blt}
use Rattle.laws.specs.Host.{RangedHost, ranged_host}
use Rattle.laws.specs.Fit.{judged_wide}

-- ---- the next pixel

-- a pixel of d bytes from byte y on that lies within a word
within_word : (first y d rows : ℕ) → (first + rows * 4 + y) % 4 + d ≤ 4 → (first + (y + d) + 3) / 4 ≤ (first + y) / 4 + 1
within_word first y d rows e = omega arith

module _ (h : Host) (ranged : RangedHost h) (i j : ℕ) where
  -- in the same row
  along : host_byte h (i + 1) j ≤ host_byte h i j + 4
  unfolding host_byte
  along =
      let p : (i + 1) * h.bits ≡ i * h.bits + h.bits = add-mul i 1 h.bits ∙ omega arith in
      omega arith

  module _ (w : ℕ) (last : i + 1 ≡ w) where
    -- in the next row, which begins in the next byte
    down_packed : h.bits ≡ 1 → h.stride ≡ row_bytes h.skip h.bits w → host_byte h 0 (j + 1) ≤ host_byte h i j + 1
    unfolding host_byte
    down_packed one packed =
        let q : (j + 1) * h.stride ≡ j * h.stride + h.stride = add-mul j 1 h.stride ∙ omega arith in
        let x : i * h.bits ≡ i = rw one (mul-one i) in
        let y : w * h.bits ≡ w = rw one (mul-one w) in
        omega arith

    -- in the next row, which begins a word. `ends`: the last word of the row holds its last pixel
    down_word : h.stride ≡ (h.first + row_bytes h.skip h.bits w + 3) / 4 * 4
        → (h.first + row_bytes h.skip h.bits w + 3) / 4 ≤ (h.first + (h.skip + i * h.bits) / 8) / 4 + 1
        → host_byte h 0 (j + 1) / 4 ≤ host_byte h i j / 4 + 1
    unfolding host_byte
    down_word words ends =
        let n = (h.first + row_bytes h.skip h.bits w + 3) / 4 in
        let q : (j + 1) * h.stride ≡ j * h.stride + h.stride = add-mul j 1 h.stride ∙ omega arith in
        let s : j * h.stride ≡ j * n * 4 = rw words (sym (mul_assoc j n 4)) in
        omega arith

-- ---- of a BLT that judging accepts

module _ (registers : List ℕ) (framelength : ℕ) (judged : judge Blt registers framelength ≡ 0)
    (host : from_host registers ≡ true) where
  abbrev w : ℕ
  w = width registers

  abbrev depth : ℕ
  depth = depth_of (format_of (format_code registers))

  ranged : RangedHost (host_of registers)
  unfolding blt_of rectangle_of
  ranged = ranged_host registers (fit_blt registers framelength judged).destination_fit.ranged.deep

  pub no_straddle : straddles registers ≡ false
  no_straddle =
      let rest = (neither _ (pattern_inversion registers) (judged_rows Blt registers framelength judged).1.0).0 in
      let codes = source_mode registers =? 0b11 || source_select registers =? 0b11 || pattern_mode registers =? 0b11 in
      let source = (neither codes (row24_source registers) (neither _ (row24_channel3 registers) rest).0).1 in
      (neither (mono_back registers || source_mode registers =? 0b00 && source_bits registers) (straddles registers) source).1

  -- from the last pixel of a row to the first of the next
  down : (i j : ℕ) → i + 1 ≡ w
      → (mono_mode registers ≡ false → host_byte (host_of registers) i j % 4 + depth ≤ 4)
      → host_byte (host_of registers) 0 (j + 1) / 4 ≤ host_byte (host_of registers) i j / 4 + 1
  unfolding host_of host_byte
  down i j last inside = go (source_mode registers =? 0b10) (mono_mode registers) refl refl
    where
      h : Host
      h = host_of registers

      go : (packed mono : Bool) → source_mode registers =? 0b10 ≡ packed → mono_mode registers ≡ mono
          → host_byte h 0 (j + 1) / 4 ≤ host_byte h i j / 4 + 1
      go true mono e m = omega (arith, down_packed h ranged i j w last (rw (or_right (source_mode registers =? 0b01) _ e)) (rw e))
      go false true e m =
          let one : bits_per_pixel registers ≡ 1 = rw m in
          let x : i * bits_per_pixel registers ≡ i = rw one (mul-one i) in
          let y : w * bits_per_pixel registers ≡ w = rw one (mul-one w) in
          down_word h ranged i j w last (rw e) (omega arith)
      go false false e m =
          let n = (starting_byte registers + row_bytes (starting_bit registers) (bits_per_pixel registers) w + 3) / 4 in
          let words : host_stride registers ≡ n * 4 = rw e in
          let z : j * host_stride registers ≡ j * n * 4 = rw words (sym (mul_assoc j n 4)) in
          let bits : bits_per_pixel registers ≡ depth * 8 = rw m (mul_comm 8 depth) in
          let none : starting_bit registers ≡ 0 = rw m in
          let x : (starting_bit registers + i * bits_per_pixel registers) / 8 ≡ i * depth =
          rw (none, bits, ← mul_assoc i depth 8) (omega arith) in
          let y : row_bytes (starting_bit registers) (bits_per_pixel registers) w ≡ i * depth + depth =
          rw (none, bits, ← last, add-mul i 1 (depth * 8), ← mul_assoc i depth 8) (omega arith) in
          down_word h ranged i j w last words
          (rw (x, y) (within_word (starting_byte registers) (i * depth) depth (j * n) (rw (z, x) at (inside m))))

  pub host_step : (k : ℕ) → k < pixel_count Blt registers → host_word registers (k + 1) ≤ host_word registers k + 1
  unfolding host_word host_pixel pixel_count blt_of rectangle_of
  host_step k l = ⊎_elim within over (less_or_not (k % w + 1) w)
    where
      wide : 0 < w
      wide = judged_wide registers framelength judged

      within : k % w + 1 < w → host_word registers (k + 1) ≤ host_word registers k + 1
      within l = rw (column_add w k 1 l, row_add w k 1 l) (omega (arith, along (host_of registers) ranged (k % w) (k / w)))

      over : w ≤ k % w + 1 → host_word registers (k + 1) ≤ host_word registers k + 1
      over m =
          let s : w - k % w ≡ 1 = omega (arith, mod-lt k wide) in
          let c = rw s at (column_next w k wide) in
          let r = rw s at (row_next w k wide) in
          rw (c, r) (down (k % w) (k / w) (omega arith) (λ color. in_word registers no_straddle host color k l))

  -- the first pixel lies in the first word
  pub host_zero : host_word registers 0 ≡ 0
  unfolding host_word host_pixel host_byte host_of blt_of rectangle_of
  host_zero = rw (zero-mod w, zero-div w, zero-mul (host_stride registers)) (omega (arith, ranged.skip_most))

  -- so each word up to a pixel's holds a pixel
  pub every_word : (k : ℕ) → k < pixel_count Blt registers → (n : ℕ) → n ≤ host_word registers k
      → (i : ℕ) × (i ≤ k) × (host_word registers i ≡ n)
  every_word zero l n h = (0, omega arith, omega (arith, host_zero))
  every_word (suc k) l n h =
      ⊎_elim
      (λ m. (suc k, omega arith, omega (arith, rw (add-one k) at (host_step k (omega arith)))))
      (λ m. let x = every_word k (omega arith) n m in (x.0, omega (arith, x.1), x.2))
      (less_or_not (host_word registers k) n)

-- What is proved of specs/Host.
use Rattle.std.specs.Prelude.{ℕ, ◌+◌, ◌*◌, ◌/◌, ◌≡◌, false, List}
use Rattle.std.proofs.Common.{arith, mul_left_comm}
use Rattle.model.specs.Choice.{◌=?◌}
use Rattle.model.proofs.Choice.{neither}
use Rattle.model.specs.Registers.{format_code, source_skip, source_mode, width}
use Rattle.model.specs.Formats.{format_of, depth_of}
use Rattle.model.specs.BltPixel.{mono_mode}
use Rattle.model.specs.Host.{starting_byte, host_stride}

-- ---- laws: what a row takes

module _ (registers : List ℕ) where
  -- of colour pixels (f + width * depth) / 4 words, rounded up
  pub color_row : mono_mode registers ≡ false
      → host_stride registers ≡ 4 * ((starting_byte registers + width registers * depth_of (format_of (format_code registers)) + 3) / 4)
  color_row e =
      let depth = depth_of (format_of (format_code registers)) in
      let h = neither (source_mode registers =? 0b01) (source_mode registers =? 0b10) e in
      let p : width registers * (8 * depth) ≡ 8 * (width registers * depth) = mul_left_comm (width registers) 8 depth in
      rw (h.0, h.1) (omega arith)

  -- of unpacked mono pixels (8 f + XLSBS + width) / 32 words, rounded up
  pub unpacked_row : source_mode registers ≡ 0b01
      → host_stride registers ≡ 4 * ((8 * starting_byte registers + source_skip registers + width registers + 31) / 32)
  unpacked_row e = rw e (omega arith)

  -- of byte-packed mono pixels (XLSBS + width) / 8 bytes, rounded up
  pub packed_row : source_mode registers ≡ 0b10 → host_stride registers ≡ (source_skip registers + width registers + 7) / 8
  packed_row e = rw e (omega arith)

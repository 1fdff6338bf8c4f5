-- What a fit place gives the code that draws pixels which a data command feeds.
use Rattle.std.proofs.Common.{◌≡◌, ℕ, ◌+◌, ◌*◌, ◌%◌, ◌<◌, ◌≤◌, false, arith}
use Rattle.model.specs.Limits.{ring_most, frame_most, side_most}
use Rattle.model.specs.Registers.{format_code, width, height}
use Rattle.model.specs.Formats.{Depth, format_of, depth_of}
use Rattle.model.specs.BltPixel.{rectangle_of, mono_mode, mono_source_of, blt_of}
use Rattle.model.specs.Host.{host_of, host_byte, host_pixel, host_word}
use Rattle.model.specs.Unit.{pixel_count}
use Rattle.model.specs.declared.Core.{Core}
use Rattle.model.specs.declared.Feed.{Feed}
use Rattle.model.specs.declared.Primitive.TheVariants.{Blt}
use Rattle.laws.specs.Numbers.{column_is, row_is, number_lt}
use Rattle.laws.specs.Ranges.{fit_blt, area_most}
use Rattle.laws.specs.Fit.{FitPlace, FitFed, judged_wide}
use Rattle.laws.specs.Host.{host_rises, ranged_host}
use Rattle.laws.specs.HostWords.{no_straddle}
use Rattle.laws.specs.Straddling.{in_word}
use Rattle.laws.specs.Pictures.{colored_host}
use Rattle.host.specs.declared.Picture.{Picture}
use Rattle.host.specs.Pictures.{picture_of, Ranged, BandFed}

-- bytes a pixel of a BLT that judging accepts
pub fit_deep : (c : Core) (k : ℕ) → FitPlace c Blt k → Depth (depth_of (format_of (format_code c.registers)))
unfolding blt_of rectangle_of
fit_deep c k f = (fit_blt c.registers c.framelength f.judged).destination_fit.ranged.deep

-- it has not too many pixels
pub pixels_most_lem : (c : Core) (k : ℕ) → FitPlace c Blt k → pixel_count Blt c.registers ≤ side_most * side_most
unfolding pixel_count
pixels_most_lem c k f = area_most (fit_blt c.registers c.framelength f.judged).destination_fit.ranged

module _ (c : Core) (w k : ℕ) (feed : Feed) (f : FitFed c w k feed) where
  ranged : Ranged (picture_of c.registers)
  unfolding picture_of mono_source_of blt_of rectangle_of
  ranged = record {
    host_ranged = ranged_host c.registers (fit_deep c k f.pixel);
    skip_most = omega arith;
    colored = colored_host c.registers;
    inside = λ e i j l h. one_word e i j l h;
  }
    where
      one_word : mono_mode c.registers ≡ false → (i j : ℕ) → i < width c.registers → j < height c.registers
          → host_byte (host_of c.registers) i j % 4 + depth_of (format_of (format_code c.registers)) ≤ 4
      one_word e i j l h =
          let n = in_word c.registers (no_straddle c.registers c.framelength f.pixel.judged f.host) f.host e (j * width c.registers + i)
          (number_lt (width c.registers) (height c.registers) j i l h) in
          unfold host_pixel in rw (column_is (width c.registers) j i l, row_is (width c.registers) j i l) at n

  -- n pixels that it feeds
  pub band_fed : c.framelength ≤ frame_most → c.ringlength ≤ ring_most → 3 ≤ c.ringlength → (n : ℕ) → k + n ≤ pixel_count Blt c.registers
      → ((x : ℕ) → x < n → host_word c.registers (k + x) < feed.before + feed.count)
      → BandFed c.framelength c.ringlength (picture_of c.registers) feed.before k n
  unfolding picture_of pixel_count host_word host_pixel
  band_fed small most least n within feeding = record {
    band = record { fit = fit_blt c.registers c.framelength f.pixel.judged; inside = within; small = small };
    ranged = ranged;
    held = λ x l.
        let rises = host_rises c.registers k x (judged_wide c.registers c.framelength f.pixel.judged) in
        record { begun = omega (arith, f.begun, rises); ended = omega (arith, feeding x l, f.most) };
  }

-- a part of those pixels
pub band_part : {framesize ringsize : ℕ} {p : Picture} {before k n : ℕ} → BandFed framesize ringsize p before k n → (a b : ℕ) → a + b ≤ n
    → BandFed framesize ringsize p before (k + a) b
band_part {k = k} h a b l = record {
  band = record { fit = h.band.fit; inside = omega (arith, h.band.inside); small = h.band.small };
  ranged = h.ranged;
  held = λ x t. let e : k + a + x ≡ k + (a + x) = omega arith in rw e (h.held (a + x) (omega arith));
}

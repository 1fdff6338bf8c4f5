-- Rows of a BLT with a solid pattern and a mono source: each pixel's new value is a blend of its old one, by its bit, and
-- up to eight pixels go by a window of bits that is read once.
use Rattle.std.specs.Prelude.{ℕ, ◌+◌, ◌-◌, ◌*◌, ◌/◌, ◌%◌, ◌^◌, ◌≤◌, ◌<◌, ◌≡◌, refl, Bool, true, false, List, ◌⊎◌, if◌then◌else◌, Some, None}
use Rattle.std.proofs.Common.{sym, ap, ◌∙◌, inl, inr, ⊎_elim, arith, add-mul, mul-le-mul_right}
use Rattle.model.specs.Bits.{bit}
use Rattle.model.proofs.Bits.{bit_cases}
use Rattle.model.specs.Choice.{◌=?◌}
use Rattle.model.proofs.Choice.{true_or_false}
use Rattle.model.specs.Formats.{Depth}
use Rattle.model.specs.Pixel.{read_pixel, store_pixel}
use Rattle.model.specs.Rectangle.{pixel_byte}
use Rattle.model.specs.Operands.{draw_operands}
use Rattle.model.specs.Expansion.{inverted, expand}
use Rattle.model.specs.BltPixel.{draw_at}
use Rattle.model.specs.declared.Blt.{Blt}
use Rattle.model.specs.declared.MonoSource.{MonoSource}
use Rattle.model.specs.declared.Pattern.TheVariants.{Solid}
use Rattle.model.specs.declared.Source.TheVariants.{Bits}
use Rattle.laws.specs.Whole.{blended, flip_of, keep_of}
use Rattle.laws.specs.Pixels.{Bytes, read_lt, read_same, store_below, store_above, store_bytes}
use Rattle.laws.specs.Windows.{low_bit, joined, joined_bit}
use Rattle.laws.specs.Order.{order_through}
use Rattle.laws.specs.Rows.{Row, row_pixels, row_within, solid_operands, solid_drawn, bit_at, bits_within, bits_read}
use Rattle.laws.specs.Lows.{low_column, column_at, low_byte, destination_span, place_byte, bytes_in}
use Rattle.laws.specs.Changes.{changed, changed_at, changed_row, step_le}
use Rattle.laws.specs.Plain.{drawn_with, blend_drawn, unless_drawn, flip_unless, keep_unless, picked, mark_rule}

-- ---- what a bit draws

-- the blend of a bit: set after inversion it draws the foreground, clear the background or, with transparency, nothing
abbrev pub flip_bit : (code color : ℕ) → MonoSource → (b : ℕ) → ℕ
flip_bit code color s b =
    if inverted s.inversion b =? 1 then flip_of code color s.foreground
    else flip_unless s.transparent code color s.background

abbrev pub keep_bit : (code color : ℕ) → MonoSource → (b : ℕ) → ℕ
keep_bit code color s b =
    if inverted s.inversion b =? 1 then keep_of code color s.foreground
    else keep_unless s.transparent code color s.background

-- the blends of a set and of a clear bit, for a BLT with a solid pattern and a mono source
pub record Inked (b : Blt) (s : MonoSource) (flip1 keep1 flip0 keep0 : ℕ) : Type 0 where
  pub bits : b.source ≡ Bits s
  pub color : ℕ
  pub solid : b.pattern ≡ Solid color
  pub set_flip : flip1 ≡ flip_bit b.code color s 1
  pub set_keep : keep1 ≡ keep_bit b.code color s 1
  pub clear_flip : flip0 ≡ flip_bit b.code color s 0
  pub clear_keep : keep0 ≡ keep_bit b.code color s 0

-- what it draws is that blend of what stands there
ink_drawn : (b : Blt) → Depth b.destination.depth → (color : ℕ) (s : MonoSource) (v : ℕ) {flip keep : ℕ}
    → flip ≡ flip_bit b.code color s v → keep ≡ keep_bit b.code color s v → (at : ℕ) (frame : List ℕ) → Bytes frame
    → changed b.destination.depth (blended flip keep) at frame
    ≡ draw_operands b.destination.depth b.code at (solid_operands color (expand s v)) frame
unfolding expand draw_operands
ink_drawn b deep color s v f k at frame p =
    ⊎_elim
    (λ e. rw e (sym (blend_drawn b deep color s.foreground (rw e at f) (rw e at k) at frame)))
    (λ e. rw e (sym (unless_drawn b deep s.transparent color s.background (rw e at f) (rw e at k) at frame p) ∙ clear s.transparent))
    (true_or_false (inverted s.inversion v =? 1))
  where
    clear : (nothing : Bool)
        → (if nothing then frame else drawn_with b color s.background at frame)
        ≡ draw_operands b.destination.depth b.code at (solid_operands color (if nothing then None else Some s.background)) frame
    clear true = refl
    clear false = refl

-- what is picked by a bit is what the bit gives
picked_bit : (f : ℕ → ℕ) (bits x : ℕ) {set clear : ℕ} → set ≡ f 1 → clear ≡ f 0 → picked bits x set clear ≡ f (bit bits (7 - x % 8))
picked_bit f bits x p q = ⊎_elim (λ e. rw e q) (λ e. rw e p) (bit_cases (bits / 2 ^ (7 - x % 8)))

-- ---- windows of bits

-- the bits of c pixels, the first in bit 7: those from bit number `shift` of byte q on, counted from the byte's top
pub record Window (frame : List ℕ) (q shift c bits : ℕ) : Type 0 where
  pub shows : (k : ℕ) → k < c → bit bits (7 - k) ≡ bit (read_pixel 1 frame (q + (shift + k) / 8)) (7 - (shift + k) % 8)

-- two bytes hold them, or one
pub window_read : (frame : List ℕ) → Bytes frame → (q shift c : ℕ) → shift < 8 → c ≤ 8 → {first second : ℕ} → first ≡ read_pixel 1 frame q
    → second ≡ read_pixel 1 frame (q + (shift + c - 1) / 8) → Window frame q shift c (joined first second shift % 256)
window_read frame p q shift c s h {first} {second} e f = record {
  shows = λ k l.
      let z : q ≡ q + 0 = omega arith in
      let first_is : first ≡ read_pixel 1 frame (q + 0) = e ∙ ap (read_pixel 1 frame) z in
      sym (low_bit (joined first second shift) (7 - k) (omega arith))
      ∙ rw (first_is, f)
      (joined_bit (λ y. read_pixel 1 frame (q + y)) shift c k s h l (omega (arith, read_lt 1 frame (q + (shift + c - 1) / 8) p)));
}

-- n pixels from byte `to` up overwrite none of the bytes that hold their bits, from bit number `shift` of byte q on
pub record Apart (negative : Bool) (depth n to q shift : ℕ) : Type 0 where
  pub up : negative ≡ false
  pub apart : (q + (shift + n - 1) / 8 < to) ⊎ (to + n * depth ≤ q)

-- ---- pixels

module _ {size : ℕ} {b : Blt} {i j n : ℕ} (r : Row size b i j n) {s : MonoSource} {flip1 keep1 flip0 keep0 : ℕ}
    (inks : Inked b s flip1 keep1 flip0 keep0) {from : ℕ} (begins : from ≡ pixel_byte s.bytes 0 j) where
  -- pixel m of a row, by its bit
  pub bit_drawn : {m : ℕ} → m < n → {at : ℕ} → at ≡ pixel_byte b.destination (i + m) j → (frame : List ℕ) → Bytes frame
      → changed b.destination.depth
      (mark_rule (read_pixel 1 frame (from + (s.skip + (i + m)) / 8)) flip1 keep1 flip0 keep0 (s.skip + (i + m))) at frame
      ≡ draw_at b (i + m) j frame
  bit_drawn {m} l {at} a frame p =
      let x = s.skip + (i + m) in
      let byte = read_pixel 1 frame (from + x / 8) in
      ink_drawn b r.fit.destination_fit.ranged.deep inks.color s (bit_at s.skip from (i + m) frame)
      (picked_bit (flip_bit b.code inks.color s) byte x inks.set_flip inks.clear_flip)
      (picked_bit (keep_bit b.code inks.color s) byte x inks.set_keep inks.clear_keep) at frame p
      ∙ solid_drawn b (i + m) j frame refl a inks.solid refl (bits_read r l refl inks.bits begins frame)

-- ---- rows that go by windows

-- n pixels of row j, from column i: they lie from byte `to` up, and their bits from bit number `shift` of byte q on
pub record Windowed (size : ℕ) (b : Blt) (i j n flip1 keep1 flip0 keep0 to q shift : ℕ) : Type 0 where
  pub row : Row size b i j n
  pub some : 0 < n
  pub source : MonoSource
  pub inked : Inked b source flip1 keep1 flip0 keep0
  pub begins : to ≡ pixel_byte b.destination i j
  pub byte_is : q ≡ pixel_byte source.bytes 0 j + (source.skip + i) / 8
  pub shift_is : shift ≡ (source.skip + i) % 8
  pub apart : Apart b.destination.columns.negative b.destination.depth n to q shift

module _ {size : ℕ} {b : Blt} {i j n flip1 keep1 flip0 keep0 to q shift : ℕ}
    (w : Windowed size b i j n flip1 keep1 flip0 keep0 to q shift) where
  low : to ≡ low_byte b.destination i j n
  low = w.begins ∙ ap (λ (v : Bool). pixel_byte b.destination (low_column v i n) j) (sym w.apart.up)

  -- where pixel k lies
  place : (k : ℕ) → k < n → to + k * b.destination.depth ≡ pixel_byte b.destination (i + k) j
  place k l =
      sym
      (ap (λ (v : Bool). pixel_byte b.destination (column_at v i n k) j) (sym w.apart.up)
      ∙ place_byte (destination_span w.row w.some) low k l)

  -- their bytes, and those of their bits
  pub windowed_in : to + n * b.destination.depth ≤ size
  windowed_in = bytes_in (destination_span w.row w.some) low

  pub windowed_reads : q + (shift + n - 1) / 8 < size
  windowed_reads =
      omega (arith, (bits_within w.row {m = n - 1} (omega (arith, w.some)) refl w.inked.bits).bit_in, w.some, w.byte_is, w.shift_is)

  -- c of them, from number m on, where whole windows come before
  pub windowed_part : (m : ℕ) {c : ℕ} → 0 < c → m + c ≤ n → m % 8 ≡ 0 → {now : ℕ} → now ≡ size
      → Windowed now b (i + m) j c flip1 keep1 flip0 keep0 (to + m * b.destination.depth) (q + m / 8) shift
  windowed_part m {c} z l e same =
      let depth = b.destination.depth in
      record {
        row = row_within w.row (omega arith) same;
        some = z;
        source = w.source;
        inked = w.inked;
        begins = place m (omega arith);
        byte_is = omega (arith, w.byte_is);
        shift_is = omega (arith, w.shift_is);
        apart = record {
          up = w.apart.up;
          apart = ⊎_elim
              (λ below. inl (omega arith))
              (λ above. inr (omega (arith, add-mul m c depth, mul-le-mul_right depth l)))
              w.apart.apart;
        };
      }

  module _ (most : n ≤ 8) {bits : ℕ} where
    -- one of them, by its bit of the window
    window_at : {k : ℕ} → k < n → (frame : List ℕ) → Bytes frame → Window frame q shift n bits
        → draw_at b (i + k) j frame ≡ changed_at b.destination.depth (mark_rule bits flip1 keep1 flip0 keep0) to k frame
    window_at {k} l frame p v =
        let s = w.source in
        let x = s.skip + (i + k) in
        let at : q + (shift + k) / 8 ≡ pixel_byte s.bytes 0 j + x / 8 = omega (arith, w.byte_is, w.shift_is) in
        let number : (shift + k) % 8 ≡ x % 8 = omega (arith, w.shift_is) in
        let low_k : k % 8 ≡ k = omega arith in
        let shown = rw (at, number) at (v.shows k l) in
        sym (rw (← shown) at (bit_drawn w.row w.inked refl l (place k l) frame p)) ∙ rw low_k

    -- it leaves the bytes of bits as they were
    window_keeps : {k : ℕ} → k < n → (frame : List ℕ) (value : ℕ) → Window frame q shift n bits
        → Window (store_pixel b.destination.depth frame (to + k * b.destination.depth) value) q shift n bits
    window_keeps {k} l frame value v =
        let depth = b.destination.depth in
        record {
          shows = λ y h.
              v.shows y h
              ∙ ap (λ (byte : ℕ). bit byte (7 - (shift + y) % 8))
              (sym
              (read_same 1 _ frame (q + (shift + y) / 8) (q + (shift + y) / 8)
              (λ e t.
              ⊎_elim
              (λ below. store_below depth frame _ value (q + (shift + y) / 8 + e) (omega arith))
              (λ above. store_above depth frame _ value (q + (shift + y) / 8 + e) (omega (arith, step_le depth k n l)))
              w.apart.apart)));
        }

    -- all of them, by the window as it was before the first
    pub window_drawn : (frame : List ℕ) → Bytes frame → Window frame q shift n bits
        → changed_row b.destination.depth (mark_rule bits flip1 keep1 flip0 keep0) n to frame ≡ row_pixels b i j n frame
    window_drawn frame p v =
        sym
        (order_through (λ m. draw_at b m j) (changed_at b.destination.depth (mark_rule bits flip1 keep1 flip0 keep0) to) (λ frame. frame)
        (λ frame. Bytes frame × Window frame q shift n bits) n i 0
        (λ k h frame u.
        let z : 0 + k ≡ k = omega arith in
        rw z (window_at h frame u.0 u.1, (store_bytes b.destination.depth frame _ _ u.0, window_keeps h frame _ u.1)))
        frame (p, v))

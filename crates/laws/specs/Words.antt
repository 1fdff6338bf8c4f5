-- Rows by the word: the raster operation goes bit by bit, so four bytes are combined at once, whatever the depth of the pixels in
-- them, with a colour that comes again in each.
use Prim.Native.Nat.{ℕ, zero, suc, ◌+◌, ◌*◌, ◌/◌, ◌%◌, ◌^◌, ◌<◌}
use Rattle.std.specs.Prelude.{◌≡◌, List, if◌then◌else◌}
use Rattle.std.proofs.Math.Path.{refl, sym}
use Rattle.std.proofs.Common.{ap, ◌∙◌, zero-mul, suc-mul, mul-suc, mod-lt, get_or-set_other}
use native.Mathlib.Omega.{arith}
use Rattle.std.proofs.Math.Nat.{mod-one}
use Rattle.std.proofs.Math.ListN.{get_or, set}
use Rattle.model.specs.Choice.{◌=?◌}
use Rattle.model.proofs.Bits.{low_split}
use Rattle.model.specs.Formats.{Depth}
use Rattle.model.specs.Pixel.{read_pixel, store_pixel}
use Rattle.model.specs.Raster.{raster, chosen_bit}
use Rattle.model.proofs.Raster.{raster_odd, raster_half, raster_unique}
use Rattle.laws.specs.Pixels.{Bytes, read_same, store_bytes, raster_narrow, depth_least}
use Rattle.laws.specs.Order.{in_order, order_zero, order_suc, order_last, order_add, order_same, order_through}
use Rattle.laws.specs.Numbers.{column_is}
use Rattle.laws.specs.Changes.{changed, changed_at, changed_row}

-- what the pixel at place x becomes, whose source is the one at place x of `first`, from byte `from` up
abbrev pub mix_rule : (depth code color : ℕ) → List ℕ → (from : ℕ) → ℕ → ℕ → ℕ
mix_rule depth code color first from x old = raster (8 * depth) code color (read_pixel depth first (from + x * depth)) old

-- ---- the raster operation by bytes

-- m bits of the result are of the operands' m low bits
module _ (code : ℕ) where
  abbrev of_low : ℕ → ℕ → ℕ → ℕ → ℕ
  of_low m p s d = raster m code (p % 2 ^ m) (s % 2 ^ m) (d % 2 ^ m)

  low_none : (p s d : ℕ) → of_low zero p s d ≡ 0
  unfolding raster
  low_none p s d = refl

  low_odd : (m p s d : ℕ) → of_low (suc m) p s d % 2 ≡ chosen_bit code (p % 2) (s % 2) (d % 2)
  low_odd m p s d = raster_odd m code _ _ _ ∙ rw (low p, low s, low d)
    where
      low : (x : ℕ) → x % 2 ^ suc m % 2 ≡ x % 2
      low x = omega (arith, low_split m x)

  low_half : (m p s d : ℕ) → of_low (suc m) p s d / 2 ≡ of_low m (p / 2) (s / 2) (d / 2)
  low_half m p s d = raster_half m code _ _ _ ∙ rw (high p, high s, high d)
    where
      high : (x : ℕ) → x % 2 ^ suc m / 2 ≡ x / 2 % 2 ^ m
      high x = omega (arith, low_split m x)

  pub raster_of_low : (m p s d : ℕ) → raster m code p s d ≡ raster m code (p % 2 ^ m) (s % 2 ^ m) (d % 2 ^ m)
  raster_of_low = raster_unique code of_low low_none low_odd low_half

-- its lowest byte, and the bytes above it
raster_byte : (n code p s d : ℕ) → raster (8 * suc n) code p s d % 256 ≡ raster 8 code p s d
raster_byte n code p s d = rw (mul-suc 8 n) (raster_narrow (8 * n) 8 code p s d)

raster_above : (n code p s d : ℕ) → raster (8 * suc n) code p s d / 256 ≡ raster (8 * n) code (p / 256) (s / 256) (d / 256)
raster_above n code p s d =
    let e : 8 * suc n ≡ suc (suc (suc (suc (suc (suc (suc (suc (8 * n)))))))) = omega arith in
    rw e (eight _ ∙ rw (eight p, eight s, eight d) (simp raster_half))
  where
    eight : (x : ℕ) → x / 256 ≡ x / 2 / 2 / 2 / 2 / 2 / 2 / 2 / 2
    eight x = omega arith

lowest : (code p s x d y : ℕ) → raster 8 code p (s + 256 * x) (d + 256 * y) ≡ raster 8 code p s d
lowest code p s x d y =
    let es : (s + 256 * x) % 256 ≡ s % 256 = omega arith in
    let ed : (d + 256 * y) % 256 ≡ d % 256 = omega arith in
    raster_of_low code 8 p (s + 256 * x) (d + 256 * y) ∙ rw (es, ed) (sym (raster_of_low code 8 p s d))

-- a number from its byte x on
unfoldable shifted : (x p : ℕ) → ℕ
shifted zero p = p
shifted (suc x) p = shifted x (p / 256)

-- ---- a row by bytes

-- n pixels of c steps each are n * c steps
order_group : (draw : ℕ → List ℕ → List ℕ) (c n : ℕ) (frame : List ℕ) → in_order (λ m. in_order draw (m * c) c) 0 n frame ≡ in_order draw 0 (n * c) frame
order_group draw c zero frame = order_zero _ 0 frame ∙ rw (zero-mul c) (sym (order_zero draw 0 frame))
order_group draw c (suc n) frame =
    let z : 0 + n ≡ n = omega arith in
    let y : 0 + n * c ≡ n * c = omega arith in
    rw (order_last (λ m. in_order draw (m * c) c) 0 n frame, z, order_group draw c n frame, suc-mul n c)
    (rw y at (order_add draw (n * c) 0 c frame))

module _ (code : ℕ) (first : List ℕ) (source : Bytes first) where
  -- byte x of a pixel is combined with byte x of its source and of the colour
  abbrev byte_of : (p a at : ℕ) → ℕ → List ℕ → List ℕ
  byte_of p a at x = changed 1 (raster 8 code (shifted x p) (read_pixel 1 first (a + x))) (at + x)

  begun : (p a at : ℕ) (frame : List ℕ) → byte_of p a at 0 frame ≡ set frame at (raster 8 code p (get_or first a 0) (get_or frame at 0) % 256)
  unfolding store_pixel read_pixel shifted
  begun p a at frame =
      let y : a + 0 ≡ a = omega arith in
      let z : at + 0 ≡ at = omega arith in
      let s : get_or first a 0 + 256 * 0 ≡ get_or first a 0 = omega arith in
      let o : get_or frame at 0 + 256 * 0 ≡ get_or frame at 0 = omega arith in
      rw (y, z, s, o)

  further : (p a at m : ℕ) (next : List ℕ) → byte_of (p / 256) (a + 1) (at + 1) (0 + m) next ≡ byte_of p a at (0 + 1 + m) next
  unfolding shifted
  further p a at m next =
      let y : a + 1 + (0 + m) ≡ a + suc m = omega arith in
      let z : at + 1 + (0 + m) ≡ at + suc m = omega arith in
      let k : 0 + m ≡ m = omega arith in
      let s : 0 + 1 + m ≡ suc m = omega arith in
      rw (y, z, k, s)

  pixel_bytes : (n p a at : ℕ) (frame : List ℕ) → Bytes frame
      → changed n (raster (8 * n) code p (read_pixel n first a)) at frame ≡ in_order (byte_of p a at) 0 n frame
  unfolding store_pixel read_pixel
  pixel_bytes zero p a at frame bytes = sym (order_zero (byte_of p a at) 0 frame)
  pixel_bytes (suc n) p a at frame bytes =
      let s = source a in
      let o = bytes at in
      let low = get_or first a 0 in
      let rest = read_pixel n first (a + 1) in
      let old = get_or frame at 0 in
      let above = read_pixel n frame (at + 1) in
      let v = raster 8 code p low old in
      let next = set frame at (v % 256) in
      let one : raster (8 * suc n) code p (low + 256 * rest) (old + 256 * above) % 256 ≡ v % 256 =
      omega (arith, raster_byte n code p (low + 256 * rest) (old + 256 * above), lowest code p low rest old above) in
      let es : (low + 256 * rest) / 256 ≡ rest = omega arith in
      let eo : (old + 256 * above) / 256 ≡ above = omega arith in
      let two : raster (8 * suc n) code p (low + 256 * rest) (old + 256 * above) / 256 ≡ raster (8 * n) code (p / 256) rest above =
      raster_above n code p (low + 256 * rest) (old + 256 * above) ∙ rw (es, eo) in
      let same : above ≡ read_pixel n next (at + 1) =
      read_same n frame next (at + 1) (at + 1) (λ j l. sym (get_or-set_other frame at (at + 1 + j) (v % 256) 0 (λ e. omega arith))) in
      rw (one, two, same, order_suc (byte_of p a at) 0 n frame, begun p a at frame)
      (pixel_bytes n (p / 256) (a + 1) (at + 1) next (store_bytes 1 frame at v bytes)
      ∙ order_same (byte_of (p / 256) (a + 1) (at + 1)) (byte_of p a at) n 0 (0 + 1) (λ m l next. further p a at m next) next)

  -- the same over a row
  abbrev row_byte : (depth p from to : ℕ) → ℕ → List ℕ → List ℕ
  row_byte depth p from to x = changed 1 (raster 8 code (shifted (x % depth) p) (read_pixel 1 first (from + x))) (to + x)

  row_bytes_lem : {depth : ℕ} → 0 < depth → (p from to n : ℕ) (frame : List ℕ) → Bytes frame
      → changed_row depth (mix_rule depth code p first from) n to frame ≡ in_order (row_byte depth p from to) 0 (n * depth) frame
  row_bytes_lem {depth} deep p from to n frame bytes =
      order_through _ (λ m. in_order (row_byte depth p from to) (m * depth) depth) (λ frame. frame) Bytes n 0 0
      (λ m l frame bytes. let e = pixel_at m frame bytes in (e, rw (← e) (store_bytes depth frame _ _ bytes)))
      frame bytes
      ∙ order_group (row_byte depth p from to) depth n frame
    where
      pixel_at : (m : ℕ) (frame : List ℕ) → Bytes frame
          → changed_at depth (mix_rule depth code p first from) to (0 + m) frame ≡ in_order (row_byte depth p from to) ((0 + m) * depth) depth frame
      pixel_at m frame bytes =
          let k = (0 + m) * depth in
          pixel_bytes depth p (from + k) (to + k) frame bytes
          ∙ order_same (byte_of p (from + k) (to + k)) (row_byte depth p from to) depth 0 k
          (λ x l frame.
          let y : from + k + (0 + x) ≡ from + (k + x) = omega arith in
          let z : to + k + (0 + x) ≡ to + (k + x) = omega arith in
          let s : 0 + x ≡ x = omega arith in
          rw (y, z, s, column_is depth (0 + m) x l))
          frame

-- ---- a row by words

-- a colour, as often as it goes into four bytes
abbrev pub repeated : (depth color : ℕ) → ℕ
repeated depth color = if depth =? 1 then color % 256 * 0x1010101 else if depth =? 2 then color % 65536 * 0x10001 else color

-- its low bytes are the colour's
repeated_low : {depth : ℕ} → Depth depth → (color : ℕ) → repeated depth color % 2 ^ (8 * depth) ≡ color % 2 ^ (8 * depth)
repeated_low Depth.one color = omega arith
repeated_low Depth.two color = omega arith
repeated_low Depth.four color = refl

pub raster_repeated : {depth : ℕ} → Depth depth → (code color s d : ℕ)
    → raster (8 * depth) code (repeated depth color) s d ≡ raster (8 * depth) code color s d
raster_repeated {depth} deep code color s d =
    raster_of_low code (8 * depth) (repeated depth color) s d ∙ rw (repeated_low deep color) (sym (raster_of_low code (8 * depth) color s d))

by_four : (P : ℕ → Type 0) → P 0 → P 1 → P 2 → P 3 → (x : ℕ) → x < 4 → P x
by_four P a b c d zero l = a
by_four P a b c d (suc zero) l = b
by_four P a b c d (suc (suc zero)) l = c
by_four P a b c d (suc (suc (suc zero))) l = d
by_four P a b c d (suc (suc (suc (suc x)))) l = absurd (omega arith)

-- byte x of a word is byte x of its pixel
repeated_byte : {depth : ℕ} → Depth depth → (color x : ℕ)
    → shifted (x % 4) (repeated depth color) % 256 ≡ shifted (x % depth) (repeated depth color) % 256
unfolding shifted
repeated_byte Depth.one color x = rw (mod-one x) (go (color % 256) (mod-lt color (omega arith)))
  where
    go : (c : ℕ) → c < 256 → shifted (x % 4) (c * 0x1010101) % 256 ≡ shifted 0 (c * 0x1010101) % 256
    go c l =
        let one : c * 0x1010101 / 256 ≡ c * 0x10101 = omega arith in
        let two : c * 0x10101 / 256 ≡ c * 0x101 = omega arith in
        let three : c * 0x101 / 256 ≡ c = omega arith in
        by_four (λ y. shifted y (c * 0x1010101) % 256 ≡ c * 0x1010101 % 256) refl (rw one (omega arith)) (rw (one, two) (omega arith))
        (rw (one, two, three) (omega arith)) (x % 4) (mod-lt x (omega arith))
repeated_byte Depth.two color x =
    let e : x % 2 ≡ x % 4 % 2 = omega arith in
    rw e (go (color % 65536) (mod-lt color (omega arith)))
  where
    go : (c : ℕ) → c < 65536 → shifted (x % 4) (c * 0x10001) % 256 ≡ shifted (x % 4 % 2) (c * 0x10001) % 256
    go c l =
        let one : c * 0x10001 / 256 ≡ c / 256 + 256 * c = omega arith in
        let two : (c / 256 + 256 * c) / 256 ≡ c = omega arith in
        by_four (λ y. shifted y (c * 0x10001) % 256 ≡ shifted (y % 2) (c * 0x10001) % 256) refl refl (rw (one, two) (omega arith))
        (rw (one, two) (omega arith)) (x % 4) (mod-lt x (omega arith))
repeated_byte Depth.four color x = refl

-- four words are c pixels
pub word_row : {depth : ℕ} → Depth depth → (code color c : ℕ) → c * depth ≡ 16 → (from to : ℕ) (frame : List ℕ) → Bytes frame
    → changed_row 4 (mix_rule 4 code (repeated depth color) frame from) 4 to frame
    ≡ changed_row depth (mix_rule depth code (repeated depth color) frame from) c to frame
word_row {depth} deep code color c e from to frame bytes =
    let p = repeated depth color in
    row_bytes_lem code frame bytes {depth = 4} (omega arith) p from to 4 frame bytes
    ∙ order_same (row_byte code frame bytes 4 p from to) (row_byte code frame bytes depth p from to) 16 0 0
    (λ x l next.
    ap (store_pixel 1 next (to + (0 + x)))
    (raster_of_low code 8 (shifted ((0 + x) % 4) p) _ _
    ∙ rw (repeated_byte deep color (0 + x)) (sym (raster_of_low code 8 (shifted ((0 + x) % depth) p) _ _))))
    frame
    ∙ rw (← e) (sym (row_bytes_lem code frame bytes (depth_least deep) p from to c frame bytes))

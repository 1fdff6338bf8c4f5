-- Pixels of a BLT with host source, by what its registers describe: one of them, a row, and a row that is copied out of the ring.
use Rattle.std.specs.Prelude.{ℕ, zero, suc, ◌+◌, ◌-◌, ◌*◌, ◌/◌, ◌%◌, ◌^◌, ◌≤◌, ◌<◌, ◌≡◌, refl, Bool, true, false, List, [], ◌∷◌, length, get_or, if◌then◌else◌, Option, Some, None}
use Rattle.std.proofs.Common.{sym, ap, ◌∙◌, arith, mod-lt, mod-eq_of_lt, suc-mul, add-mul, mul_assoc, mul_comm, shr-shr}
use Rattle.std.proofs.Math.Nat.{mod-add-mod, zero-div}
use Rattle.std.proofs.lemmas.Nat.{mod-pow-add}
use Rattle.model.specs.Bits.{bit}
use Rattle.model.specs.Ring.{word_at}
use Rattle.model.specs.Registers.{format_code}
use Rattle.model.specs.Formats.{Depth, format_of, depth_of}
use Rattle.model.specs.Pixel.{read_pixel, store_pixel}
use Rattle.model.specs.Rectangle.{pixel_byte, column_of, row_of}
use Rattle.model.specs.Expansion.{bit_number, expand}
use Rattle.model.specs.Operands.{draw_operands}
use Rattle.model.specs.BltPixel.{rectangle_of, mono_mode, mono_source_of, color_pattern_of, blt_of, with_source, blt_at, draw_from}
use Rattle.model.specs.Host.{bytes_from, host_of, host_byte, host_pixel, host_word, host_value, draw_host}
use Rattle.model.specs.declared.Blt.{Blt}
use Rattle.model.specs.declared.TileOrigin.{TileOrigin}
use Rattle.model.specs.declared.Host.{Host}
use Rattle.model.specs.declared.MonoSource.{MonoSource}
use Rattle.laws.specs.Numbers.{column_add, row_add}
use Rattle.laws.specs.Order.{in_order, order_same, order_last}
use Rattle.laws.specs.Pixels.{Bytes, store_low, depth_least}
use Rattle.laws.specs.Rows.{length_operands, Row}
use Rattle.laws.specs.Lows.{low_byte, destination_span, bytes_in}
use Rattle.laws.specs.Changes.{step_le}
use Rattle.laws.specs.Moves.{Laid, laid_one, laid_none, laid_up, laid_pixel, is_full, full_values, raster_copy, drawn_byte}

-- ---- one pixel

-- word number n of the BLT's data words, where those of the data command at `read` come after `before` others
abbrev pub stream_word : List ℕ → (read before n : ℕ) → ℕ
stream_word ring read before n = word_at ring read (2 + (n - before))

-- a BLT, how its pixels lie in its data words, whether they are bits, and what becomes of these
module _ (b : Blt) (h : Host) (mono : Bool) (m : MonoSource) where
  -- what its word gives the pixel at column i of row j
  abbrev pub value_in : (i j word : ℕ) → Option ℕ
  value_in i j word =
      if mono then expand m (bit (bytes_from 1 word (host_byte h i j % 4)) (bit_number m.skip i))
      else Some (bytes_from b.destination.depth word (host_byte h i j % 4))

-- the pixel there, of a BLT that has this colour pattern, where `words` gives the data words by their numbers
abbrev pub host_at : Option TileOrigin → (table : List ℕ) → Blt → Host → Bool → MonoSource → (ℕ → ℕ) → (i j : ℕ) → List ℕ → List ℕ
host_at p table b h mono m words i j =
    draw_from (blt_at p table b i j) i j (value_in b h mono m i j (words (host_byte h i j / 4)))

-- n pixels of row j from column i, and n pixels from number k
abbrev pub host_row : Option TileOrigin → (table : List ℕ) → Blt → Host → Bool → MonoSource → (ℕ → ℕ) → (i j n : ℕ) → List ℕ → List ℕ
host_row p table b h mono m words i j n = in_order (λ x. host_at p table b h mono m words x j) i n

abbrev pub host_number : Option TileOrigin → (table : List ℕ) → Blt → Host → Bool → MonoSource → (ℕ → ℕ) → ℕ → List ℕ → List ℕ
host_number p table b h mono m words k = host_at p table b h mono m words (column_of b.destination k) (row_of b.destination k)

abbrev pub host_pixels : Option TileOrigin → (table : List ℕ) → Blt → Host → Bool → MonoSource → (ℕ → ℕ) → (k n : ℕ) → List ℕ → List ℕ
host_pixels p table b h mono m words = in_order (host_number p table b h mono m words)

pub length_from : (b : Blt) (i j : ℕ) (v : Option ℕ) (frame : List ℕ) → length (draw_from b i j v frame) ≡ length frame
unfolding draw_from
length_from b i j v frame = length_operands _ _ _ _ frame

-- a row is a part of the whole
pub host_row_lem : (p : Option TileOrigin) (table : List ℕ) (b : Blt) (h : Host) (mono : Bool) (m : MonoSource) (words : ℕ → ℕ) (k n : ℕ) (frame : List ℕ)
    → column_of b.destination k + n ≤ b.destination.columns.count
    → host_row p table b h mono m words (column_of b.destination k) (row_of b.destination k) n frame
    ≡ host_pixels p table b h mono m words k n frame
host_row_lem p table b h mono m words k n frame l =
    order_same _ (host_number p table b h mono m words) n _ k
    (λ x q frame.
    let w = b.destination.columns.count in
    let s : column_of b.destination k + x < w = omega arith in
    rw (column_add w k x s, row_add w k x s))
    frame

-- the registers' own pixels
pub host_pixels_lem : (registers table : List ℕ) (words : ℕ → ℕ) (k n : ℕ) (frame : List ℕ)
    → host_pixels (color_pattern_of registers) table (blt_of registers) (host_of registers) (mono_mode registers) (mono_source_of registers) words k n frame
    ≡ in_order (λ k. draw_host registers table k (words (host_word registers k))) k n frame
unfolding draw_host host_word host_pixel host_value blt_of rectangle_of mono_source_of
host_pixels_lem registers table words k n =
    order_same _ (λ k. draw_host registers table k (words (host_word registers k))) n k k (λ x l frame. refl)

-- ---- the bytes of words

-- four for each word, the lowest first
unfoldable pub word_bytes : List ℕ → List ℕ
word_bytes [] = []
word_bytes (w ∷ words) = w % 256 ∷ w / 2 ^ 8 % 256 ∷ w / 2 ^ 16 % 256 ∷ w / 2 ^ 24 % 256 ∷ word_bytes words

pub length_bytes : (words : List ℕ) → length (word_bytes words) ≡ 4 * length words
unfolding word_bytes
length_bytes [] = refl
length_bytes (w ∷ words) = let h = length_bytes words in omega arith

pub word_byte : (words : List ℕ) (q r : ℕ) → r < 4 → get_or (word_bytes words) (4 * q + r) 0 ≡ get_or words q 0 / 2 ^ (8 * r) % 256
unfolding word_bytes
word_byte [] q r l = let z : 0 / 2 ^ (8 * r) ≡ 0 = zero-div (2 ^ (8 * r)) in sym (rw z)
word_byte (w ∷ words) zero zero l = let z : w / 1 ≡ w = omega arith in rw z
word_byte (w ∷ words) zero (suc zero) l = refl
word_byte (w ∷ words) zero (suc (suc zero)) l = refl
word_byte (w ∷ words) zero (suc (suc (suc zero))) l = refl
word_byte (w ∷ words) zero (suc (suc (suc (suc r)))) l = absurd (omega arith)
word_byte (w ∷ words) (suc q) r l =
    let e : 4 * suc q + r ≡ suc (suc (suc (suc (4 * q + r)))) = omega arith in
    rw e (word_byte words q r l)

pub word_bytes_lem : (words : List ℕ) → Bytes (word_bytes words)
word_bytes_lem words i =
    let e : 4 * (i / 4) + i % 4 ≡ i = omega arith in
    rw (← e, word_byte words (i / 4) (i % 4) (omega arith)) (mod-lt _ (omega arith))

-- a pixel that lies in one word
pub read_word : (n : ℕ) (words : List ℕ) (q r : ℕ) → r + n ≤ 4
    → read_pixel n (word_bytes words) (4 * q + r) ≡ get_or words q 0 / 2 ^ (8 * r) % 2 ^ (8 * n)
unfolding read_pixel
read_word zero words q r l = let z : get_or words q 0 / 2 ^ (8 * r) % 1 ≡ 0 = omega arith in sym z
read_word (suc n) words q r l =
    let w = get_or words q 0 in
    let d : 4 * q + r + 1 ≡ 4 * q + (r + 1) = omega arith in
    let e : 8 * (r + 1) ≡ 8 * r + 8 = omega arith in
    let f : 8 * suc n ≡ 8 * n + 8 = omega arith in
    rw (word_byte words q r (omega arith), d, read_word n words q (r + 1) (omega arith), e, ← shr-shr w (8 * r) 8, f, mod-pow-add (w / 2 ^ (8 * r)) (8 * n) 8)
    (omega arith)

-- ---- rows that are laid into frame memory

-- n pixels that are stored one beside the other as another list holds them
pub laid_all : (depth from to n i : ℕ) (first frame : List ℕ) (draw : ℕ → List ℕ → List ℕ) → Bytes first → to + n * depth ≤ length frame
    → ((m : ℕ) → m < n → (next : List ℕ) → draw (i + m) next ≡ store_pixel depth next (to + m * depth) (read_pixel depth first (from + m * depth)))
    → Laid first from to 0 (n * depth) frame (in_order draw i n frame)
unfolding in_order
laid_all depth from to zero i first frame draw bytes room drawn = laid_none (omega arith)
laid_all depth from to (suc n) i first frame draw bytes room drawn =
    let s = suc-mul n depth in
    let before = laid_all depth from to n i first frame draw bytes (omega arith) (λ m l. drawn m (omega arith)) in
    rw (order_last draw i n frame, drawn n (omega arith) (in_order draw i n frame))
    (laid_up (omega arith) (omega arith) before (laid_pixel bytes depth s refl refl (omega (arith, before.same))))

-- the pixels of a colour source lie side by side in a row
pub record Colored (h : Host) (depth : ℕ) : Type 0 where
  pub no_skip : h.skip ≡ 0
  pub bits_are : h.bits ≡ 8 * depth

pub colored_host : (registers : List ℕ) → mono_mode registers ≡ false → Colored (host_of registers) (depth_of (format_of (format_code registers)))
unfolding host_of
colored_host registers e = record { no_skip = rw e; bits_are = rw e }

eighth : (n depth : ℕ) → n * (8 * depth) / 8 ≡ n * depth
eighth n depth =
    let e : n * (8 * depth) ≡ 8 * (n * depth) = sym (mul_assoc n 8 depth) ∙ ap (λ (x : ℕ). x * depth) (mul_comm n 8) ∙ mul_assoc 8 n depth in
    omega arith

color_byte_lem : {h : Host} {depth : ℕ} → Colored h depth → (i j x : ℕ) → host_byte h (i + x) j ≡ host_byte h i j + x * depth
unfolding host_byte
color_byte_lem {h} {depth} c i j x =
    let a = eighth i depth in
    let b = eighth (i + x) depth in
    let d = add-mul i x depth in
    let y : 0 + i * (8 * depth) ≡ i * (8 * depth) = omega arith in
    let z : 0 + (i + x) * (8 * depth) ≡ (i + x) * (8 * depth) = omega arith in
    rw (c.no_skip, c.bits_are, y, z, a, b) (omega arith)

-- a word further on in the ring, where that does not go round
word_on : (ring : List ℕ) (read a x place : ℕ) → place ≡ (read + a) % length ring → place + x < length ring
    → word_at ring read (a + x) ≡ get_or ring (place + x) 0
unfolding word_at
word_on ring read a x place p l =
    let e : read + (a + x) ≡ read + a + x = omega arith in
    ap (λ (y : ℕ). get_or ring y 0)
    (rw e (sym (mod-add-mod (read + a) (length ring) x) ∙ ap (λ (y : ℕ). (y + x) % length ring) (sym p) ∙ mod-eq_of_lt l))

-- the value of a pixel that lies in one word
bytes_from_lem : {depth : ℕ} → Depth depth → (word n : ℕ) → bytes_from depth word n ≡ word / 2 ^ (8 * n) % 2 ^ (8 * depth)
bytes_from_lem {depth} deep word n =
    let e : 8 * n + 8 * depth - 1 + 1 - 8 * n ≡ 8 * depth = omega (arith, depth_least deep) in
    rw e

-- a row under raster operation CCh, with X positive and a pattern that gives every pixel a value, whose words do not run across the
-- ring's end: its bytes are those of the words, from byte `from` of the ring on
module _ {size : ℕ} {b : Blt} {i j n : ℕ} (r : Row size b i j n) (z : 0 < n) (up : b.destination.columns.negative ≡ false)
    (code : b.code ≡ 0xCC) (full : is_full b.pattern ≡ true) {h : Host} (colored : Colored h b.destination.depth)
    (inside : (x : ℕ) → x < n → host_byte h (i + x) j % 4 + b.destination.depth ≤ 4)
    (ring : List ℕ) (read : ℕ) {before : ℕ} (begun : before ≤ host_byte h i j / 4)
    {to from place : ℕ} (t : to ≡ low_byte b.destination i j n)
    (p : place ≡ (read + (2 + (host_byte h i j / 4 - before))) % length ring) (f : from ≡ 4 * place + host_byte h i j % 4)
    (fits : from + n * b.destination.depth ≤ 4 * length ring) where
  abbrev depth : ℕ
  depth = b.destination.depth

  deep : Depth depth
  deep = r.fit.destination_fit.ranged.deep

  -- pixel number x, and the bytes that it is read from
  value_in_lem : (x : ℕ) → x < n
      → bytes_from depth (stream_word ring read before (host_byte h (i + x) j / 4)) (host_byte h (i + x) j % 4)
      ≡ read_pixel depth (word_bytes ring) (from + x * depth)
  value_in_lem x l =
      let at = host_byte h i j in
      let on = color_byte_lem colored i j x in
      let q = (at + x * depth) / 4 - at / 4 in
      let w = inside x l in
      let s = step_le depth x n l in
      let d = depth_least deep in
      let k : place + q < length ring = omega arith in
      let a : 2 + ((at + x * depth) / 4 - before) ≡ 2 + (at / 4 - before) + q = omega arith in
      let e : from + x * depth ≡ 4 * (place + q) + (at + x * depth) % 4 = omega arith in
      let v : (at + x * depth) % 4 + depth ≤ 4 = rw on at w in
      rw (on, a, word_on ring read (2 + (at / 4 - before)) q place p k, bytes_from_lem deep, e) (sym (read_word depth ring (place + q) ((at + x * depth) % 4) v))

  pixel_in : (table : List ℕ) (m : MonoSource) (x : ℕ) → x < n → (next : List ℕ)
      → host_at None table b h false m (stream_word ring read before) (i + x) j next
      ≡ store_pixel depth next (to + x * depth) (read_pixel depth (word_bytes ring) (from + x * depth))
  unfolding draw_from blt_at with_source draw_operands
  pixel_in table m x l next =
      let byte : pixel_byte b.destination (i + x) j ≡ to + x * depth = drawn_byte (destination_span r z) t x l ∙ rw up in
      rw ((full_values b.pattern full b.destination (i + x) j _).1, byte, value_in_lem x l)
      (ap (store_pixel depth next _) (raster_copy (8 * depth) b.code _ _ _ code) ∙ store_low depth next _ _)

  pub host_copied : (table : List ℕ) (m : MonoSource) (frame : List ℕ) → length frame ≡ size → {next : List ℕ}
      → Laid (word_bytes ring) from to 0 (n * depth) frame next
      → next ≡ host_row None table b h false m (stream_word ring read before) i j n frame
  host_copied table m frame s laid =
      laid_one laid
      (laid_all depth from to n i (word_bytes ring) frame _ (word_bytes_lem ring) (omega (arith, bytes_in (destination_span r z) t)) (pixel_in table m))

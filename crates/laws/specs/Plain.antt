-- Rows of a BLT for which one value serves as the source of every pixel: each pixel's new value is a rule of its old one.
use Rattle.std.specs.Prelude.{ℕ, ◌+◌, ◌-◌, ◌*◌, ◌/◌, ◌%◌, ◌^◌, ◌≤◌, ◌<◌, ◌≡◌, refl, Bool, true, false, not, ◌||◌, List, ◌⊎◌, if◌then◌else◌, Some, None}
use Rattle.std.proofs.Common.{sym, ◌∙◌, inl, inr, ⊎_elim, arith, mod-eq_of_lt, eqb-true}
use Rattle.std.proofs.Math.Path.{ap}
use Rattle.std.proofs.Math.Nat.{mod-mod}
use Rattle.model.specs.Bits.{bit}
use Rattle.model.proofs.Bits.{bit_cases}
use Rattle.model.specs.Choice.{◌=?◌}
use Rattle.model.proofs.Choice.{not_both, either}
use Rattle.model.specs.Formats.{Depth}
use Rattle.model.specs.Pixel.{read_pixel, store_pixel}
use Rattle.model.specs.Raster.{raster}
use Rattle.model.proofs.Raster.{raster_pattern, raster_pattern_xor}
use Rattle.model.specs.Rectangle.{pixel_byte}
use Rattle.model.specs.Pattern.{pattern_bit, pattern_index}
use Rattle.model.specs.Operands.{draw_operands, values}
use Rattle.model.specs.Expansion.{source_bit, inverted, expand}
use Rattle.model.specs.BltPixel.{source_value, mono_bit, with_pattern, with_source, operands_at, draw_at}
use Rattle.model.specs.declared.Blt.{Blt}
use Rattle.model.specs.declared.MonoPattern.{MonoPattern}
use Rattle.model.specs.declared.Pattern.TheVariants.{Solid, Mono}
use Rattle.model.specs.declared.Source.{Source}
use Rattle.model.specs.declared.Source.TheVariants.{Unselected, Frame, Bits}
use Rattle.laws.specs.Whole.{blended, flip_of, keep_of, raster_blended, blended_low, blended_all}
use Rattle.laws.specs.Pixels.{Bytes, store_low, store_raster, read_lt, store_read}
use Rattle.laws.specs.Windows.{low_bit}
use Rattle.laws.specs.Patterns.{Turned}
use Rattle.laws.specs.Lows.{low_column, column_at}
use Rattle.laws.specs.Order.{order_same}
use Rattle.laws.specs.Changes.{changed, changed_at, changed_row, Changes}
use Rattle.laws.specs.Eights.{Round}

-- ---- the source is not needed

-- a value that gives every pixel what its own source value gives
pub record Plain (code : ℕ) (s : Source) (value : ℕ) : Type 0 where
  pub serves : (i j : ℕ) (frame : List ℕ)
      → (v : ℕ) × (source_value s i j frame ≡ Some v) × ((m p d : ℕ) → raster m code p v d ≡ raster m code p value d)

-- there is one
abbrev pub Served : ℕ → Source → Type 0
Served code s = (value : ℕ) × Plain code s value

-- a source that gives every pixel a value
abbrev pub is_opaque : Source → Bool
is_opaque (Unselected color) = true
is_opaque (Frame r) = true
is_opaque (Bits m) = not m.transparent

opaque_value : (s : Source) (i j : ℕ) (frame : List ℕ) → is_opaque s ≡ true → (v : ℕ) × (source_value s i j frame ≡ Some v)
unfolding source_value expand
opaque_value (Unselected color) i j frame e = (_, refl)
opaque_value (Frame r) i j frame e = (_, refl)
opaque_value (Bits m) i j frame e = go (inverted m.inversion (source_bit m i j frame) =? 1) m.transparent e
  where
    go : (a b : Bool) → not b ≡ true → (v : ℕ) × ((if a then Some m.foreground else if b then None else Some m.background) ≡ Some v)
    go true b e = (_, refl)
    go false false e = (_, refl)
    go false true e = absurd (not_both false e refl)

-- F0h and 5Ah do not look at it
unread : (code : ℕ) → (code ≡ 0xF0) ⊎ (code ≡ 0x5A) → (m p s t d : ℕ) → raster m code p s d ≡ raster m code p t d
unread code c m p s t d =
    ⊎_elim
    (λ e. rw e (raster_pattern m p s d ∙ sym (raster_pattern m p t d)))
    (λ e. rw e (raster_pattern_xor m p s d ∙ sym (raster_pattern_xor m p t d)))
    c

-- so where the source gives every pixel a value, any serves; and where none is selected, its colour does
abbrev pub sourceless : ℕ → Bool
sourceless code = code =? 0x5A || code =? 0xF0

abbrev pub is_plain : ℕ → Source → Bool
is_plain code (Unselected color) = true
is_plain code (Frame r) = sourceless code
is_plain code (Bits m) = if sourceless code then not m.transparent else false

abbrev pub plain_value : Source → ℕ
plain_value (Unselected color) = color
plain_value (Frame r) = 0
plain_value (Bits m) = 0

opaque_plain : (code : ℕ) (s : Source) → sourceless code ≡ true → is_opaque s ≡ true → Plain code s 0
opaque_plain code s e p =
    let c = ⊎_elim (λ f. inr (eqb-true code 0x5A f)) (λ f. inl (eqb-true code 0xF0 f)) (either (code =? 0x5A) (code =? 0xF0) e) in
    record {
      serves = λ i j frame. let o = opaque_value s i j frame p in (o.0, o.1, λ m p d. unread code c m p o.0 0 d);
    }

pub plain : (code : ℕ) (s : Source) → is_plain code s ≡ true → Plain code s (plain_value s)
unfolding source_value
plain code (Unselected color) e = record { serves = λ i j frame. (color, refl, λ m p d. refl) }
plain code (Frame r) e = opaque_plain code (Frame r) e refl
plain code (Bits m) e = let p = go (sourceless code) (not m.transparent) e in opaque_plain code (Bits m) p.0 p.1
  where
    go : (a b : Bool) → (if a then b else false) ≡ true → (a ≡ true) × (b ≡ true)
    go true b e = (refl, e)
    go false b e = absurd (not_both false e refl)

-- where its values are needed, one is selected
pub needed_selected : (code : ℕ) {s : Source} {color : ℕ} → is_plain code s ≡ false → s ≡ Unselected color → ⊥
needed_selected code e f = not_both true refl (rw f at e)

-- ---- what a pixel of one pattern and one source value draws

abbrev pub drawn_with : Blt → (color value at : ℕ) → List ℕ → List ℕ
drawn_with b color value at frame =
    store_pixel b.destination.depth frame at
    (raster (8 * b.destination.depth) b.code color value (read_pixel b.destination.depth frame at))

-- it is a blend of what stands there
pub blend_stored : {depth : ℕ} → Depth depth → {flip keep : ℕ} (code color value : ℕ) → flip ≡ flip_of code color value
    → keep ≡ keep_of code color value → (at : ℕ) (frame : List ℕ)
    → store_pixel depth frame at (raster (8 * depth) code color value (read_pixel depth frame at)) ≡ changed depth (blended flip keep) at frame
blend_stored {depth} deep {flip} {keep} code color value f k at frame =
    sym (store_raster depth deep frame at code color value _)
    ∙ ap (store_pixel depth frame at) (sym (rw (f, k) (raster_blended code color value _)))

pub blend_drawn : (b : Blt) → Depth b.destination.depth → {flip keep : ℕ} (color value : ℕ) → flip ≡ flip_of b.code color value
    → keep ≡ keep_of b.code color value → (at : ℕ) (frame : List ℕ)
    → drawn_with b color value at frame ≡ changed b.destination.depth (blended flip keep) at frame
blend_drawn b deep = blend_stored deep b.code

-- what is stored of it goes by the low bits alone
pub blend_low : (depth : ℕ) (frame : List ℕ) (at f k o flip keep old : ℕ) → f % 2 ^ (8 * depth) ≡ flip % 2 ^ (8 * depth)
    → k % 2 ^ (8 * depth) ≡ keep % 2 ^ (8 * depth) → o % 2 ^ (8 * depth) ≡ old % 2 ^ (8 * depth)
    → store_pixel depth frame at (blended f k o) ≡ store_pixel depth frame at (blended flip keep old)
blend_low depth frame at f k o flip keep old p q r =
    sym (store_low depth frame at (blended f k o))
    ∙ ap (store_pixel depth frame at) (blended_low (8 * depth) f k o ∙ rw (p, q, r) (sym (blended_low (8 * depth) flip keep old)))
    ∙ store_low depth frame at (blended flip keep old)

-- or, where nothing is written, the blend that keeps all
abbrev pub flip_unless : Bool → (code color value : ℕ) → ℕ
flip_unless nothing code color value = if nothing then 0 else flip_of code color value

abbrev pub keep_unless : Bool → (code color value : ℕ) → ℕ
keep_unless nothing code color value = if nothing then 2 ^ 32 - 1 else keep_of code color value

depth_bits : {n : ℕ} → Depth n → 2 ^ (8 * n) ≤ 2 ^ 32
depth_bits Depth.one = omega arith
depth_bits Depth.two = omega arith
depth_bits Depth.four = omega arith

pub unless_drawn : (b : Blt) → Depth b.destination.depth → (nothing : Bool) {flip keep : ℕ} (color value : ℕ)
    → flip ≡ flip_unless nothing b.code color value → keep ≡ keep_unless nothing b.code color value → (at : ℕ) (frame : List ℕ) → Bytes frame
    → (if nothing then frame else drawn_with b color value at frame) ≡ changed b.destination.depth (blended flip keep) at frame
unless_drawn b deep true {flip} {keep} color value f k at frame p =
    let old = read_pixel b.destination.depth frame at in
    let e : blended flip keep old ≡ old =
    rw (f, k) (blended_all old ∙ mod-eq_of_lt (omega (arith, depth_bits deep, read_lt b.destination.depth frame at p))) in
    rw e (sym (store_read b.destination.depth frame at p))
unless_drawn b deep false color value f k at frame p = blend_drawn b deep color value f k at frame

-- ---- solid patterns

raster_fill : (m code p s d : ℕ) → code ≡ 0xF0 → raster m code p s d ≡ p % 2 ^ m
raster_fill m code p s d e = rw e (raster_pattern m p s d)

module _ (b : Blt) {value : ℕ} (plain : Plain b.code b.source value) where
  solid_drawn : {color : ℕ} → b.pattern ≡ Solid color → (i j : ℕ) (frame : List ℕ)
      → draw_at b i j frame ≡ drawn_with b color value (pixel_byte b.destination i j) frame
  unfolding draw_at operands_at with_source with_pattern draw_operands
  solid_drawn {color} solid i j frame =
      let v = plain.serves i j frame in
      rw (solid, v.1) (ap (store_pixel b.destination.depth frame _) (v.2 _ color _))

  module _ {color : ℕ} (solid : b.pattern ≡ Solid color) (i j n : ℕ) where
    -- under F0h a row is one value stored at each of its pixels
    pub fill_changes : b.code ≡ 0xF0 → Changes b i j n (λ x old. color)
    fill_changes fills = record {
      draws = λ x l frame p.
          solid_drawn solid _ j frame
          ∙ ap (store_pixel b.destination.depth frame _) (raster_fill (8 * b.destination.depth) b.code color value _ fills)
          ∙ store_low b.destination.depth frame _ color;
    }

    -- under any code it is one blend of each
    pub blend_changes : Depth b.destination.depth → {flip keep : ℕ} → flip ≡ flip_of b.code color value
        → keep ≡ keep_of b.code color value → Changes b i j n (λ x. blended flip keep)
    blend_changes deep f k = record {
      draws = λ x l frame p. solid_drawn solid _ j frame ∙ blend_drawn b deep color value f k _ frame;
    }

-- ---- eight bits for eight pixels

-- of two numbers, the one that bit 7 - i mod 8 says: set or clear
abbrev pub picked : (bits i set clear : ℕ) → ℕ
picked bits i set clear = if bit bits (7 - i % 8) =? 1 then set else clear

-- what stands above the eight bits is of no account
pub picked_same : (b bits : ℕ) → b % 256 ≡ bits % 256 → (i set clear : ℕ) → picked b i set clear ≡ picked bits i set clear
picked_same b bits e i set clear =
    let same : bit b (7 - i % 8) ≡ bit bits (7 - i % 8) =
    low_bit b (7 - i % 8) (omega arith) ∙ rw e (sym (low_bit bits (7 - i % 8) (omega arith))) in
    rw same

-- of the low bits of two numbers it picks those of the one that it picks of the two
picked_low : (n bits i set clear : ℕ) → picked bits i (set % n) (clear % n) % n ≡ picked bits i set clear % n
picked_low n bits i set clear =
    ⊎_elim (λ z. rw z (mod-mod clear n)) (λ z. rw z (mod-mod set n)) (bit_cases (bits / 2 ^ (7 - i % 8)))

-- each pixel's blend by its bit
abbrev pub mark_rule : (bits flip1 keep1 flip0 keep0 : ℕ) → ℕ → ℕ → ℕ
mark_rule bits flip1 keep1 flip0 keep0 i = blended (picked bits i flip1 flip0) (picked bits i keep1 keep0)

-- the low bits of a blend, as many as a pixel has
pub record Narrow (depth flip keep f k : ℕ) : Type 0 where
  pub flip_low : f ≡ flip % 2 ^ (8 * depth)
  pub keep_low : k ≡ keep % 2 ^ (8 * depth)

-- they serve for the blends of a row
pub mark_low : (depth : ℕ) {flip1 keep1 flip0 keep0 f1 k1 f0 k0 : ℕ} → Narrow depth flip1 keep1 f1 k1 → Narrow depth flip0 keep0 f0 k0
    → (b bits : ℕ) → b % 256 ≡ bits % 256 → (n at : ℕ) (row : List ℕ)
    → changed_row depth (mark_rule b f1 k1 f0 k0) n at row ≡ changed_row depth (mark_rule bits flip1 keep1 flip0 keep0) n at row
mark_low depth {flip1} {keep1} {flip0} {keep0} {f1} {k1} {f0} {k0} one zero b bits e n at =
    order_same (changed_at depth (mark_rule b f1 k1 f0 k0) at) (changed_at depth (mark_rule bits flip1 keep1 flip0 keep0) at) n 0 0
    (λ m l row.
    let old = read_pixel depth row (at + (0 + m) * depth) in
    blend_low depth row _ (picked b (0 + m) f1 f0) (picked b (0 + m) k1 k0) old (picked bits (0 + m) flip1 flip0) (picked bits (0 + m) keep1 keep0) old
    (low (0 + m) flip1 flip0 one.flip_low zero.flip_low) (low (0 + m) keep1 keep0 one.keep_low zero.keep_low) refl)
  where
    low : (i set clear : ℕ) {s c : ℕ} → s ≡ set % 2 ^ (8 * depth) → c ≡ clear % 2 ^ (8 * depth)
        → picked b i s c % 2 ^ (8 * depth) ≡ picked bits i set clear % 2 ^ (8 * depth)
    low i set clear p q = rw (p, q, picked_same b bits e i _ _) (picked_low (2 ^ (8 * depth)) bits i set clear)

-- pixels that lie eight apart have one bit
pub mark_round : (bits flip1 keep1 flip0 keep0 : ℕ) → Round (mark_rule bits flip1 keep1 flip0 keep0)
mark_round bits flip1 keep1 flip0 keep0 = record {
  comes_round = λ i m w. let z : (i + m) % 8 ≡ m % 8 = omega arith in rw z;
}

-- ---- mono patterns

-- the pattern's column rises with the place, in either direction
pub column_rises : (negative : Bool) (first i n x : ℕ) → x < n
    → (pattern_index negative first (low_column negative i n) + x) % 8 ≡ pattern_index negative first (column_at negative i n x)
unfolding pattern_index
column_rises true first i n x l =
    let low = i + (n - 1) in
    let here = i + (n - 1 - x) in
    let e : first + 8 * low - low + x ≡ first + 8 * here - here + 8 * x = omega arith in
    mod_add (first + 8 * low - low) x ∙ ap (λ (y : ℕ). y % 8) e ∙ whole_eight (first + 8 * here - here) x
  where
    mod_add : (a x : ℕ) → (a % 8 + x) % 8 ≡ (a + x) % 8
    mod_add a x = omega arith

    whole_eight : (a x : ℕ) → (a + 8 * x) % 8 ≡ a % 8
    whole_eight a x = omega arith
column_rises false first i n x l = omega arith

module _ (b : Blt) {value : ℕ} (plain : Plain b.code b.source value) {p : MonoPattern} (mono : b.pattern ≡ Mono p) where
  mono_drawn : (i j : ℕ) (frame : List ℕ)
      → draw_at b i j frame
      ≡ (if mono_bit p b.destination i j =? 1 then drawn_with b p.color1 value (pixel_byte b.destination i j) frame
      else if p.transparent then frame
      else drawn_with b p.color0 value (pixel_byte b.destination i j) frame)
  unfolding draw_at operands_at with_source with_pattern draw_operands
  mono_drawn i j frame = rw (mono, v.1) (go (mono_bit p b.destination i j =? 1) p.transparent)
    where
      v : (v : ℕ) × (source_value b.source i j frame ≡ Some v) × ((m p d : ℕ) → raster m b.code p v d ≡ raster m b.code p value d)
      v = plain.serves i j frame

      go : (set nothing : Bool)
          → draw_operands b.destination.depth b.code (pixel_byte b.destination i j)
          (if set then values p.color1 v.0 else if nothing then None else values p.color0 v.0) frame
          ≡ (if set then drawn_with b p.color1 value (pixel_byte b.destination i j) frame
          else if nothing then frame
          else drawn_with b p.color0 value (pixel_byte b.destination i j) frame)
      go true nothing = ap (store_pixel b.destination.depth frame _) (v.2 _ p.color1 _)
      go false true = refl
      go false false = ap (store_pixel b.destination.depth frame _) (v.2 _ p.color0 _)

  -- a row whose bits are the pattern row's from the lowest pixel's column on
  pub mono_changes : (i j n : ℕ) → Depth b.destination.depth → (bits : ℕ) {flip1 keep1 flip0 keep0 : ℕ}
      → flip1 ≡ flip_of b.code p.color1 value → keep1 ≡ keep_of b.code p.color1 value
      → flip0 ≡ flip_unless p.transparent b.code p.color0 value → keep0 ≡ keep_unless p.transparent b.code p.color0 value
      → Turned p.data0 p.data1 (pattern_index b.destination.rows.negative p.row j)
      (pattern_index b.destination.columns.negative p.column (low_column b.destination.columns.negative i n)) bits
      → Changes b i j n (mark_rule bits flip1 keep1 flip0 keep0)
  unfolding mono_bit
  mono_changes i j n deep bits {flip1} {keep1} {flip0} {keep0} f1 k1 f0 k0 turned = record {
    draws = λ x l frame q.
        mono_drawn _ j frame
        ∙ rw (← same x l) (go (bit bits (7 - x % 8) =? 1) _ frame q);
  }
    where
      same : (x : ℕ) → x < n → bit bits (7 - x % 8) ≡ mono_bit p b.destination (column_at b.destination.columns.negative i n x) j
      same x l = turned.turns x ∙ ap (pattern_bit p.data0 p.data1 _) (column_rises b.destination.columns.negative p.column i n x l)

      go : (set : Bool) (at : ℕ) (frame : List ℕ) → Bytes frame
          → (if set then drawn_with b p.color1 value at frame else if p.transparent then frame else drawn_with b p.color0 value at frame)
          ≡ changed b.destination.depth (blended (if set then flip1 else flip0) (if set then keep1 else keep0)) at frame
      go true at frame q = blend_drawn b deep p.color1 value f1 k1 at frame
      go false at frame q = unless_drawn b deep p.transparent p.color0 value f0 k0 at frame q

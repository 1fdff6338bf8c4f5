-- A copy: raster operation CCh gives the source, so a row whose source lies in frame memory is one move of bytes, where no byte of
-- the source is met after it was overwritten. Everything is over the byte count.
use Prim.Native.Nat.{ℕ, zero, suc, ◌+◌, ◌-◌, ◌*◌, ◌/◌, ◌%◌, ◌^◌, ◌≤◌, ◌<◌}
use Rattle.std.specs.Prelude.{◌≡◌, Bool, not, List, ◌++◌, ◌⊎◌, length, set, take, drop, if◌then◌else◌, None}
use Rattle.std.proofs.Math.Path.{refl}
use Rattle.std.proofs.Common.{sym, ap, ◌∙◌, ⊎_elim, zero-mul, add-one, length-drop, get_or-set_same, get_or-set_other, get_or-drop, ext_get_or}
use Rattle.std.proofs.Math.Bool.{true, false}
use Rattle.std.proofs.Math.Logic.{inl, inr}
use native.Mathlib.Omega.{arith}
use Rattle.std.proofs.Math.Nat.{suc-mul, mul-le-mul_right}
use Rattle.std.proofs.Math.ListN.{get_or, length-set}
use Rattle.std.proofs.Math.Seq.{paste-zero, paste-suc}
use Rattle.model.specs.Limits.{side_most}
use Rattle.model.specs.Choice.{◌=?◌}
use Rattle.model.proofs.Choice.{not_both}
use Rattle.model.specs.Pixel.{read_pixel, store_pixel}
use Rattle.model.specs.Raster.{raster}
use Rattle.model.proofs.Raster.{raster_source}
use Rattle.model.specs.Rectangle.{pixel_byte}
use Rattle.model.specs.Operands.{draw_operands, values}
use Rattle.model.specs.BltPixel.{source_value, mono_bit, with_pattern, with_source, operands_at, draw_at}
use Rattle.model.specs.declared.Blt.{Blt}
use Rattle.model.specs.declared.Pattern.{Pattern}
use Rattle.model.specs.declared.Pattern.TheVariants.{Solid, Mono}
use Rattle.model.specs.declared.Rectangle.{Rectangle}
use Rattle.model.specs.declared.Source.TheVariants.{Frame}
use Rattle.laws.specs.Pixels.{Bytes, read_same, store_low}
use Rattle.laws.specs.Order.{in_order, order_last}
use Rattle.laws.specs.Numbers.{less_or_not}
use Rattle.laws.specs.Ranges.{Matches, across_most}
use Rattle.laws.specs.Rows.{Row, row_pixels}
use Rattle.laws.specs.Lows.{column_at, low_byte, Span, destination_span, source_span, place_byte, bytes_in}

-- ---- bytes that are moved

-- frame memory with the n bytes from `from` stored at `to`, all read before the first is written
unfoldable pub moved : (from to n : ℕ) → List ℕ → List ℕ
moved from to n frame = take to frame ++ take n (drop from frame) ++ drop (to + n) frame

-- of the bytes of `first` from `from` on, those from number a up to e are laid into `frame` from `to` on: that is `next`
pub record Laid (first : List ℕ) (from to a e : ℕ) (frame next : List ℕ) : Type 0 where
  pub same : length next ≡ length frame
  pub inside : (t : ℕ) → a ≤ t → t < e → get_or next (to + t) 0 ≡ get_or first (from + t) 0
  pub below : (x : ℕ) → x < to + a → get_or next x 0 ≡ get_or frame x 0
  pub above : (x : ℕ) → to + e ≤ x → get_or next x 0 ≡ get_or frame x 0

module _ {first : List ℕ} {from to : ℕ} where
  -- there is one such list
  pub laid_one : {a e : ℕ} {frame next other : List ℕ} → Laid first from to a e frame next → Laid first from to a e frame other
      → next ≡ other
  laid_one {a} {e} {next = next} {other} l m =
      ext_get_or 0 next other (l.same ∙ sym m.same)
      (λ x _.
      ⊎_elim (λ p. l.below x p ∙ sym (m.below x p))
      (λ p.
      ⊎_elim (λ q. here x (x - to) (omega arith) (omega arith) (omega arith)) (λ q. l.above x q ∙ sym (m.above x q))
      (less_or_not x (to + e)))
      (less_or_not x (to + a)))
    where
      here : (x t : ℕ) → x ≡ to + t → a ≤ t → t < e → get_or next x 0 ≡ get_or other x 0
      here x t y p q = rw y (l.inside t p q ∙ sym (m.inside t p q))

  -- two parts side by side, the lower one first, or the upper one
  module _ {a m e : ℕ} (p : a ≤ m) (q : m ≤ e) {frame middle next : List ℕ} where
    pub laid_up : Laid first from to a m frame middle → Laid first from to m e middle next → Laid first from to a e frame next
    laid_up l u = record {
      same = u.same ∙ l.same;
      inside = λ t b c.
          ⊎_elim (λ s. u.below (to + t) (omega arith) ∙ l.inside t b s) (λ s. u.inside t s c) (less_or_not t m);
      below = λ x h. u.below x (omega arith) ∙ l.below x h;
      above = λ x h. u.above x h ∙ l.above x (omega arith);
    }

    pub laid_down : Laid first from to m e frame middle → Laid first from to a m middle next → Laid first from to a e frame next
    laid_down u l = record {
      same = l.same ∙ u.same;
      inside = λ t b c.
          ⊎_elim (λ s. l.inside t b s) (λ s. l.above (to + t) (omega arith) ∙ u.inside t s c) (less_or_not t m);
      below = λ x h. l.below x h ∙ u.below x (omega arith);
      above = λ x h. l.above x (omega arith) ∙ u.above x h;
    }

  pub laid_none : {a e : ℕ} {frame : List ℕ} → e ≡ a → Laid first from to a e frame frame
  laid_none s = record { same = refl; inside = λ t b c. absurd (omega arith); below = λ x h. refl; above = λ x h. refl }

  laid_byte : {a e p q : ℕ} {frame : List ℕ} → e ≡ a + 1 → p ≡ from + a → q ≡ to + a → q < length frame
      → Laid first from to a e frame (set frame q (get_or first p 0))
  laid_byte {p = p} {q} {frame} s r w l = record {
    same = length-set frame q _;
    inside = λ t b c.
        let y : to + t ≡ q = omega arith in
        let z : from + t ≡ p = omega arith in
        rw (y, z) (get_or-set_same frame q _ 0 l);
    below = λ x h. get_or-set_other frame q x _ 0 (λ e. omega arith);
    above = λ x h. get_or-set_other frame q x _ 0 (λ e. omega arith);
  }

  -- one byte more
  pub laid_next : {a e : ℕ} {frame next : List ℕ} → Laid first from to a e frame next → a ≤ e → to + e < length frame
      → Laid first from to a (e + 1) frame (set next (to + e) (get_or first (from + e) 0))
  laid_next l g h = laid_up g (omega arith) l (laid_byte refl refl refl (omega (arith, l.same)))

  -- a pixel stored as it is read
  pub laid_pixel : Bytes first → (n : ℕ) {a e p q : ℕ} {frame : List ℕ} → e ≡ a + n → p ≡ from + a → q ≡ to + a
      → q + n ≤ length frame → Laid first from to a e frame (store_pixel n frame q (read_pixel n first p))
  unfolding read_pixel store_pixel
  laid_pixel bytes zero s r w l = laid_none (omega arith)
  laid_pixel bytes (suc n) {a} {p = p} {q} {frame} s r w l =
      let h = bytes p in
      let rest = read_pixel n first (p + 1) in
      let low : (get_or first p 0 + 256 * rest) % 256 ≡ get_or first p 0 = omega arith in
      let high : (get_or first p 0 + 256 * rest) / 256 ≡ rest = omega arith in
      rw (low, high)
      (laid_up {m = a + 1} (omega arith) (omega arith) (laid_byte refl r w (omega arith))
      (laid_pixel bytes n (omega arith) (omega arith) (omega arith) (omega (arith, length-set frame q (get_or first p 0)))))

-- what is laid into a list, and from there into another
pub laid_through : {first room middle frame next : List ℕ} {from to n : ℕ} → Laid first from 0 0 n room middle
    → Laid middle 0 to 0 n frame next → Laid first from to 0 n frame next
laid_through l m = record { same = m.same; inside = λ t b c. m.inside t b c ∙ l.inside t b c; below = m.below; above = m.above }

-- a move lays bytes of a list into itself
pub laid_moved : (from to n : ℕ) (frame : List ℕ) → from + n ≤ length frame → to + n ≤ length frame
    → Laid frame from to 0 n frame (moved from to n frame)
unfolding moved
laid_moved from to zero frame p q = rw (← paste-zero frame to (drop from frame)) (laid_none refl)
laid_moved from to (suc n) frame p q =
    let l = length-drop from frame in
    rw (← paste-suc frame to (drop from frame) n 0 (omega arith) (omega arith), get_or-drop from frame n 0, ← add-one n)
    (laid_next (laid_moved from to n frame (omega arith) (omega arith)) (omega arith) (omega arith))

-- ---- pixels that are copied one after the other

-- x is none of the n bytes from y on, but perhaps the first
abbrev pub Beside : (x y n : ℕ) → Type 0
Beside x y n = (x ≤ y) ⊎ (y + n ≤ x)

-- a copy of n bytes, up or with X negative down, meets none that it has overwritten
abbrev pub Clear : Bool → (from to n : ℕ) → Type 0
Clear true from to n = Beside from to n
Clear false from to n = Beside to from n

-- what is clear is clear where both lie as many bytes further or back
pub clear_on : (negative : Bool) (from to n x y from' to' : ℕ) → from' + y ≡ from + x → to' + y ≡ to + x
    → Clear negative from to n → Clear negative from' to' n
clear_on true from to n x y from' to' p q clear = ⊎_elim (λ h. inl (omega arith)) (λ h. inr (omega arith)) clear
clear_on false from to n x y from' to' p q clear = ⊎_elim (λ h. inl (omega arith)) (λ h. inr (omega arith)) clear

-- of n pixels, the place from the lowest byte up of the one that is drawn after m others
abbrev pub place_of : Bool → (n m : ℕ) → ℕ
place_of negative n m = if negative then n - 1 - m else m

-- the pixel at place x, stored as it is read
abbrev copied : (depth from to x : ℕ) → List ℕ → List ℕ
copied depth from to x next = store_pixel depth next (to + x * depth) (read_pixel depth next (from + x * depth))

module _ (depth n from to : ℕ) (frame : List ℕ) (bytes : Bytes frame) (room : to + n * depth ≤ length frame) where
  -- it is laid as it was at first, where none of its source bytes is among those that were laid before
  copy_one : (x : ℕ) → x < n → {a e : ℕ} (next : List ℕ) → Laid frame from to a e frame next
      → (from + suc x * depth ≤ to + a) ⊎ (to + e ≤ from + x * depth)
      → Laid frame from to (x * depth) (suc x * depth) next (copied depth from to x next)
  copy_one x l next laid c =
      let s = suc-mul x depth in
      let t = mul-le-mul_right depth l in
      rw
      (read_same depth next frame (from + x * depth) (from + x * depth)
      (λ y p. ⊎_elim (λ h. laid.below (from + x * depth + y) (omega arith)) (λ h. laid.above (from + x * depth + y) (omega arith)) c))
      (laid_pixel bytes depth s refl refl (omega (arith, laid.same)))

  module _ (draw : ℕ → List ℕ → List ℕ) (i : ℕ) where
    -- n pixels from number i on are drawn so
    abbrev Copies : Bool → Type 0
    Copies negative = (m : ℕ) → m < n → (next : List ℕ) → draw (i + m) next ≡ copied depth from to (place_of negative n m) next

    -- of m pixels drawn and k left, those drawn are the upper ones, or the lower ones
    copy_part : (negative : Bool) → Clear negative from to (n * depth) → Copies negative → (m k : ℕ) → m + k ≡ n
        → Laid frame from to (if negative then k * depth else 0) (if negative then n * depth else m * depth) frame (in_order draw i m frame)
    unfolding in_order
    copy_part true clear drawn zero k e = laid_none (let z : n ≡ k = omega arith in rw z)
    copy_part false clear drawn zero k e = laid_none (omega arith)
    copy_part true clear drawn (suc m) k e =
        let before = copy_part true clear drawn m (suc k) (omega arith) in
        let x : n - 1 - m ≡ k = omega arith in
        let t = mul-le-mul_right {m = suc k} {n = n} depth (omega arith) in
        rw (order_last draw i m frame, drawn m (omega arith) _, x)
        (laid_down (omega (arith, suc-mul k depth)) t before
        (copy_one k (omega arith) _ before (⊎_elim (λ h. inl (omega arith)) (λ h. inr (omega arith)) clear)))
    copy_part false clear drawn (suc m) k e =
        let before = copy_part false clear drawn m (suc k) (omega arith) in
        let t = mul-le-mul_right {m = suc m} {n = n} depth (omega arith) in
        rw (order_last draw i m frame, drawn m (omega arith) _)
        (laid_up (omega arith) (omega (arith, suc-mul m depth)) before
        (copy_one m (omega arith) _ before (⊎_elim (λ h. inr (omega arith)) (λ h. inl (omega arith)) clear)))

    -- all n
    copy_all : (negative : Bool) → Clear negative from to (n * depth) → Copies negative
        → Laid frame from to 0 (n * depth) frame (in_order draw i n frame)
    copy_all true clear drawn = rw (zero-mul depth) at (copy_part true clear drawn n 0 (omega arith))
    copy_all false clear drawn = copy_part false clear drawn n 0 (omega arith)

-- ---- rows that one move copies

-- a pattern that gives every pixel a value
abbrev pub is_full : Pattern → Bool
is_full (Solid color) = true
is_full (Mono p) = not p.transparent

pub full_values : (p : Pattern) → is_full p ≡ true → (r : Rectangle) (i j source : ℕ)
    → (v : ℕ) × (with_pattern p r i j source ≡ values v source)
unfolding with_pattern
full_values (Solid color) e r i j source = (_, refl)
full_values (Mono p) e r i j source = go (mono_bit p r i j =? 1) p.transparent e
  where
    go : (a b : Bool) → not b ≡ true
        → (v : ℕ) × ((if a then values p.color1 source else if b then None else values p.color0 source) ≡ values v source)
    go true b e = (_, refl)
    go false false e = (_, refl)
    go false true e = absurd (not_both false e refl)

place_at : (negative : Bool) (i n m : ℕ) → m < n → (place_of negative n m < n) × (column_at negative i n (place_of negative n m) ≡ i + m)
place_at true i n m l = (omega arith, omega arith)
place_at false i n m l = (l, refl)

-- the byte of the pixel that is drawn after m others
pub drawn_byte : {size : ℕ} {q : Rectangle} {i j n : ℕ} → Span size q i j n → {a : ℕ} → a ≡ low_byte q i j n → (m : ℕ) → m < n
    → pixel_byte q (i + m) j ≡ a + place_of q.columns.negative n m * q.depth
drawn_byte {q = q} {i} {n = n} s low m l = let p = place_at q.columns.negative i n m l in rw p.1 at (place_byte s low _ p.0)

pub raster_copy : (m code p s d : ℕ) → code ≡ 0xCC → raster m code p s d ≡ s % 2 ^ m
raster_copy m code p s d e = rw e (raster_source m p s d)

-- the bytes of a row are few
pub row_most : {size : ℕ} {b : Blt} {i j n : ℕ} → Row size b i j n → n * b.destination.depth ≤ side_most * 4
row_most {n = n} r =
    let ranged = r.fit.destination_fit.ranged in
    rw ranged.pixels_on at (across_most ranged n (omega (arith, r.columns)))

module _ {size : ℕ} {b : Blt} {i j n : ℕ} (r : Row size b i j n) (z : 0 < n) {s : Rectangle} (e : b.source ≡ Frame s)
    {from to : ℕ} (f : from ≡ low_byte s i j n) (t : to ≡ low_byte b.destination i j n) where
  same : Matches b.destination s
  same = (rw e at r.fit.source_fit).1

  -- and they lie in frame memory, those of the source too
  pub copy_bytes : (from + n * b.destination.depth ≤ size) × (to + n * b.destination.depth ≤ size)
  copy_bytes = (rw same.depth_same at (bytes_in (source_span r z e) f), bytes_in (destination_span r z) t)

  module _ (code : b.code ≡ 0xCC) (full : is_full b.pattern ≡ true) where
    -- what a pixel draws: its source as it is
    pub copy_pixel : (x : ℕ) (next : List ℕ)
        → draw_at b x j next ≡ store_pixel b.destination.depth next (pixel_byte b.destination x j) (read_pixel b.destination.depth next (pixel_byte s x j))
    unfolding draw_at operands_at with_source source_value draw_operands
    copy_pixel x next =
        rw (e, same.depth_same, (full_values b.pattern full b.destination x j _).1)
        (ap (store_pixel b.destination.depth next _) (raster_copy (8 * b.destination.depth) b.code _ _ _ code)
        ∙ store_low b.destination.depth next _ _)

    copy_drawn : (m : ℕ) → m < n → (next : List ℕ)
        → draw_at b (i + m) j next ≡ copied b.destination.depth from to (place_of b.destination.columns.negative n m) next
    copy_drawn m l next =
        copy_pixel (i + m) next
        ∙ rw (drawn_byte (source_span r z e) f m l, drawn_byte (destination_span r z) t m l, same.columns_same, same.depth_same)

    -- where no byte is met after it was overwritten, one move does them all
    pub copy_row : (frame : List ℕ) → length frame ≡ size → Clear b.destination.columns.negative from to (n * b.destination.depth)
        → Bytes frame → moved from to (n * b.destination.depth) frame ≡ row_pixels b i j n frame
    copy_row frame g clear bytes =
        let w = copy_bytes in
        laid_one (laid_moved from to (n * b.destination.depth) frame (omega arith) (omega arith))
        (copy_all b.destination.depth n from to frame bytes (omega arith) (λ m. draw_at b m j) i b.destination.columns.negative clear copy_drawn)

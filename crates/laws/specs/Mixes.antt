-- Any raster operation on a source in frame memory: where no byte of the source is met after it was overwritten, all of it may be
-- read before the first pixel is drawn, and the pixels are drawn from the lowest byte up. Everything is over the byte count.
use Rattle.std.specs.Prelude.{ℕ, zero, suc, ◌+◌, ◌-◌, ◌*◌, ◌/◌, ◌≤◌, ◌<◌, ◌≡◌, refl, Bool, true, false, List, ◌++◌, ◌⊎◌, length, get_or, take, drop, Some}
use Rattle.std.proofs.Math.Path.{sym}
use Rattle.std.proofs.Common.{ap, ◌∙◌, inl, inr, ⊎_elim, arith, add_assoc}
use Rattle.model.specs.Formats.{Depth}
use Rattle.model.specs.Pixel.{read_pixel, store_pixel}
use Rattle.model.specs.Rectangle.{pixel_byte}
use Rattle.model.specs.Raster.{raster}
use Rattle.model.specs.BltPixel.{source_value, draw_at}
use Rattle.model.specs.declared.Blt.{Blt}
use Rattle.model.specs.declared.Pattern.TheVariants.{Solid}
use Rattle.model.specs.declared.Rectangle.{Rectangle}
use Rattle.model.specs.declared.Source.TheVariants.{Frame}
use Rattle.laws.specs.Pixels.{Bytes, read_same, store_below, store_above, depth_least}
use Rattle.laws.specs.Order.{in_order, order_zero, order_last, order_same}
use Rattle.laws.specs.Ranges.{Matches}
use Rattle.laws.specs.Rows.{Row, row_pixels, value_drawn, row_within}
use Rattle.laws.specs.Lows.{low_byte, low_place, destination_span, source_span, low_part}
use Rattle.laws.specs.Changes.{changed, changed_at, changed_row, changed_down, step_le, written_part}
use Rattle.laws.specs.Words.{mix_rule, repeated, raster_repeated, word_row}
use Rattle.laws.specs.Moves.{Clear, clear_on, Laid, place_of, drawn_byte, copy_bytes}

-- ---- bytes that are not yet overwritten

-- byte y is none of the pixel at byte a
abbrev Apart : (depth y a : ℕ) → Type 0
Apart depth y a = (y < a) ⊎ (a + depth ≤ y)

-- it is as before, where m pixels were changed that it is none of
untouched : (depth : ℕ) (rule : ℕ → ℕ → ℕ) (to : ℕ) (place : ℕ → ℕ) (frame : List ℕ) (y m : ℕ)
    → ((k : ℕ) → k < m → Apart depth y (to + place k * depth))
    → get_or (in_order (λ k. changed_at depth rule to (place k)) 0 m frame) y 0 ≡ get_or frame y 0
untouched depth rule to place frame y zero h = ap (λ (l : List ℕ). get_or l y 0) (order_zero _ 0 frame)
untouched depth rule to place frame y (suc m) h =
    let z : 0 + m ≡ m = omega arith in
    rw (order_last (λ k. changed_at depth rule to (place k)) 0 m frame, z)
    (⊎_elim (λ l. store_below depth _ _ _ y l) (λ l. store_above depth _ _ _ y l) (h m (omega arith))
    ∙ untouched depth rule to place frame y m (λ k l. h k (omega arith)))

module _ (depth n from to : ℕ) where
  -- the source of the pixel that is drawn after m others is none of theirs
  source_apart : (negative : Bool) → Clear negative from to (n * depth) → {k m y : ℕ} → k < m → m < n → y < depth
      → Apart depth (from + place_of negative n m * depth + y) (to + place_of negative n k * depth)
  source_apart true clear {k} {m} l p q =
      let s = step_le depth (n - 1 - m) (n - 1 - k) (omega arith) in
      let t = step_le depth (n - 1 - k) n (omega arith) in
      ⊎_elim (λ h. inl (omega arith)) (λ h. inr (omega arith)) clear
  source_apart false clear {k} {m} l p q =
      let s = step_le depth k m l in
      let t = step_le depth m n p in
      ⊎_elim (λ h. inr (omega arith)) (λ h. inl (omega arith)) clear

  module _ (code color : ℕ) (draw : ℕ → List ℕ → List ℕ) (i : ℕ) (frame : List ℕ) where
    -- n pixels from number i on are drawn so, each with its source as memory then stands
    abbrev Mixes : Bool → Type 0
    Mixes negative = (m : ℕ) → m < n → (next : List ℕ)
        → draw (i + m) next ≡ changed_at depth (mix_rule depth code color next from) to (place_of negative n m) next

    abbrev rule : ℕ → ℕ → ℕ
    rule = mix_rule depth code color frame from

    -- m of them find it as it stood at first
    mix_first : (negative : Bool) → Clear negative from to (n * depth) → Mixes negative → (m : ℕ) → m ≤ n
        → in_order draw i m frame ≡ in_order (λ k. changed_at depth rule to (place_of negative n k)) 0 m frame
    mix_first negative clear drawn zero l = order_zero draw i frame ∙ sym (order_zero _ 0 frame)
    mix_first negative clear drawn (suc m) l =
        let z : 0 + m ≡ m = omega arith in
        let next = in_order (λ k. changed_at depth rule to (place_of negative n k)) 0 m frame in
        let at = from + place_of negative n m * depth in
        let e : read_pixel depth next at ≡ read_pixel depth frame at =
        read_same depth next frame at at
        (λ y q. untouched depth rule to (place_of negative n) frame (at + y) m (λ k p. source_apart negative clear p (omega arith) q)) in
        order_last draw i m frame ∙ ap (draw (i + m)) (mix_first negative clear drawn m (omega arith)) ∙ drawn m (omega arith) next ∙ (rw e)
        ∙ sym (rw z at (order_last (λ k. changed_at depth rule to (place_of negative n k)) 0 m frame))

    -- so all n may be drawn from the lowest up
    mix_all : (negative : Bool) → Clear negative from to (n * depth) → Mixes negative → in_order draw i n frame ≡ changed_row depth rule n to frame
    mix_all true clear drawn = mix_first true clear drawn n (omega arith) ∙ changed_down depth rule n to frame
    mix_all false clear drawn = mix_first false clear drawn n (omega arith)

-- ---- bytes that are read first

-- a rule that finds its source in bytes that were laid elsewhere
laid_rule : (depth code color n : ℕ) {first room block : List ℕ} {from : ℕ} → Laid first from 0 0 (n * depth) room block → (to : ℕ) (frame : List ℕ)
    → changed_row depth (mix_rule depth code color block 0) n to frame ≡ changed_row depth (mix_rule depth code color first from) n to frame
laid_rule depth code color n {first} {block = block} {from} laid to =
    order_same _ _ n 0 0
    (λ m l next.
    let s = step_le depth (0 + m) n (omega arith) in
    rw
    (read_same depth block first (0 + (0 + m) * depth) (from + (0 + m) * depth)
    (λ y p. rw (add_assoc 0 ((0 + m) * depth) y, add_assoc from ((0 + m) * depth) y) (laid.inside ((0 + m) * depth + y) (omega arith) (omega arith)))))

-- what the row writer leaves, lent n pixels and their source in a room of its own
pub mix_part : {depth : ℕ} → Depth depth → (code color n : ℕ) {frame room block ys : List ℕ} {from : ℕ} → Laid frame from 0 0 (n * depth) room block
    → (to : ℕ) → to + n * depth ≤ length frame
    → let part = take (to + n * depth - to) (drop to frame) in
    ys ≡ changed_row depth (mix_rule depth code color block 0) (length part / depth) 0 part
    → take to frame ++ (ys ++ drop (to + n * depth - to) (drop to frame)) ≡ changed_row depth (mix_rule depth code color frame from) n to frame
mix_part {depth} deep code color n {frame} {block = block} laid to l written =
    written_part depth (mix_rule depth code color block 0) (depth_least deep) n to frame l written ∙ laid_rule depth code color n laid to frame

-- ---- rows of a BLT

-- a solid pattern with a source in frame memory: the code and the colour are ready, the colour as often as it goes into a word
pub record Ready (b : Blt) (s : Rectangle) (code pattern : ℕ) : Type 0 where
  pub color : ℕ
  pub solid : b.pattern ≡ Solid color
  pub source : b.source ≡ Frame s
  pub code_is : code ≡ b.code
  pub pattern_is : pattern ≡ repeated b.destination.depth color

-- what a pixel draws
pub ready_drawn : {b : Blt} {s : Rectangle} {code pattern : ℕ} → Depth b.destination.depth → Ready b s code pattern → (x j : ℕ) (frame : List ℕ)
    {at v : ℕ} → at ≡ pixel_byte b.destination x j → Some v ≡ source_value b.source x j frame
    → changed b.destination.depth (raster (8 * b.destination.depth) code pattern v) at frame ≡ draw_at b x j frame
ready_drawn {b} deep y x j frame {at} {v} a e =
    ap (store_pixel b.destination.depth frame at) (rw (y.code_is, y.pattern_is) (raster_repeated deep b.code y.color v _))
    ∙ value_drawn b x j frame refl a y.solid refl e

module _ {size : ℕ} {b : Blt} {i j n : ℕ} (r : Row size b i j n) {s : Rectangle} {code pattern : ℕ} (y : Ready b s code pattern) where
  deep : Depth b.destination.depth
  deep = r.fit.destination_fit.ranged.deep

  same : Matches b.destination s
  same = (rw y.source at r.fit.source_fit).1

module _ {size : ℕ} {b : Blt} {i j n : ℕ} (r : Row size b i j n) (some : 0 < n) {s : Rectangle} {code pattern : ℕ} (y : Ready b s code pattern)
    {from to : ℕ} (f : from ≡ low_byte s i j n) (t : to ≡ low_byte b.destination i j n) where
  mix_drawn : (m : ℕ) → m < n → (next : List ℕ)
      → draw_at b (i + m) j next
      ≡ changed_at b.destination.depth (mix_rule b.destination.depth code pattern next from) to
      (place_of b.destination.columns.negative n m) next
  unfolding source_value
  mix_drawn m l next =
      sym
      (ready_drawn (deep r y) y (i + m) j next (sym (drawn_byte (destination_span r some) t m l))
      (rw (y.source, drawn_byte (source_span r some y.source) f m l, (same r y).columns_same, (same r y).depth_same)))

  -- where no byte is met after it was overwritten, the source may be read first
  mix_row : (frame : List ℕ) → Clear b.destination.columns.negative from to (n * b.destination.depth)
      → changed_row b.destination.depth (mix_rule b.destination.depth code pattern frame from) n to frame ≡ row_pixels b i j n frame
  mix_row frame clear =
      sym
      (mix_all b.destination.depth n from to code pattern (λ m. draw_at b m j) i frame b.destination.columns.negative clear mix_drawn)

  -- and four words be drawn at once
  word_pixels : (frame : List ℕ) → Bytes frame → n * b.destination.depth ≡ 16 → Clear b.destination.columns.negative from to 16
      → changed_row 4 (mix_rule 4 code pattern frame from) 4 to frame ≡ row_pixels b i j n frame
  word_pixels frame bytes e clear =
      rw y.pattern_is (word_row (deep r y) code y.color n e from to frame bytes) ∙ mix_row frame (rw e clear)

-- a piece of a row of n pixels: c of them from number m on, of 16 bytes
module _ {size : ℕ} {b : Blt} {i j n : ℕ} (r : Row size b i j n) (some : 0 < n) {s : Rectangle} {code pattern : ℕ} (y : Ready b s code pattern)
    {from to : ℕ} (f : from ≡ low_byte s i j n) (t : to ≡ low_byte b.destination i j n)
    (m c : ℕ) (z : 0 < c) (l : m + c ≤ n) (e : c * b.destination.depth ≡ 16) {x : ℕ}
    (p : x ≡ low_place b.destination.columns.negative n m c * b.destination.depth) where
  part : Row size b (i + m) j c
  part = row_within r (omega arith) refl

  part_from : from + x ≡ low_byte s (i + m) j c
  part_from = rw (p, ← (same r y).columns_same, ← (same r y).depth_same) (low_part (source_span r some y.source) f m c z l)

  part_to : to + x ≡ low_byte b.destination (i + m) j c
  part_to = rw p (low_part (destination_span r some) t m c z l)

  pub piece_in : (from + x + 16 ≤ size) × (to + x + 16 ≤ size)
  piece_in = rw e at (copy_bytes part z y.source part_from part_to)

  pub piece_drawn : Clear b.destination.columns.negative from to 16 → (frame : List ℕ) → Bytes frame
      → changed_row 4 (mix_rule 4 code pattern frame (from + x)) 4 (to + x) frame ≡ row_pixels b (i + m) j c frame
  piece_drawn clear frame bytes =
      word_pixels part z y part_from part_to frame bytes e (clear_on b.destination.columns.negative from to 16 x 0 (from + x) (to + x) (omega arith) (omega arith) clear)

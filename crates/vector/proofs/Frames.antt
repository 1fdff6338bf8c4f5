-- The pixels of a vector in frame memory.
use Rattle.std.proofs.Common.{Option, None}
use Prim.Native.Nat.{ℕ, zero, suc, ◌+◌, ◌-◌, ◌*◌, ◌≤◌, ◌<◌, min, max}
use mathlib.Core.Path.{◌≡◌, refl, sym, ap, ◌∙◌}
use mathlib.Core.Bool.{Bool, true, false}
use mathlib.Core.List.{List}
use mathlib.Core.Logic.{⊎_elim}
use native.Mathlib.Omega.{arith}
use native.Mathlib.Numerals.{add-one}
use borrow.Author.Tests.{lt-ltb, le-ltb, le-leb, lt-leb, ltb-true, ltb-false}
use Rattle.std.specs.Prelude.{if◌then◌else◌}
use Rattle.model.specs.Choice.{◌<?◌}
use Rattle.model.proofs.Choice.{true_or_false, not_both}
use Rattle.model.specs.Bounds.{byte_outside, some, outside, first_byte, least, greatest, extent, inside}
use Rattle.model.specs.Formats.{Depth}
use Rattle.model.specs.Pixel.{read_pixel, store_pixel}
use Rattle.model.specs.Raster.{raster}
use Rattle.model.specs.Operands.{draw_operands}
use Rattle.model.specs.VectorPixel.{position, vector_outside, vector_extent, vector_byte, draw_vector}
use Rattle.model.specs.declared.Extent.{Extent}
use Rattle.model.specs.declared.Vector.{Vector}
use Rattle.model.specs.declared.Position.{Position}
use Rattle.laws.specs.Pixels.{depth_least}
use Rattle.laws.specs.Some.{some_not, some_at, some_none, is_outside, extent_outside}
use Rattle.laws.specs.Ranges.{RangedVector, FitVector}
use Rattle.laws.specs.Walks.{Onward, position_on}
use Rattle.laws.specs.Order.{in_order, vector_pixels}

-- ---- one pixel, at plus - minus

abbrev pixel_outside : ℕ → ℕ → ℕ → ℕ → Bool
pixel_outside size depth plus minus = some depth (λ i. byte_outside size (plus + i) minus)

module _ (size depth plus minus : ℕ) where
  -- its first byte is not below frame memory, and its last not past the end
  pixel_in : minus ≤ plus → plus - minus + depth ≤ size → pixel_outside size depth plus minus ≡ false
  unfolding byte_outside
  pixel_in p q =
      some_none depth (λ i. byte_outside size (plus + i) minus)
      (λ i l. simp (le-ltb (plus + i) minus (omega arith), lt-leb (size + minus) (plus + i) (omega arith)))

  -- its first byte is below
  pixel_below : Depth depth → plus < minus → pixel_outside size depth plus minus ≡ true
  unfolding byte_outside
  pixel_below d p =
      some_at depth (λ i. byte_outside size (plus + i) minus) 0 (depth_least d) (simp (lt-ltb (plus + 0) minus (omega arith)))

  -- its last byte is past the end
  pixel_above : Depth depth → minus ≤ plus → size < plus - minus + depth → pixel_outside size depth plus minus ≡ true
  unfolding byte_outside
  pixel_above d p q =
      let z = depth_least d in
      let i = depth - 1 in
      some_at depth (λ i. byte_outside size (plus + i) minus) i (omega arith)
      (simp (le-ltb (plus + i) minus (omega arith), le-leb (size + minus) (plus + i) (omega arith)))

  pixel_facts : Depth depth → pixel_outside size depth plus minus ≡ false → (minus ≤ plus) × (plus - minus + depth ≤ size)
  pixel_facts d e =
      let p : minus ≤ plus =
      ⊎_elim (λ t. absurd (not_both _ (pixel_below d (ltb-true _ _ t)) e)) (λ t. ltb-false _ _ t) (true_or_false (plus <? minus)) in
      let q : plus - minus + depth ≤ size =
      ⊎_elim (λ t. absurd (not_both _ (pixel_above d p (ltb-true _ _ t)) e)) (λ t. ltb-false _ _ t) (true_or_false (size <? plus - minus + depth)) in
      (p, q)

-- ---- the lowest and the highest of k numbers and one more

one_less : (k : ℕ) → suc k - 1 ≡ k
one_less k = omega arith

-- what the definitions pick by a test is the lower number, or the higher
lower : (a b : ℕ) → min b a ≡ (if a <? b then a else b)
lower a b = go (a <? b) refl
  where
    go : (t : Bool) → (a <? b) ≡ t → min b a ≡ (if t then a else b)
    go true e = let l = ltb-true a b e in omega arith
    go false e = let l = ltb-false a b e in omega arith

higher : (a b d : ℕ) → max (a + d) (b + d) ≡ (if a <? b then b else a) + d
higher a b d = go (a <? b) refl
  where
    go : (t : Bool) → (a <? b) ≡ t → max (a + d) (b + d) ≡ (if t then b else a) + d
    go true e = let l = ltb-true a b e in omega arith
    go false e = let l = ltb-false a b e in omega arith

module _ (f : ℕ → ℕ) where
  least_next : (k : ℕ) {at low : ℕ} → at ≡ f k → low ≡ least (k - 1) f → min low at ≡ least k f
  unfolding least
  least_next zero p q = omega (arith, p, q)
  least_next (suc k) p q = let r = rw (one_less k) at q in rw (p, r) (lower (f (suc k)) (least k f))

  greatest_next : (k d : ℕ) {after end : ℕ} → after ≡ f k + d → end ≡ greatest (k - 1) f + d → max end after ≡ greatest k f + d
  unfolding greatest
  greatest_next zero d p q = omega (arith, p, q)
  greatest_next (suc k) d p q = let r = rw (one_less k) at q in rw (p, r) (higher (greatest k f) (f (suc k)) d)

-- ---- the first k pixels of a vector

module _ (size : ℕ) (v : Vector) where
  -- some byte of the pixel at a position lies outside
  abbrev position_outside : Position → Bool
  position_outside s = pixel_outside size v.depth (v.offset + s.plus) s.minus

  abbrev pub byte_at : Position → ℕ
  byte_at s = first_byte v.offset s.plus s.minus

  -- they lie inside, from byte `low` to below byte `end`
  pub record Seen (k low end : ℕ) : Type 0 where
    pub inside : some k (λ i. position_outside (position v i)) ≡ false
    pub lowest : low ≡ least (k - 1) (λ i. byte_at (position v i))
    pub highest : end ≡ greatest (k - 1) (λ i. byte_at (position v i)) + v.depth

  pub seen_none : Seen 0 v.offset (v.offset + v.depth)
  unfolding some least greatest position
  seen_none = record { inside = refl; lowest = omega arith; highest = omega arith }

  module _ (k : ℕ) {s : Position} (e : s ≡ position v k) where
    -- one pixel more
    pub seen_more : {low end low' end' : ℕ} → Seen k low end → s.minus ≤ v.offset + s.plus → byte_at s + v.depth ≤ size
        → low' ≡ min low (byte_at s) → end' ≡ max end (byte_at s + v.depth) → Seen (k + 1) low' end'
    unfolding some
    seen_more h p q l m =
        let n : k + 1 - 1 ≡ k = omega arith in
        let i : position_outside (position v k) ≡ false = rw e at (pixel_in size v.depth (v.offset + s.plus) s.minus p q) in
        record {
          inside = rw add-one (simp (h.inside, i));
          lowest = rw n (l ∙ least_next (λ i. byte_at (position v i)) k (ap byte_at e) h.lowest);
          highest = rw n (m ∙ greatest_next (λ i. byte_at (position v i)) k v.depth (ap (λ (s : Position). byte_at s + v.depth) e) h.highest);
        }

    -- a pixel outside
    module _ (l : k < v.length) (d : Depth v.depth) where
      is_outside_lem : position_outside s ≡ true → None ≡ vector_extent size v
      unfolding outside extent
      is_outside_lem h = rw (some_at v.length (λ i. position_outside (position v i)) k l (rw e at h))

      pub is_below : v.offset + s.plus < s.minus → None ≡ vector_extent size v
      is_below p = is_outside_lem (pixel_below size v.depth _ _ d p)

      pub is_above : s.minus ≤ v.offset + s.plus → size < byte_at s + v.depth → None ≡ vector_extent size v
      is_above p q = is_outside_lem (pixel_above size v.depth _ _ d p q)

  -- all of them
  pub seen_all : {k low end : ℕ} → k ≡ v.length → Depth v.depth → Seen k low end → inside low (end - 1) ≡ vector_extent size v
  unfolding outside extent
  seen_all {k} {low} {end} e d h =
      let g = rw e at h in
      let z = depth_least d in
      let q : end - 1 ≡ greatest (v.length - 1) (λ i. byte_at (position v i)) + (v.depth - 1) = omega (arith, g.highest) in
      rw (g.inside, g.lowest, q)

  -- all that is added, and all that is taken away, on the way to the last pixel leads to no byte outside
  pub is_near : (k : ℕ) {s : Position} → RangedVector v → s ≡ position v k → k + 1 ≡ v.length → s.minus ≤ v.offset
      → v.offset + s.plus + v.depth ≤ size → vector_outside size v ≡ false
  unfolding outside
  is_near k {s} r e n p q =
      some_none v.length (λ i. position_outside (position v i))
      (λ i l.
      let g : Onward ((k - i) * 65_539) (position v i) s = rw e (position_on v r i (k - i) (omega arith)) in
      pixel_in size v.depth (v.offset + (position v i).plus) (position v i).minus (omega arith) (omega arith))

  -- where each pixel of a vector that judging accepts lies
  pub drawn_inside : (k : ℕ) {s : Position} → FitVector size v → k < v.length → s ≡ position v k
      → (s.minus ≤ v.offset + s.plus) × (byte_at s + v.depth ≤ size)
  unfolding outside
  drawn_inside k f l e =
      rw e
      (pixel_facts size v.depth (v.offset + (position v k).plus) (position v k).minus f.ranged.deep
      (some_not v.length (λ i. position_outside (position v i)) k f.inside l))

  -- an extent tells whether some byte lies outside
  pub extent_tells : {e : Option Extent} → e ≡ vector_extent size v → is_outside e ≡ vector_outside size v
  extent_tells q =
      sym (extent_outside size v.depth v.length v.offset (λ k. (position v k).plus) (λ k. (position v k).minus) q)

-- ---- drawing

-- the pixel at a position
abbrev pub painted : Vector → Position → List ℕ → List ℕ
painted v s frame =
    let at = first_byte v.offset s.plus s.minus in
    store_pixel v.depth frame at (raster (8 * v.depth) v.code v.color v.foreground (read_pixel v.depth frame at))

-- what is left of n pixels from number k on after i of them and one more
pub draw_more : (v : Vector) (k n i : ℕ) {s : Position} (frame : List ℕ) → i < n → s ≡ position v (k + i)
    → vector_pixels v (k + (i + 1)) (n - (i + 1)) (painted v s frame) ≡ vector_pixels v (k + i) (n - i) frame
unfolding in_order draw_vector draw_operands vector_byte
draw_more v k n i frame l q =
    let e : n - i ≡ suc (n - (i + 1)) = omega arith in
    let d : k + (i + 1) ≡ k + i + 1 = omega arith in
    rw (e, d, q)

-- and after the last
pub draw_none : (v : Vector) (k n : ℕ) (frame : List ℕ) → n ≡ 0 → vector_pixels v k n frame ≡ frame
unfolding in_order
draw_none v k n frame e = rw e

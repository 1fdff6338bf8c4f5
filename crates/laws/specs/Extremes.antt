-- The pixels of a rectangle lie between the extremes of its two axes: its lowest byte lies `fall` below the offset, its highest
-- `rise` above it. So some byte lies outside frame memory exactly when an extreme does.
use Prim.Native.Nat.{ℕ, ◌+◌, ◌-◌, ◌*◌, ◌^◌, ◌≤◌, ◌<◌}
use Rattle.std.specs.Prelude.{◌≡◌, refl, Bool, true, false, None}
use Rattle.std.proofs.Common.{ap, subst, ⊎_elim, mul-le-mul_right, add-le-add, zero-mul, mod-lt, add-mul, ltb-true, ltb-false, lt-ltb, le-ltb, le-leb}
use native.Mathlib.Omega.{arith}
use Rattle.std.proofs.lemmas.Bool.{lt-leb}
use Rattle.model.specs.Choice.{◌<?◌}
use Rattle.model.proofs.Choice.{true_or_false, not_both, or_left, or_right}
use Rattle.model.specs.Limits.{frame_most, side_most}
use Rattle.model.specs.Bounds.{added, taken, byte_outside, outside, first_byte, extent, inside}
use Rattle.model.specs.Rectangle.{ahead, behind, plus_at, minus_at, pixel_byte, named_byte, pixels_of, plus, minus, rectangle_outside, rectangle_extent}
use Rattle.model.specs.declared.Axis.{Axis}
use Rattle.model.specs.declared.Rectangle.{Rectangle}
use Rattle.laws.specs.Some.{some_at, some_none, least_is, greatest_is}
use Rattle.laws.specs.Pixels.{depth_least, depth_most}
use Rattle.laws.specs.Ranges.{address_most, Ranged, InFrame, across_most, along_most}
use Rattle.laws.specs.Numbers.{column_is, row_is, row_lt, number_lt}

-- from the byte of a row's first pixel that the offset names to the row's other end
abbrev pub across : Rectangle → ℕ
across r = (r.columns.count - 1) * r.columns.step + (r.depth - 1)

abbrev pub fall : Rectangle → ℕ
fall r = taken r.columns.negative (across r) + behind r.rows (r.rows.count - 1)

abbrev pub rise : Rectangle → ℕ
rise r = added r.columns.negative (across r) + ahead r.rows (r.rows.count - 1)

-- a byte of frame memory, and one below or above it
byte_in : (size plus minus : ℕ) → minus ≤ plus → plus < size + minus → byte_outside size plus minus ≡ false
unfolding byte_outside
byte_in size plus minus h l = rw (le-ltb plus minus h) (lt-leb (size + minus) plus l)

byte_below : (size plus minus : ℕ) → plus < minus → byte_outside size plus minus ≡ true
unfolding byte_outside
byte_below size plus minus h = or_left (plus <? minus) _ (lt-ltb plus minus h)

byte_above : (size plus minus : ℕ) → size + minus ≤ plus → byte_outside size plus minus ≡ true
unfolding byte_outside
byte_above size plus minus h = or_right (plus <? minus) _ (le-leb (size + minus) plus h)

module _ (a : Axis) where
  -- more steps along an axis lead no less far
  steps_le : {n m : ℕ} → n ≤ m → (ahead a n ≤ ahead a m) × (behind a n ≤ behind a m)
  steps_le {n} {m} h = go a.negative
    where
      go : (negative : Bool)
          → (added negative (n * a.step) ≤ added negative (m * a.step)) × (taken negative (n * a.step) ≤ taken negative (m * a.step))
      go true = (omega arith, mul-le-mul_right a.step h)
      go false = (mul-le-mul_right a.step h, omega arith)

  -- of n + 1 columns or rows, number `added negative n` lies highest and number `taken negative n` lowest
  highest : (n : ℕ) → let x = added a.negative n in (x ≤ n) × (ahead a x ≡ ahead a n) × (behind a x ≡ 0)
  highest n = go a.negative
    where
      go : (negative : Bool) → let x = added negative n in
          (x ≤ n) × (added negative (x * a.step) ≡ added negative (n * a.step)) × (taken negative (x * a.step) ≡ 0)
      go true = (omega arith, refl, zero-mul a.step)
      go false = (omega arith, refl, refl)

  lowest : (n : ℕ) → let x = taken a.negative n in (x ≤ n) × (ahead a x ≡ 0) × (behind a x ≡ behind a n)
  lowest n = go a.negative
    where
      go : (negative : Bool) → let x = taken negative n in
          (x ≤ n) × (added negative (x * a.step) ≡ 0) × (taken negative (x * a.step) ≡ taken negative (n * a.step))
      go true = (omega arith, refl, refl)
      go false = (omega arith, zero-mul a.step, refl)

-- the steps to the last column of the last row
abbrev last_plus : Rectangle → ℕ
last_plus r = plus_at r (r.columns.count - 1) (r.rows.count - 1)

abbrev last_minus : Rectangle → ℕ
last_minus r = minus_at r (r.columns.count - 1) (r.rows.count - 1)

-- fall and rise by those steps: the highest pixel, too, begins `named_byte` before where its steps lead
extremes : (r : Rectangle) → (fall r ≡ last_minus r) × (rise r + named_byte r ≡ last_plus r + (r.depth - 1))
extremes r = ⊎_elim (λ e. rw e (omega arith, omega arith)) (λ e. rw e (omega arith, omega arith)) (true_or_false r.columns.negative)

-- some pixel with these steps ahead and behind
abbrev Pixel : Rectangle → ℕ → ℕ → Type 0
Pixel r p m = (k : ℕ) × (k < pixels_of r) × (plus r k ≡ p) × (minus r k ≡ m)

module _ (r : Rectangle) (ranged : Ranged r) where
  pixel_at : {i j : ℕ} → i ≤ r.columns.count - 1 → j ≤ r.rows.count - 1 → Pixel r (plus_at r i j) (minus_at r i j)
  pixel_at {i} {j} p q =
      let w = r.columns.count in
      let l : i < w = omega (arith, ranged.wide) in
      let c = column_is w j i l in
      let d = row_is w j i l in
      (j * w + i, number_lt w r.rows.count j i l (omega (arith, ranged.high)), rw (c, d), rw (c, d))

  highest_pixel : Pixel r (last_plus r) (named_byte r)
  highest_pixel =
      let x = highest r.columns (r.columns.count - 1) in
      let y = highest r.rows (r.rows.count - 1) in
      let z : 0 + named_byte r ≡ named_byte r = omega arith in
      rw z at (rw (x.1, y.1, x.2, y.2) at (pixel_at x.0 y.0))

  lowest_pixel : Pixel r 0 (last_minus r)
  lowest_pixel =
      let x = lowest r.columns (r.columns.count - 1) in
      let y = lowest r.rows (r.rows.count - 1) in
      rw (x.1, y.1, x.2, y.2) at (pixel_at x.0 y.0)

  -- every pixel lies between the two
  most : (i j : ℕ) → i < r.columns.count → j < r.rows.count → (plus_at r i j ≤ last_plus r) × (minus_at r i j ≤ last_minus r)
  most i j p q =
      let x = steps_le r.columns {n = i} {m = r.columns.count - 1} (omega arith) in
      let y = steps_le r.rows {n = j} {m = r.rows.count - 1} (omega arith) in
      (add-le-add x.0 y.0, add-le-add (add-le-add x.1 y.1) (omega arith))

  all_most : (k : ℕ) → k < pixels_of r → (plus r k ≤ last_plus r) × (minus r k ≤ last_minus r)
  all_most k l = most _ _ (mod-lt k ranged.wide) (row_lt r.columns.count r.rows.count k ranged.wide l)

  module _ (size : ℕ) where
    low_out : r.offset < fall r → rectangle_outside size r ≡ true
    unfolding outside
    low_out h =
        let x = lowest_pixel in
        let e = extremes r in
        some_at (pixels_of r) _ x.0 x.1
        (some_at r.depth _ 0 (depth_least ranged.deep)
        (byte_below size (r.offset + plus r x.0 + 0) (minus r x.0) (omega (arith, x.2, x.3))))

    high_out : size ≤ r.offset + rise r → rectangle_outside size r ≡ true
    unfolding outside
    high_out h =
        let x = highest_pixel in
        let d = depth_least ranged.deep in
        let e = extremes r in
        some_at (pixels_of r) _ x.0 x.1
        (some_at r.depth _ (r.depth - 1) (omega arith)
        (byte_above size (r.offset + plus r x.0 + (r.depth - 1)) (minus r x.0) (omega (arith, x.2, x.3))))

    all_in : fall r ≤ r.offset → r.offset + rise r < size → rectangle_outside size r ≡ false
    unfolding outside
    all_in low high =
        let e = extremes r in
        some_none (pixels_of r) _
        (λ k l.
        let m = all_most k l in
        some_none r.depth _
        (λ i d. byte_in size (r.offset + plus r k + i) (minus r k) (omega arith) (omega arith)))

    -- so where it lies in frame memory, the extremes do
    in_low : rectangle_outside size r ≡ false → fall r ≤ r.offset
    in_low inside =
        ⊎_elim (λ e. absurd (not_both _ (low_out (ltb-true _ _ e)) inside)) (λ e. ltb-false _ _ e)
        (true_or_false (r.offset <? fall r))

    in_high : rectangle_outside size r ≡ false → r.offset + rise r < size
    in_high inside =
        ⊎_elim (λ e. ltb-true _ _ e) (λ e. absurd (not_both _ (high_out (ltb-false _ _ e)) inside))
        (true_or_false (r.offset + rise r <? size))

    -- ---- its extent

    pub extent_below : r.offset < fall r → rectangle_extent size r ≡ None
    unfolding extent
    extent_below h = rw (low_out h)

    pub extent_above : size ≤ r.offset + rise r → rectangle_extent size r ≡ None
    unfolding extent
    extent_above h = rw (high_out h)

    pub extent_in : fall r ≤ r.offset → r.offset + rise r < size
        → rectangle_extent size r ≡ inside (r.offset - fall r) (r.offset + rise r)
    unfolding extent
    extent_in low high =
        let at : ℕ → ℕ = λ k. first_byte r.offset (plus r k) (minus r k) in
        let x = lowest_pixel in
        let y = highest_pixel in
        let e = extremes r in
        let top : r.offset + last_plus r - named_byte r + (r.depth - 1) ≡ r.offset + rise r = omega arith in
        rw (
          all_in low high,
          least_is at (r.offset - fall r) (pixels_of r - 1) x.0 (omega (arith, x.1)) (omega (arith, x.2, x.3))
              (λ k l. let m = all_most k (omega (arith, x.1)) in omega arith),
          greatest_is at (r.offset + last_plus r - named_byte r) (pixels_of r - 1) y.0 (omega (arith, y.1)) (omega (arith, y.2, y.3))
              (λ k l. let m = all_most k (omega (arith, y.1)) in omega arith),
          top,
        )

-- ---- a pixel of a rectangle that lies in frame memory

-- column i of row j is a pixel and its first byte is no byte below 0
pub record Reached (r : Rectangle) (i j : ℕ) : Type 0 where
  pub ranged : Ranged r
  pub column : i < r.columns.count
  pub row : j < r.rows.count
  pub low : minus_at r i j ≤ r.offset + plus_at r i j

-- and all of its bytes lie in a frame memory of `size` bytes
pub record Within (size : ℕ) (r : Rectangle) (i j : ℕ) : Type 0 where
  pub reached : Reached r i j
  pub bytes_in : pixel_byte r i j + r.depth ≤ size

pub within : {size : ℕ} {r : Rectangle} → InFrame size r → {i j : ℕ} → i < r.columns.count → j < r.rows.count → Within size r i j
unfolding pixel_byte
within {size} {r} f {i} {j} p q =
    let m = most r f.ranged i j p q in
    let low = in_low r f.ranged size f.inside in
    let high = in_high r f.ranged size f.inside in
    let e = extremes r in
    record {
      reached = record { ranged = f.ranged; column = p; row = q; low = omega arith };
      bytes_in = omega (arith, depth_least f.ranged.deep);
    }

-- the numbers on the way to a pixel are small
abbrev pub Small : Rectangle → (i j : ℕ) → Type 0
Small r i j =
    (i * r.columns.step ≤ side_most * 4) × (j * r.rows.step ≤ side_most * 65_535) × (0 < r.depth) × (r.depth ≤ 4) × (r.offset < address_most)

small : {r : Rectangle} → Ranged r → (i j : ℕ) → i < r.columns.count → j < r.rows.count → Small r i j
small g i j p q = (across_most g i (omega arith), along_most g j q, depth_least g.deep, depth_most g.deep, g.offset_most)

pub small_reached : {r : Rectangle} {i j : ℕ} → Reached r i j → Small r i j
small_reached {i = i} {j} p = small p.ranged i j p.column p.row

pub small_last : {r : Rectangle} → Ranged r → Small r (r.columns.count - 1) (r.rows.count - 1)
small_last g = small g _ _ (omega (arith, g.wide)) (omega (arith, g.high))

-- m columns on in the same row, further or back
pub byte_on : {r : Rectangle} {a : Axis} → r.columns ≡ a → {i j : ℕ} (m : ℕ) → Reached r i j → Reached r (i + m) j
    → pixel_byte r (i + m) j + behind a m ≡ pixel_byte r i j + ahead a m
unfolding pixel_byte
byte_on {r} columns {i} {j} m x y =
    subst (λ (a : Axis). pixel_byte r (i + m) j + behind a m ≡ pixel_byte r i j + ahead a m) columns
    (let s = add-mul i m r.columns.step in
    ⊎_elim
    (λ e. let p = rw e at x.low in let q = rw e at y.low in rw e (omega arith))
    (λ e. let p = rw e at x.low in let q = rw e at y.low in rw e (omega arith))
    (true_or_false r.columns.negative))

-- m rows on in the same column
row_on : {r : Rectangle} {i j : ℕ} (m : ℕ) → Reached r i j → Reached r i (j + m)
    → pixel_byte r i (j + m) + behind r.rows m ≡ pixel_byte r i j + ahead r.rows m
unfolding pixel_byte
row_on {r} {i} {j} m x y =
    let s = add-mul j m r.rows.step in
    ⊎_elim
    (λ e. let p = rw e at x.low in let q = rw e at y.low in rw e (omega arith))
    (λ e. let p = rw e at x.low in let q = rw e at y.low in rw e (omega arith))
    (true_or_false r.rows.negative)

-- one step along an axis leads from byte `at` to byte `next`, unless it leads below byte 0
pub record Follows (a : Axis) (at next : ℕ) : Type 0 where
  pub leads : behind a 1 ≤ at + ahead a 1 → next + behind a 1 ≡ at + ahead a 1

-- so to the same column of the next row
pub follows_row : {r : Rectangle} {i j : ℕ} → Reached r i j → Reached r i (j + 1) → {at next : ℕ} → at ≡ pixel_byte r i j
    → Follows r.rows at next → (next ≡ pixel_byte r i (j + 1)) × (next + behind r.rows 1 ≡ at + ahead r.rows 1)
follows_row x y e f =
    let on = row_on 1 x y in
    let g = f.leads (omega arith) in
    (omega arith, g)

-- a walk of m steps along an axis from byte `start` whose sums fit
pub record Along (a : Axis) (start m : ℕ) : Type 0 where
  pub near : start < 2 ^ 32
  pub steps_near : m * a.step < 2 ^ 32
  pub back : behind a m ≤ start + ahead a m

-- it leads from one column of a row to another
module _ {size : ℕ} (small : size ≤ frame_most) {r : Rectangle} {a : Axis} (columns : r.columns ≡ a) {i j : ℕ} (m : ℕ)
    (p : Within size r i j) (q : Within size r (i + m) j) {start : ℕ} (starts : start ≡ pixel_byte r i j) where
  pub along : Along a start m
  along =
      let most = across_most p.reached.ranged m (omega (arith, q.reached.column)) in
      record {
        near = omega (arith, p.bytes_in);
        steps_near = omega (arith, ap (λ (x : Axis). m * x.step) columns);
        back = omega (arith, byte_on columns m p.reached q.reached);
      }

  pub along_at : {at : ℕ} → at ≡ start + ahead a m - behind a m → at ≡ pixel_byte r (i + m) j
  along_at e = omega (arith, byte_on columns m p.reached q.reached)

-- n pixels of one row of a rectangle, by their places from the lowest byte up: with X negative the last column lies lowest.
use Rattle.std.specs.Prelude.{ℕ, suc, ◌+◌, ◌-◌, ◌*◌, ◌^◌, ◌≤◌, ◌<◌, ◌≡◌, refl, Bool, true, false, if◌then◌else◌}
use Rattle.std.proofs.Common.{sym, arith, suc-mul}
use Rattle.model.specs.Limits.{frame_most}
use Rattle.model.specs.Bounds.{added, taken}
use Rattle.model.specs.Rectangle.{ahead, behind, pixel_byte}
use Rattle.model.specs.declared.Blt.{Blt}
use Rattle.model.specs.declared.Rectangle.{Rectangle}
use Rattle.model.specs.declared.Source.TheVariants.{Frame}
use Rattle.laws.specs.Ranges.{InFrame}
use Rattle.laws.specs.Extremes.{Reached, Within, within, byte_on, Follows, follows_row}
use Rattle.laws.specs.Rows.{Row}

-- of n columns from column i, the one that lies lowest
abbrev pub low_column : Bool → (i n : ℕ) → ℕ
low_column negative i n = if negative then i + (n - 1) else i

-- and the one at place x from there up
abbrev pub column_at : Bool → (i n x : ℕ) → ℕ
column_at negative i n x = if negative then i + (n - 1 - x) else i + x

-- the place of the lowest of c of them, from number m on
abbrev pub low_place : Bool → (n m c : ℕ) → ℕ
low_place negative n m c = if negative then n - m - c else m

-- the lowest byte of n pixels of row j, from column i
abbrev pub low_byte : Rectangle → (i j n : ℕ) → ℕ
low_byte q i j n = pixel_byte q (low_column q.columns.negative i n) j

-- they are pixels of a rectangle that lies in frame memory
pub record Span (size : ℕ) (q : Rectangle) (i j n : ℕ) : Type 0 where
  pub fit : InFrame size q
  pub columns : i + n ≤ q.columns.count
  pub row : j < q.rows.count
  pub some : 0 < n

module _ {size : ℕ} {b : Blt} {i j n : ℕ} (r : Row size b i j n) (z : 0 < n) where
  pub destination_span : Span size b.destination i j n
  destination_span = record { fit = r.fit.destination_fit; columns = r.columns; row = r.row; some = z }

  pub source_span : {q : Rectangle} → b.source ≡ Frame q → Span size q i j n
  source_span e =
      let f = rw e at r.fit.source_fit in
      record { fit = f.0; columns = rw f.1.columns_same r.columns; row = rw f.1.rows_same.0 r.row; some = z }

module _ {size : ℕ} {q : Rectangle} {i j n : ℕ} (s : Span size q i j n) where
  pub span_within : {x : ℕ} → x < i + n → Within size q x j
  span_within l = within s.fit (omega (arith, s.columns)) s.row

  -- m columns on from column x: m pixels further, or back
  on_row : (x m : ℕ) → x + m < i + n → (negative : Bool) → q.columns.negative ≡ negative
      → pixel_byte q (x + m) j + taken negative (m * q.depth) ≡ pixel_byte q x j + added negative (m * q.depth)
  on_row x m l negative e =
      let columns : q.columns ≡ record { count = q.columns.count; step = q.depth; negative = negative } =
      rw (s.fit.ranged.pixels_on, e) in
      byte_on columns m (span_within (omega arith)).reached (span_within l).reached

  low_in : (negative : Bool) → low_column negative i n < i + n
  low_in true = omega (arith, s.some)
  low_in false = omega (arith, s.some)

  pub low_reached : Reached q (low_column q.columns.negative i n) j
  low_reached = (span_within (low_in q.columns.negative)).reached

  -- what the code that finds the lowest byte asks
  pub low_asked : (0 < n) × (i + n < 2 ^ 32) × (Reached q (low_column q.columns.negative i n) j)
  low_asked = (s.some, omega (arith, s.columns, s.fit.ranged.wide_most), low_reached)

  -- the byte of the pixel at place x
  pub place_byte : {a : ℕ} → a ≡ low_byte q i j n → (x : ℕ) → x < n
      → pixel_byte q (column_at q.columns.negative i n x) j ≡ a + x * q.depth
  place_byte low x l = rw low (go q.columns.negative refl)
    where
      go : (negative : Bool) → q.columns.negative ≡ negative
          → pixel_byte q (column_at negative i n x) j ≡ pixel_byte q (low_column negative i n) j + x * q.depth
      go true e =
          let c : i + (n - 1 - x) + x ≡ i + (n - 1) = omega arith in
          omega (arith, rw c at (on_row (i + (n - 1 - x)) x (omega arith) true e))
      go false e = omega (arith, on_row i x (omega arith) false e)

  -- the lowest byte of c of them, from number m on
  pub low_part : {a : ℕ} → a ≡ low_byte q i j n → (m c : ℕ) → 0 < c → m + c ≤ n
      → a + low_place q.columns.negative n m c * q.depth ≡ low_byte q (i + m) j c
  low_part low m c z l =
      let p = go q.columns.negative in
      sym (rw p.1 at (place_byte low (low_place q.columns.negative n m c) p.0))
    where
      go : (negative : Bool)
          → (low_place negative n m c < n) × (column_at negative i n (low_place negative n m c) ≡ low_column negative (i + m) c)
      go true = (omega arith, omega arith)
      go false = (omega arith, refl)

  -- their bytes
  pub bytes_in : {a : ℕ} → a ≡ low_byte q i j n → a + n * q.depth ≤ size
  bytes_in {a} low =
      let p : suc (n - 1) ≡ n = omega (arith, s.some) in
      let all = rw p at (suc-mul (n - 1) q.depth) in
      omega (arith, all, place_byte low (n - 1) (omega (arith, s.some)), last q.columns.negative)
    where
      last : (negative : Bool) → pixel_byte q (column_at negative i n (n - 1)) j + q.depth ≤ size
      last true = (span_within {x = i + (n - 1 - (n - 1))} (omega (arith, s.some))).bytes_in
      last false = (span_within {x = i + (n - 1)} (omega (arith, s.some))).bytes_in

  -- the lowest byte of as many in the next row
  pub low_on : Span size q i (j + 1) n → {at next : ℕ} → at ≡ low_byte q i j n → Follows q.rows at next
      → (next ≡ low_byte q i (j + 1) n) × (next + behind q.rows 1 ≡ at + ahead q.rows 1)
  low_on t =
      let low = low_column q.columns.negative i n in
      follows_row low_reached (within t.fit {i = low} (omega (arith, low_in q.columns.negative, t.columns)) t.row).reached

  -- what the code that goes on to that row asks
  pub on_asked : size ≤ frame_most → {at : ℕ} → at ≡ low_byte q i j n → (at < 2 ^ 32) × (q.rows.step < 2 ^ 32)
  on_asked small low = (omega (arith, bytes_in low), omega (arith, s.fit.ranged.stride_most))

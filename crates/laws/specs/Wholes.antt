-- Whole rows of a BLT, one after the other: the bytes of each lie one step along the axis of rows from those of the last.
use Rattle.std.specs.Prelude.{ℕ, ◌+◌, ◌-◌, ◌*◌, ◌≤◌, ◌<◌, ◌≡◌, List, length}
use Rattle.std.proofs.Common.{sym, ◌∙◌, arith}
use Rattle.model.specs.Rectangle.{ahead, behind, column_of, row_of}
use Rattle.model.specs.declared.Blt.{Blt}
use Rattle.model.specs.declared.Rectangle.{Rectangle}
use Rattle.model.specs.declared.Source.TheVariants.{Frame}
use Rattle.model.specs.BltPixel.{draw_blt}
use Rattle.laws.specs.Numbers.{row_lt}
use Rattle.laws.specs.Extremes.{Follows}
use Rattle.laws.specs.Rows.{Row, row_pixels, Band, ByRows, Part, rows_all, rows_part, rows_next}
use Rattle.laws.specs.Lows.{low_byte, destination_span, source_span, low_on}
use Rattle.laws.specs.Moves.{Clear, clear_on}

-- the pixels of a row of a BLT
abbrev pub wide : Blt → ℕ
wide b = b.destination.columns.count

-- where another whole row is left, row j begins at byte `at` of a rectangle
abbrev pub Begins : Blt → Rectangle → (left j at : ℕ) → Type 0
Begins b q left j at = wide b ≤ left → at ≡ low_byte q 0 j (wide b)

-- and a copy of it meets no byte that it has overwritten
abbrev pub Freely : Blt → (left from to : ℕ) → Type 0
Freely b left from to = wide b ≤ left → Clear b.destination.columns.negative from to (wide b * b.destination.depth)

-- from a pixel that begins a row
pub wholes_all : {size : ℕ} {b : Blt} {k n : ℕ} → Band size b k n → column_of b.destination k ≡ 0 → (frame : List ℕ)
    → ByRows (draw_blt b) b k n frame 0 (row_of b.destination k) 0 frame
wholes_all {b = b} {k} {n} a e frame = rw e at (rows_all {draw = draw_blt b} a.fit {k = k} {n = n} frame)

pub wholes_some : {size : ℕ} {b : Blt} {k n : ℕ} → Band size b k n → 0 < wide b
wholes_some a = a.fit.destination_fit.ranged.wide

-- the first of them
pub wholes_first : {size : ℕ} {b : Blt} {k n : ℕ} → Band size b k n → wide b ≤ n → Row size b 0 (row_of b.destination k) (wide b)
wholes_first {b = b} {k} a l =
    record {
      fit = a.fit;
      columns = omega arith;
      row = row_lt _ b.destination.rows.count k (wholes_some a) (omega (arith, a.inside, wholes_some a));
      small = a.small;
    }

-- and any of them, where so many pixels are left
whole_part : {size : ℕ} {b : Blt} {k n : ℕ} → Band size b k n → (m : ℕ) → wide b ≤ n - m → Part (wide b) n 0 m (wide b)
whole_part a m l = record { some = wholes_some a; within = omega arith; left = l; whole = λ p. omega arith }

module _ {b : Blt} {k n : ℕ} {first : List ℕ} {j m : ℕ} {frame : List ℕ} (r : ByRows (draw_blt b) b k n first 0 j m frame)
    (a : Band (length first) b k n) (l : wide b ≤ n - m) where
  -- the row that is next
  pub wholes_row : Row (length frame) b 0 j (wide b)
  wholes_row = rows_part r (whole_part a m l) a

  module _ {next : List ℕ} (e : next ≡ row_pixels b 0 j (wide b) frame) where
    -- after it
    pub wholes_next : ByRows (draw_blt b) b k n first 0 (j + 1) (m + wide b) next
    wholes_next = rows_next r (whole_part a m l) e

    module _ (more : wide b ≤ n - (m + wide b)) where
      after : Row (length frame) b 0 (j + 1) (wide b)
      after = rw (wholes_next.remain.same ∙ sym r.remain.same) at (rows_part wholes_next (whole_part a (m + wide b) more) a)

      to_on : {to to' : ℕ} → to ≡ low_byte b.destination 0 j (wide b) → Follows b.destination.rows to to'
          → (to' ≡ low_byte b.destination 0 (j + 1) (wide b)) × (to' + behind b.destination.rows 1 ≡ to + ahead b.destination.rows 1)
      to_on = low_on (destination_span wholes_row (wholes_some a)) (destination_span after (wholes_some a))

      from_on : {s : Rectangle} → b.source ≡ Frame s → {from from' : ℕ} → from ≡ low_byte s 0 j (wide b) → Follows s.rows from from'
          → (from' ≡ low_byte s 0 (j + 1) (wide b)) × (from' + behind s.rows 1 ≡ from + ahead s.rows 1)
      from_on f = low_on (source_span wholes_row (wholes_some a) f) (source_span after (wholes_some a) f)

    -- its bytes, and those of its source
    pub destination_next : {to to' : ℕ} → to ≡ low_byte b.destination 0 j (wide b) → Follows b.destination.rows to to'
        → Begins b b.destination (n - (m + wide b)) (j + 1) to'
    destination_next t f more = (to_on more t f).0

    module _ {s : Rectangle} (f : b.source ≡ Frame s) {from from' : ℕ} (g : from ≡ low_byte s 0 j (wide b)) (h : Follows s.rows from from') where
      pub source_next : Begins b s (n - (m + wide b)) (j + 1) from'
      source_next more = (from_on more f g h).0

      -- where both go on by as much, what was clear is clear
      pub freely_next : {to to' : ℕ} → to ≡ low_byte b.destination 0 j (wide b) → Follows b.destination.rows to to'
          → s.rows.step ≡ b.destination.rows.step
          → Clear b.destination.columns.negative from to (wide b * b.destination.depth) → Freely b (n - (m + wide b)) from' to'
      freely_next t u same clear more =
          let matches = (rw f at a.fit.source_fit).1 in
          clear_on b.destination.columns.negative _ _ _ _ _ _ _ (rw (matches.rows_same.1, same) at (from_on more f g h).1) (to_on more t u).1 clear

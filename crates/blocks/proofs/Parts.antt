-- One whole row of a BLT and the row after it: where they lie, and what is asked where that is found.
use Prim.Native.Nat.{ℕ, ◌+◌, ◌*◌, ◌<◌, ◌^◌}
use Rattle.std.specs.Prelude.{◌≡◌}
use Rattle.model.specs.declared.Blt.{Blt}
use Rattle.model.specs.declared.Rectangle.{Rectangle}
use Rattle.model.specs.declared.Source.TheVariants.{Frame}
use Rattle.model.specs.Rectangle.{ahead, behind}
use Rattle.laws.specs.Extremes.{Reached, Follows}
use Rattle.laws.specs.Lows.{low_byte, low_column, destination_span, source_span, low_asked, low_on, on_asked}
use Rattle.laws.specs.Moves.{Clear, clear_on}
use Rattle.laws.specs.Rows.{Row}
use Rattle.laws.specs.Wholes.{wide}

module _ {size : ℕ} {b : Blt} {j : ℕ} (r : Row size b 0 j (wide b)) where
  pub some : 0 < wide b
  some = r.fit.destination_fit.ranged.wide

  pub asked_low : (0 < wide b) × (0 + wide b < 2 ^ 32) × (Reached b.destination (low_column b.destination.columns.negative 0 (wide b)) j)
  asked_low = low_asked (destination_span r some)

  pub asked_next : {to : ℕ} → to ≡ low_byte b.destination 0 j (wide b) → (to < 2 ^ 32) × (b.destination.rows.step < 2 ^ 32)
  asked_next = on_asked (destination_span r some) r.small

  module _ {s : Rectangle} (f : b.source ≡ Frame s) where
    pub asked_low_source : (0 < wide b) × (0 + wide b < 2 ^ 32) × (Reached s (low_column s.columns.negative 0 (wide b)) j)
    asked_low_source = low_asked (source_span r some f)

    pub asked_next_source : {from : ℕ} → from ≡ low_byte s 0 j (wide b) → (from < 2 ^ 32) × (s.rows.step < 2 ^ 32)
    asked_next_source = on_asked (source_span r some f) r.small

  module _ (after : Row size b 0 (j + 1) (wide b)) {to to' : ℕ} (t : to ≡ low_byte b.destination 0 j (wide b)) (u : Follows b.destination.rows to to') where
    to_on : (to' ≡ low_byte b.destination 0 (j + 1) (wide b)) × (to' + behind b.destination.rows 1 ≡ to + ahead b.destination.rows 1)
    to_on = low_on (destination_span r some) (destination_span after some) t u

    pub low_next : to' ≡ low_byte b.destination 0 (j + 1) (wide b)
    low_next = to_on.0

    -- of a copy, whose source goes on by as much: what was clear is clear
    module _ {s : Rectangle} (f : b.source ≡ Frame s) (same : s.rows.step ≡ b.destination.rows.step) {from from' : ℕ}
        (g : from ≡ low_byte s 0 j (wide b)) (h : Follows s.rows from from') where
      from_on : (from' ≡ low_byte s 0 (j + 1) (wide b)) × (from' + behind s.rows 1 ≡ from + ahead s.rows 1)
      from_on = low_on (source_span r some f) (source_span after some f) g h

      pub copy_next : Clear b.destination.columns.negative from to (wide b * b.destination.depth)
          → (from' ≡ low_byte s 0 (j + 1) (wide b)) × (to' ≡ low_byte b.destination 0 (j + 1) (wide b))
          × (s.rows.step ≡ b.destination.rows.step) × (Clear b.destination.columns.negative from' to' (wide b * b.destination.depth))
      copy_next clear =
          let matches = (rw f at r.fit.source_fit).1 in
          (from_on.0, to_on.0, same, clear_on b.destination.columns.negative _ _ _ _ _ _ _ (rw (matches.rows_same.1, same) at from_on.1) to_on.1 clear)

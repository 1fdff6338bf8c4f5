-- Rows as parts of a span of pixels, whatever draws them.
use Prim.Native.Nat.{ℕ, ◌+◌, ◌-◌, ◌<◌}
use Rattle.std.specs.Prelude.{◌≡◌, List, length, min}
use Rattle.std.proofs.Common.{◌∙◌, arith}
use Rattle.model.specs.Rectangle.{column_of}
use Rattle.model.specs.declared.Blt.{Blt}
use Rattle.laws.specs.Numbers.{column_add, row_add}
use Rattle.laws.specs.Order.{in_order, order_same}
use Rattle.laws.specs.Rows.{ByRows, Part, rows_after}
use Rattle.bands.specs.Numbered.{numbered, AskedInRow, Asked}

-- a row, and the rows after it, of pixels that are drawn by column and row
pub rows_at : (at : ℕ → ℕ → List ℕ → List ℕ) → ((i j : ℕ) (frame : List ℕ) → length (at i j frame) ≡ length frame)
    → {b : Blt} {k n : ℕ} {first : List ℕ} {i j m : ℕ} {frame : List ℕ}
    → ByRows (numbered b at) b k n first i j m frame
    → {c : ℕ} → Part b.destination.columns.count n i m c → {next : List ℕ} → next ≡ in_order (λ x. at x j) i c frame
    → ByRows (numbered b at) b k n first 0 (j + 1) (m + c) next
rows_at at keeps {b} {k} {m = m} {frame} r {c} p e =
    rows_after r p (λ k. keeps _ _)
    (λ l x y.
    e ∙ rw (x, y)
    (order_same _ (numbered b at) c _ (k + m)
    (λ q h frame.
    let w = b.destination.columns.count in
    rw (column_add w (k + m) q (omega arith), row_add w (k + m) q (omega arith))) frame))

-- what is asked of a row's pixels, of the pixels of the whole
pub asked_part : (Asks : (i j : ℕ) → Type 0) {draw : ℕ → List ℕ → List ℕ} {b : Blt} {k n : ℕ} {first : List ℕ} {i j m : ℕ} {frame : List ℕ}
    → Asked b Asks k n → ByRows draw b k n first i j m frame → {c : ℕ} → Part b.destination.columns.count n i m c
    → AskedInRow Asks i j c
asked_part Asks {b = b} {k} {n} {i = i} {j} {m} asked r p x l =
    let w = b.destination.columns.count in
    let more : m < n = omega (arith, p.some, p.left) in
    let e = r.column more in
    let f = r.row more in
    let s : column_of b.destination (k + m) + x < w = omega (arith, p.within, r.narrow) in
    let y : k + (m + x) ≡ k + m + x = omega arith in
    rw (e, f, ← column_add w (k + m) x s, ← row_add w (k + m) x s, ← y) (asked (m + x) (omega (arith, p.left)))

-- as many as are left of the row, or at all
pub part_least : {width n i m c : ℕ} → i < width → m < n → c ≡ min (width - i) (n - m) → Part width n i m c
part_least narrow more e =
    record { some = omega arith; within = omega arith; left = omega arith; whole = λ l. omega arith }

-- and of the pixels after the first m
pub asked_rest : (Asks : (i j : ℕ) → Type 0) (b : Blt) (k : ℕ) {n : ℕ} → Asked b Asks k n → (m : ℕ) → Asked b Asks (k + m) (n - m)
asked_rest Asks b k asked m x l =
    let y : k + (m + x) ≡ k + m + x = omega arith in
    rw (← y) (asked (m + x) (omega arith))

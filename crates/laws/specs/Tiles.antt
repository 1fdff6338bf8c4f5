-- Colour patterns: the tile in the lookup table, as eight rows of eight colours, and the pixels of a BLT that has one.
use Prim.Native.Nat.{ℕ, zero, suc, ◌+◌, ◌-◌, ◌*◌, ◌/◌, ◌%◌, ◌^◌, ◌≤◌, ◌<◌}
use Rattle.std.specs.Prelude.{◌≡◌, Bool, true, false, ◌&&◌, length, get_or, take, set, Option, Some, None}
use Rattle.std.proofs.Math.Path.{refl}
use Rattle.std.proofs.Common.{sym, ap, ◌∙◌, arith, le_refl, mod-lt, add-mul, mul-le-mul_left, mul-le-mul_right, div-mul-le_self, add-one, shr-shr, take_all, take-suc-set, get_or-append-add, ltb-true, ltb-false}
use mathlib.Core.List.{List, [], ◌∷◌, ◌++◌}
use Rattle.std.proofs.Math.ListN.{length-append, get_or-append}
use Rattle.std.proofs.lemmas.Nat.{mod-pow-add}
use Rattle.model.specs.Choice.{◌<?◌, ◌=?◌}
use Rattle.model.proofs.Choice.{if_both}
use Rattle.model.specs.Registers.{pattern_mode, channel3_enable, channel3_pattern_mode}
use Rattle.model.specs.Formats.{Depth}
use Rattle.model.specs.Pattern.{pattern_index}
use Rattle.model.specs.Lookup.{tile_word, tile_byte, tile_value, tile_color}
use Rattle.model.specs.Rectangle.{column_of, row_of}
use Rattle.model.specs.BltPixel.{color_pattern_of, blt_of, with_color, color_at, blt_at, draw_at, draw_blt, draw_tiled, tile_from}
use Rattle.model.specs.Unit.{draw_pixel}
use Rattle.model.specs.declared.Blt.{Blt}
use Rattle.model.specs.declared.TileOrigin.{TileOrigin}
use Rattle.model.specs.declared.Primitive.TheVariants.{Blt as BltPrimitive}
use Rattle.model.specs.declared.Rectangle.{Rectangle}
use Rattle.laws.specs.Numbers.{column_add, row_add}
use Rattle.laws.specs.Pixels.{depth_least}
use Rattle.laws.specs.Order.{in_order, blt_pixels, pixels, order_same}
use Rattle.laws.specs.Ranges.{FitBlt}
use Rattle.laws.specs.Rows.{length_at, PixelOf, ByRows, Part, rows_after}
use Rattle.laws.specs.Lows.{low_column, column_at}
use Rattle.laws.specs.Changes.{ChangesBy}
use Rattle.laws.specs.Eights.{Round}
use Rattle.laws.specs.Plain.{Plain, fill_changes, column_rises}

-- ---- a colour of the tile

-- some bytes of one word, the first of which is byte number r
bytes_of : (n : ℕ) (table : List ℕ) (q r : ℕ) → r + n ≤ 4
    → tile_value n table (4 * q + r) ≡ get_or table (tile_word + q) 0 / 2 ^ (8 * r) % 2 ^ (8 * n)
unfolding tile_value tile_byte
bytes_of zero table q r l = let z : get_or table (tile_word + q) 0 / 2 ^ (8 * r) % 1 ≡ 0 = omega arith in sym z
bytes_of (suc n) table q r l =
    let w = get_or table (tile_word + q) 0 in
    let a : (4 * q + r) / 4 ≡ q = omega arith in
    let b : (4 * q + r) % 4 ≡ r = omega arith in
    let c : 8 * r + 7 + 1 - 8 * r ≡ 8 = omega arith in
    let d : 4 * q + r + 1 ≡ 4 * q + (r + 1) = omega arith in
    let e : 8 * (r + 1) ≡ 8 * r + 8 = omega arith in
    let f : 8 * suc n ≡ 8 * n + 8 = omega arith in
    let i = bytes_of n table q (r + 1) (omega arith) in
    rw (a, b, c, d, i, e, ← shr-shr w (8 * r) 8, f, mod-pow-add (w / 2 ^ (8 * r)) (8 * n) 8) (omega arith)

-- where the colour of a row and a column begins
abbrev pub color_byte : (depth row column : ℕ) → ℕ
color_byte depth row column = (8 * row + column) * depth

-- it lies in the tile's 256 bytes
pub color_byte_most : {depth row column : ℕ} → Depth depth → row < 8 → column < 8 → color_byte depth row column + depth ≤ 256
color_byte_most Depth.one r c = omega arith
color_byte_most Depth.two r c = omega arith
color_byte_most Depth.four r c = omega arith

-- no colour runs across a word's end, so it is low bytes of its word moved down
pub tile_color_lem : {depth : ℕ} → Depth depth → (table : List ℕ) (row column : ℕ)
    → get_or table (tile_word + color_byte depth row column / 4) 0 / 2 ^ (8 * (color_byte depth row column % 4)) % 2 ^ (8 * depth)
    ≡ tile_color depth table row column
unfolding tile_color
tile_color_lem {depth} deep table row column =
    let at = color_byte depth row column in
    let e : 4 * (at / 4) + at % 4 ≡ at = omega arith in
    sym (rw e at (bytes_of depth table (at / 4) (at % 4) (in_word deep)))
  where
    in_word : {depth : ℕ} → Depth depth → color_byte depth row column % 4 + depth ≤ 4
    in_word Depth.one = omega arith
    in_word Depth.two = omega arith
    in_word Depth.four = omega arith

-- ---- the tile as eight rows of eight colours

-- the first n values of a function
unfoldable pub up_to : {A : Type 0} → ℕ → (ℕ → A) → List A
up_to zero f = []
up_to (suc n) f = up_to n f ++ (f n ∷ [])

abbrev pub tile_of : (depth : ℕ) → List ℕ → List (List ℕ)
tile_of depth table = up_to 8 (λ row. up_to 8 (tile_color depth table row))

module _ {A : Type 0} (f : ℕ → A) where
  length_upto : (n : ℕ) → length (up_to n f) ≡ n
  unfolding up_to
  length_upto zero = refl
  length_upto (suc n) = length-append (up_to n f) (f n ∷ []) ∙ rw (length_upto n) (add-one n)

  pub upto_at : (n i : ℕ) (a : A) → i < n → get_or (up_to n f) i a ≡ f i
  unfolding up_to
  upto_at zero i a l = absurd (omega arith)
  upto_at (suc n) i a l = go (i <? n) refl (upto_at n i a)
    where
      last : List A
      last = f n ∷ []

      go : (b : Bool) → i <? n ≡ b → (i < n → get_or (up_to n f) i a ≡ f i) → get_or (up_to n f ++ last) i a ≡ f i
      go true e before =
          let h = ltb-true i n e in
          get_or-append (up_to n f) last a i (rw (length_upto n) h) ∙ before h
      go false e before =
          let z : length (up_to n f) + 0 ≡ i = omega (arith, ltb-false i n e, length_upto n) in
          let y : n ≡ i = omega (arith, ltb-false i n e) in
          (rw z at (get_or-append-add (up_to n f) last 0 a)) ∙ ap f y

  -- an array that is filled from its front: one more
  pub upto_more : (l : List A) (i : ℕ) {a : A} → i < length l → take i l ≡ up_to i f → a ≡ f i → take (i + 1) (set l i a) ≡ up_to (i + 1) f
  unfolding up_to
  upto_more l i h e p = rw (add-one, p, take-suc-set) (rw e)

  -- and all of them
  pub upto_all : (l : List A) (i n : ℕ) → length l ≡ n → i ≡ n → take i l ≡ up_to i f → l ≡ up_to n f
  upto_all l i n h e p = sym (take_all n l (rw h (le_refl n))) ∙ rw e at p

-- ---- pixels

-- the colour of a tile at column i of row j
abbrev pub color_in : List (List ℕ) → Rectangle → (row column i j : ℕ) → ℕ
color_in tile r row column i j =
    get_or (get_or tile (pattern_index r.rows.negative row j) []) (pattern_index r.columns.negative column i) 0

-- the pixel there, in its colour
abbrev pub tile_at : List (List ℕ) → (row column : ℕ) → Blt → (i j : ℕ) → List ℕ → List ℕ
tile_at tile row column b i j = draw_at (with_color b (color_in tile b.destination row column i j)) i j

-- n pixels of row j, from column i, and n pixels from pixel k
abbrev pub tile_row : List (List ℕ) → (row column : ℕ) → Blt → (i j n : ℕ) → List ℕ → List ℕ
tile_row tile row column b i j n = in_order (λ m. tile_at tile row column b m j) i n

abbrev pub tile_pixel : List (List ℕ) → (row column : ℕ) → Blt → ℕ → List ℕ → List ℕ
tile_pixel tile row column b k = tile_at tile row column b (column_of b.destination k) (row_of b.destination k)

abbrev pub tile_pixels : List (List ℕ) → (row column : ℕ) → Blt → (k n : ℕ) → List ℕ → List ℕ
tile_pixels tile row column b = in_order (tile_pixel tile row column b)

-- they are the definition's
index_lt : (n : ℕ) → n % 8 < 8
index_lt n = mod-lt n (omega arith)

pub color_in_lem : (table : List ℕ) (r : Rectangle) (row column i j : ℕ) → color_in (tile_of r.depth table) r row column i j ≡ color_at r row column table i j
unfolding color_at pattern_index
color_in_lem table r row column i j =
    let colors : ℕ → ℕ → ℕ = tile_color r.depth table in
    let y = pattern_index r.rows.negative row j in
    let x = pattern_index r.columns.negative column i in
    let at : get_or (tile_of r.depth table) y [] ≡ up_to 8 (colors y) = upto_at {A = List ℕ} (λ row. up_to 8 (colors row)) 8 y [] (index_lt _) in
    ap (λ (l : List ℕ). get_or l x 0) at ∙ upto_at {A = ℕ} (colors y) 8 x 0 (index_lt _)

pub tiled_pixels_lem : (table : List ℕ) (row column : ℕ) (b : Blt) (k n : ℕ) (frame : List ℕ)
    → tile_pixels (tile_of b.destination.depth table) row column b k n frame ≡ in_order (draw_tiled (tile_from row column) table b) k n frame
unfolding draw_tiled blt_at draw_blt
tiled_pixels_lem table row column b k n =
    order_same (tile_pixel (tile_of b.destination.depth table) row column b) (draw_tiled (tile_from row column) table b) n k k
    (λ m l frame.
    let i = column_of b.destination (k + m) in
    let j = row_of b.destination (k + m) in
    ap (λ (color : ℕ). draw_at (with_color b color) i j frame) (color_in_lem table b.destination row column i j))

pub untiled_pixels : (table : List ℕ) (b : Blt) (k n : ℕ) (frame : List ℕ) → blt_pixels b k n frame ≡ in_order (draw_tiled None table b) k n frame
unfolding draw_tiled blt_at
untiled_pixels table b k n = order_same (draw_blt b) (draw_tiled None table b) n k k (λ m l frame. refl)

-- and so those of the registers
pub blt_pixels_lem : (registers table : List ℕ) {p : Option TileOrigin} → p ≡ color_pattern_of registers → (k n : ℕ) (frame : List ℕ)
    → in_order (draw_tiled p table (blt_of registers)) k n frame ≡ pixels BltPrimitive registers table k n frame
unfolding draw_pixel
blt_pixels_lem registers table {p} e k n =
    order_same (draw_tiled p table (blt_of registers)) (draw_pixel BltPrimitive registers table) n k k (λ m l frame. rw e)

-- a tile's row and column of the first pixel
abbrev pub FitTile : Option TileOrigin → Type 0
FitTile None = Unit {0}
FitTile (Some tile) = (tile.row < 8) × (tile.column < 8)

pub fit_tile : (registers : List ℕ) → FitTile (color_pattern_of registers)
unfolding color_pattern_of
fit_tile registers =
    if_both FitTile (channel3_enable registers && channel3_pattern_mode registers) (omega arith, omega arith)
    (if_both FitTile (pattern_mode registers =? 2) (omega arith, omega arith) tt)

-- a solid pattern is as fit as another
pub fit_color : {size : ℕ} {b : Blt} → FitBlt size b → (color : ℕ) → FitBlt size (with_color b color)
fit_color f color = record { destination_fit = f.destination_fit; source_fit = f.source_fit; pattern_fit = tt }

pub pixel_color : {size : ℕ} {b : Blt} {i j : ℕ} → PixelOf size b i j → (color : ℕ) → PixelOf size (with_color b color) i j
pixel_color p color = record { fit = fit_color p.fit color; column = p.column; row = p.row }

-- eight colours that are those of the tile's row at row j, from the lowest of n pixels on and round
pub record Colors (tile : List (List ℕ)) (row column : ℕ) (b : Blt) (i j n : ℕ) (colors : List ℕ) : Type 0 where
  pub comes : (x : ℕ) → x < 8
      → get_or colors x 0
      ≡ get_or (get_or tile (pattern_index b.destination.rows.negative row j) [])
      ((pattern_index b.destination.columns.negative column (low_column b.destination.columns.negative i n) + x) % 8) 0

module _ (tile : List (List ℕ)) (row column : ℕ) (b : Blt) where
  -- a row, and the rows after it
  pub tile_next : {k n : ℕ} {first : List ℕ} {i j m : ℕ} {frame : List ℕ}
      → ByRows (tile_pixel tile row column b) b k n first i j m frame → {c : ℕ} → Part b.destination.columns.count n i m c
      → {next : List ℕ} → next ≡ tile_row tile row column b i j c frame
      → ByRows (tile_pixel tile row column b) b k n first 0 (j + 1) (m + c) next
  tile_next {k = k} {m = m} {frame} r {c} p e =
      rows_after r p (λ k. length_at _ _ _)
      (λ l x y.
      e ∙ rw (x, y)
      (order_same _ (tile_pixel tile row column b) c _ (k + m)
      (λ q h frame.
      let w = b.destination.columns.count in
      rw (column_add w (k + m) q (omega arith), row_add w (k + m) q (omega arith))) frame))

  -- under raster operation F0h, where one value serves as the source, a row is its colours in turn
  pub tile_changes : {value : ℕ} → Plain b.code b.source value → b.code ≡ 0xF0 → {i j n : ℕ} {colors : List ℕ}
      → Colors tile row column b i j n colors
      → ChangesBy (λ m. tile_at tile row column b m j) b i j n (λ x old. get_or colors (x % 8) 0)
  tile_changes plain fills {i} {j} {n} {colors} turned = record {
    draws = λ x l frame p.
        let negative = b.destination.columns.negative in
        let low = pattern_index negative column (low_column negative i n) in
        let color = color_in tile b.destination row column (column_at negative i n x) j in
        let e : (low + x % 8) % 8 ≡ (low + x) % 8 = omega arith in
        let same : get_or colors (x % 8) 0 ≡ color =
        turned.comes (x % 8) (index_lt x) ∙ rw (e, column_rises negative column i n x l) in
        (fill_changes (with_color b color) plain refl i j n fills).draws x l frame p ∙ rw same;
  }

-- eight colours come round
pub colors_round : (colors : List ℕ) → Round (λ m old. get_or colors (m % 8) 0)
colors_round colors = record { comes_round = λ i m w. let z : (i + m) % 8 ≡ m % 8 = omega arith in rw z }

-- eight more pixels of a row of so many bytes lie in it
pub eight_room : (depth i size : ℕ) → i + 8 ≤ size / depth → i * depth + 8 * depth ≤ size
eight_room depth i size l =
    omega (arith, add-mul i 8 depth, mul-le-mul_right depth l, div-mul-le_self size depth)

-- and there are no more pixels than bytes
pub count_most_holds : {depth : ℕ} → Depth depth → (size : ℕ) → size / depth ≤ size
count_most_holds {depth} deep size = omega (arith, mul-le-mul_left (size / depth) (depth_least deep), div-mul-le_self size depth)

-- Rows in which each pixel's new value is a rule of its old one: the order of the pixels does not matter, and a row is changed
-- from its lowest byte up. Everything is over the byte count.
use Rattle.std.specs.Prelude.{ℕ, zero, suc, ◌+◌, ◌-◌, ◌*◌, ◌/◌, ◌%◌, ◌≤◌, ◌<◌, ◌≡◌, refl, Bool, true, false, List, [], ◌∷◌, ◌++◌, length, set, take, drop}
use Rattle.std.proofs.Common.{sym, ap, ◌∙◌, arith, suc-mul, add_assoc, mul-div_cancel, mul-le-mul_right, mul-le-mul_left, div-mul-le_self, take-append-drop, length-drop, length-set, get_or-append-add, length-take-le}
use Rattle.std.proofs.Math.ListN.{get_or-append}
use Rattle.std.proofs.lemmas.List.{set_comm, set-append_left}
use Rattle.model.specs.Formats.{Depth}
use Rattle.model.specs.Pixel.{read_pixel, store_pixel}
use Rattle.model.specs.Rectangle.{pixel_byte}
use Rattle.model.specs.BltPixel.{draw_at}
use Rattle.model.specs.declared.Blt.{Blt}
use Rattle.laws.specs.Pixels.{Bytes, read_same, store_below, store_above, store_bytes, length_store, depth_least}
use Rattle.laws.specs.Order.{in_order, order_through, order_reverse, Remain, remain_next}
use Rattle.laws.specs.Rows.{Row}
use Rattle.laws.specs.Lows.{column_at, low_byte, destination_span, place_byte, bytes_in}

-- ---- stores that share no byte

after : (xs ys : List ℕ) (i v : ℕ) → set (xs ++ ys) (length xs + i) v ≡ xs ++ set ys i v
after [] ys i v = let e : 0 + i ≡ i = omega arith in rw e
after (x ∷ xs) ys i v =
    let e : suc (length xs) + i ≡ suc (length xs + i) = omega arith in
    rw e (ap (λ (t : List ℕ). x ∷ t) (after xs ys i v))

store_after : (n : ℕ) (xs ys : List ℕ) (i v : ℕ) → store_pixel n (xs ++ ys) (length xs + i) v ≡ xs ++ store_pixel n ys i v
unfolding store_pixel
store_after zero xs ys i v = refl
store_after (suc n) xs ys i v =
    rw (after xs ys i (v % 256), add_assoc (length xs) i 1) (store_after n xs (set ys i (v % 256)) (i + 1) (v / 256))

store_before : (n : ℕ) (xs ys : List ℕ) (i v : ℕ) → i + n ≤ length xs → store_pixel n (xs ++ ys) i v ≡ store_pixel n xs i v ++ ys
unfolding store_pixel
store_before zero xs ys i v h = refl
store_before (suc n) xs ys i v h =
    rw (set-append_left xs ys i (v % 256) (omega arith))
    (store_before n (set xs i (v % 256)) ys (i + 1) (v / 256) (rw (length-set xs i (v % 256)) (omega arith)))

set_store : (n : ℕ) (frame : List ℕ) (a v i x : ℕ) → a + n ≤ i → store_pixel n (set frame i x) a v ≡ set (store_pixel n frame a v) i x
unfolding store_pixel
set_store zero frame a v i x h = refl
set_store (suc n) frame a v i x h =
    rw (set_comm frame i a x (v % 256) (λ e. omega arith)) (set_store n (set frame a (v % 256)) (a + 1) (v / 256) i x (omega arith))

store_store : (n m : ℕ) (frame : List ℕ) (a v t w : ℕ) → a + n ≤ t
    → store_pixel n (store_pixel m frame t w) a v ≡ store_pixel m (store_pixel n frame a v) t w
unfolding store_pixel
store_store n zero frame a v t w h = refl
store_store n (suc m) frame a v t w h =
    store_store n m (set frame t (w % 256)) a v (t + 1) (w / 256) (omega arith)
    ∙ ap (λ (g : List ℕ). store_pixel m g (t + 1) (w / 256)) (set_store n frame a v t (w % 256) h)

-- ---- rows of one rule for each pixel

pub step_le : (depth m n : ℕ) → m < n → m * depth + depth ≤ n * depth
step_le depth m n l = omega (arith, suc-mul m depth, mul-le-mul_right depth l)

-- a pixel of a row of so many bytes lies in it
pub row_room : {depth i size : ℕ} → Depth depth → i < size / depth → (i ≤ i * depth) × (i * depth + depth ≤ size)
row_room {depth} {i} {size} deep l =
    let q = depth_least deep in
    (omega (arith, mul-le-mul_left i q), omega (arith, step_le depth i (size / depth) l, div-mul-le_self size depth))

-- the pixel at a byte of frame memory, changed by a rule
abbrev pub changed : (depth : ℕ) → (ℕ → ℕ) → (at : ℕ) → List ℕ → List ℕ
changed depth rule at frame = store_pixel depth frame at (rule (read_pixel depth frame at))

-- pixel m of those from byte a up, by its own rule, and n of them
abbrev pub changed_at : (depth : ℕ) → (ℕ → ℕ → ℕ) → (a : ℕ) → ℕ → List ℕ → List ℕ
changed_at depth rule a m = changed depth (rule m) (a + m * depth)

abbrev pub changed_row : (depth : ℕ) → (ℕ → ℕ → ℕ) → (n a : ℕ) → List ℕ → List ℕ
changed_row depth rule n a = in_order (changed_at depth rule a) 0 n

pub length_changed : (depth : ℕ) (rule : ℕ → ℕ → ℕ) (a m : ℕ) (frame : List ℕ) → length (changed_at depth rule a m frame) ≡ length frame
length_changed depth rule a m frame = length_store depth frame _ _

module _ (depth : ℕ) (rule : ℕ → ℕ → ℕ) where
  -- one more pixel of a row that its writer changes from byte a up
  pub change_next : (a : ℕ) {n : ℕ} {first : List ℕ} {i at : ℕ} {row next : List ℕ} → Remain (changed_at depth rule a) 0 n first i row → i < n
      → at ≡ a + i * depth → next ≡ changed depth (rule i) at row → Remain (changed_at depth rule a) 0 n first (i + 1) next
  change_next a {i = i} r l p e =
      let z : 0 + i ≡ i = omega arith in
      remain_next (length_changed depth rule a) r l (rw (e, p, z))

  -- a pixel of the second of two lists that stand one after the other, and of the first
  change_after : (m i : ℕ) (xs ys : List ℕ) → changed depth (rule m) (length xs + i) (xs ++ ys) ≡ xs ++ changed depth (rule m) i ys
  change_after m i xs ys =
      let e = read_same depth (xs ++ ys) ys (length xs + i) i (λ j l. rw (add_assoc (length xs) i j) (get_or-append-add xs ys (i + j) 0)) in
      rw e (store_after depth xs ys i _)

  change_before : (m i : ℕ) (xs ys : List ℕ) → i + depth ≤ length xs → changed depth (rule m) i (xs ++ ys) ≡ changed depth (rule m) i xs ++ ys
  change_before m i xs ys h =
      let e = read_same depth (xs ++ ys) xs i i (λ j l. get_or-append xs ys 0 (i + j) (omega arith)) in
      rw e (store_before depth xs ys i _ h)

  -- what is written to a part of frame memory
  changed_part : (n a : ℕ) (frame : List ℕ) → a + n * depth ≤ length frame
      → take a frame ++ (changed_row depth rule n 0 (take (n * depth) (drop a frame)) ++ drop (n * depth) (drop a frame))
      ≡ changed_row depth rule n a frame
  changed_part n a frame h =
      let xs = take a frame in
      let ys = take (n * depth) (drop a frame) in
      let zs = drop (n * depth) (drop a frame) in
      let d = length-drop a frame in
      let t : length ys ≡ n * depth = length-take-le (n * depth) (drop a frame) (omega arith) in
      let s : length xs ≡ a = length-take-le a frame (omega arith) in
      ap (λ (l : List ℕ). xs ++ l)
      (sym (order_through (changed_at depth rule 0) (changed_at depth rule 0) (λ l. l ++ zs) (λ l. length l ≡ n * depth) n 0 0
      (λ m q l k. (change_before (0 + m) _ l zs (omega (arith, step_le depth (0 + m) n (omega arith))), length_changed depth rule 0 (0 + m) l ∙ k)) ys t)
      ∙ ap (changed_row depth rule n 0) (take-append-drop (n * depth) (drop a frame)))
      ∙ sym (order_through (changed_at depth rule a) (changed_at depth rule 0) (λ l. xs ++ l) (λ l. Unit {0}) n 0 0
      (λ m q l k.
      let e : a + (0 + m) * depth ≡ length xs + (0 + (0 + m) * depth) = omega arith in
      (rw e (change_after (0 + m) (0 + (0 + m) * depth) xs l), tt)) (drop a frame) tt)
      ∙ ap (changed_row depth rule n a) (take-append-drop a frame)

  -- what the row writer leaves, lent that part
  pub written_part : 0 < depth → (n a : ℕ) (frame : List ℕ) {ys : List ℕ} → a + n * depth ≤ length frame
      → let part = take (a + n * depth - a) (drop a frame) in
      ys ≡ changed_row depth rule (length part / depth) 0 part
      → take a frame ++ (ys ++ drop (a + n * depth - a) (drop a frame)) ≡ changed_row depth rule n a frame
  written_part deep n a frame h written =
      let e : a + n * depth - a ≡ n * depth = omega arith in
      let d = length-drop a frame in
      let t : length (take (n * depth) (drop a frame)) ≡ n * depth = length-take-le _ (drop a frame) (omega arith) in
      rw (written, e, t, mul-div_cancel n deep) (changed_part n a frame h)

  -- pixels that share no byte may change places
  change_change : (m k a t : ℕ) (frame : List ℕ) → a + depth ≤ t
      → changed depth (rule m) a (changed depth (rule k) t frame) ≡ changed depth (rule k) t (changed depth (rule m) a frame)
  change_change m k a t frame h =
      let e = read_same depth (changed depth (rule k) t frame) frame a a (λ j l. store_below depth frame t _ (a + j) (omega arith)) in
      let f = read_same depth (changed depth (rule m) a frame) frame t t (λ j l. store_above depth frame a _ (t + j) (omega arith)) in
      rw (e, f) (store_store depth depth frame a _ t _ h)

  pub changed_down : (n a : ℕ) (frame : List ℕ) → in_order (λ m. changed_at depth rule a (n - 1 - m)) 0 n frame ≡ changed_row depth rule n a frame
  changed_down n a =
      order_reverse (changed_at depth rule a) n
      (λ m k l p frame. change_change m k _ _ frame (omega (arith, step_le depth m k l)))

-- ---- rows of a BLT

-- the pixel at place x of n from column i, drawn so, is changed by the rule of its place
pub record ChangesBy (draw : ℕ → List ℕ → List ℕ) (b : Blt) (i j n : ℕ) (rule : ℕ → ℕ → ℕ) : Type 0 where
  pub draws : (x : ℕ) → x < n → (frame : List ℕ) → Bytes frame
      → draw (column_at b.destination.columns.negative i n x) frame
      ≡ changed b.destination.depth (rule x) (pixel_byte b.destination (column_at b.destination.columns.negative i n x) j) frame

-- of a BLT's own pixels
abbrev pub Changes : Blt → (i j n : ℕ) → (ℕ → ℕ → ℕ) → Type 0
Changes b i j n rule = ChangesBy (λ m. draw_at b m j) b i j n rule

module _ {size : ℕ} {b : Blt} {i j n : ℕ} (r : Row size b i j n) (some : 0 < n) {draw : ℕ → List ℕ → List ℕ} {rule : ℕ → ℕ → ℕ}
    (changes : ChangesBy draw b i j n rule) {a : ℕ} (low : a ≡ low_byte b.destination i j n) where
  -- such a row, changed from its lowest byte up
  changes_row : (frame : List ℕ) → Bytes frame → changed_row b.destination.depth rule n a frame ≡ in_order draw i n frame
  changes_row frame bytes = sym (go b.destination.columns.negative refl)
    where
      at : (x : ℕ) → x < n → (negative : Bool) → b.destination.columns.negative ≡ negative → (frame : List ℕ) → Bytes frame
          → draw (column_at negative i n x) frame ≡ changed_at b.destination.depth rule a x frame
      at x l negative e frame p =
          ap (λ (v : Bool). draw (column_at v i n x) frame) (sym e) ∙ changes.draws x l frame p
          ∙ ap (λ (y : ℕ). changed b.destination.depth (rule x) y frame) (place_byte (destination_span r some) low x l)

      go : (negative : Bool) → b.destination.columns.negative ≡ negative
          → in_order draw i n frame ≡ changed_row b.destination.depth rule n a frame
      go false e =
          order_through draw (changed_at b.destination.depth rule a) (λ frame. frame) Bytes n i 0
          (λ m l frame p. let z : 0 + m ≡ m = omega arith in rw z (at m l false e frame p, store_bytes b.destination.depth frame _ _ p))
          frame bytes
      go true e =
          order_through draw (λ m. changed_at b.destination.depth rule a (n - 1 - m)) (λ frame. frame) Bytes n i 0
          (λ m l frame p.
          let z : 0 + m ≡ m = omega arith in
          let y : i + (n - 1 - (n - 1 - m)) ≡ i + m = omega arith in
          rw z (rw y at (at (n - 1 - m) (omega arith) true e frame p), store_bytes b.destination.depth frame _ _ p))
          frame bytes
          ∙ changed_down b.destination.depth rule n a frame

  -- what the row writer leaves, lent the row's bytes
  pub changes_part : (frame : List ℕ) {ys : List ℕ} → length frame ≡ size → Bytes frame
      → let part = take (a + n * b.destination.depth - a) (drop a frame) in
      ys ≡ changed_row b.destination.depth rule (length part / b.destination.depth) 0 part
      → take a frame ++ (ys ++ drop (a + n * b.destination.depth - a) (drop a frame)) ≡ in_order draw i n frame
  changes_part frame s bytes written =
      let l = bytes_in (destination_span r some) low in
      written_part b.destination.depth rule (depth_least r.fit.destination_fit.ranged.deep) n a frame (omega arith) written
      ∙ changes_row frame bytes

-- Eight pixels of a row by stores of eight bytes: colours packed into words, and words into pairs.
use Rattle.std.specs.Prelude.{ℕ, zero, suc, ◌+◌, ◌*◌, ◌/◌, ◌%◌, ◌^◌, ◌<◌, ◌≡◌, List, get_or, set}
use Rattle.std.proofs.Math.Path.{refl}
use Rattle.std.proofs.Common.{ap, ◌∙◌, arith, mul-suc, mul_comm, mul_assoc, pow_pos, pow-add}
use Rattle.std.proofs.Math.Arith.{mod-mul}
use Rattle.model.specs.Pixel.{store_pixel}
use Rattle.laws.specs.Order.{in_order}
use Rattle.laws.specs.Changes.{changed_row}
use Rattle.laws.specs.Pixels.{store_low}

-- the low a bytes of one value, then b bytes of another, stored at once
store_both : (a b : ℕ) (frame : List ℕ) (at low high : ℕ)
    → store_pixel (a + b) frame at (low % 2 ^ (8 * a) + 2 ^ (8 * a) * high) ≡ store_pixel b (store_pixel a frame at low) (at + a) high
unfolding store_pixel
store_both zero b frame at low high =
    let e : 0 + b ≡ b = omega arith in
    let f : at + 0 ≡ at = omega arith in
    let g : low % 1 + 1 * high ≡ high = omega arith in
    rw (e, f, g)
store_both (suc a) b frame at low high =
    let p = 2 ^ (8 * a) in
    let e : 2 ^ (8 * suc a) ≡ p * 256 = ap (λ (x : ℕ). 2 ^ x) (mul-suc 8 a) ∙ pow-add 2 (8 * a) 8 in
    let f : low % (p * 256) ≡ low / 256 % p * 256 + low % 256 = mod-mul low {m = p} {c = 256} (pow_pos (8 * a)) (omega arith) in
    let g : p * 256 * high ≡ 256 * (p * high) = ap (λ (x : ℕ). x * high) (mul_comm p 256) ∙ mul_assoc 256 p high in
    let v = low / 256 % p * 256 + low % 256 + 256 * (p * high) in
    let first : v % 256 ≡ low % 256 = omega arith in
    let others : v / 256 ≡ low / 256 % p + p * high = omega arith in
    let one : store_pixel (a + b) (set frame at (v % 256)) (at + 1) (v / 256)
    ≡ store_pixel (a + b) (set frame at (low % 256)) (at + 1) (low / 256 % p + p * high) = rw (first, others) in
    let n : suc a + b ≡ suc (a + b) = omega arith in
    let q : at + suc a ≡ at + 1 + a = omega arith in
    rw (n, q, e, f, g) (one ∙ store_both a b (set frame at (low % 256)) (at + 1) (low / 256) high)

-- two pixels, one after the other
abbrev pub two : (depth : ℕ) → List ℕ → (at first second : ℕ) → List ℕ
two depth frame at first second = store_pixel depth (store_pixel depth frame at first) (at + depth) second

-- two words as one number of eight bytes
pub store_pair : (frame : List ℕ) (at low high : ℕ) → low < 4294967296 → store_pixel 8 frame at (low + 4294967296 * high) ≡ two 4 frame at low high
store_pair frame at low high l =
    let e : low % 4294967296 ≡ low = omega arith in
    rw e at (store_both 4 4 frame at low high)

-- four colours of one byte, and two of two bytes, from colour x on as a word
abbrev pub word_of : List ℕ → ℕ → ℕ
word_of colors x =
    get_or colors x 0 % 256 + 256 * (get_or colors (x + 1) 0 % 256 + 256 * (get_or colors (x + 2) 0 % 256 + 256 * (get_or colors (x + 3) 0 % 256)))

abbrev pub halves_of : List ℕ → ℕ → ℕ
halves_of colors x = get_or colors x 0 % 65536 + 65536 * (get_or colors (x + 1) 0 % 65536)

store_word : (colors : List ℕ) (x : ℕ) (frame : List ℕ) (at : ℕ)
    → store_pixel 4 frame at (word_of colors x)
    ≡ two 1 (two 1 frame at (get_or colors x 0) (get_or colors (x + 1) 0)) (at + 1 + 1) (get_or colors (x + 2) 0) (get_or colors (x + 3) 0)
store_word colors x frame at =
    store_both 1 3 frame at (get_or colors x 0) _
    ∙ store_both 1 2 _ (at + 1) (get_or colors (x + 1) 0) _
    ∙ store_both 1 1 _ (at + 1 + 1) (get_or colors (x + 2) 0) _
    ∙ store_low 1 _ (at + 1 + 1 + 1) (get_or colors (x + 3) 0)

store_halves : (colors : List ℕ) (x : ℕ) (frame : List ℕ) (at : ℕ)
    → store_pixel 4 frame at (halves_of colors x) ≡ two 2 frame at (get_or colors x 0) (get_or colors (x + 1) 0)
store_halves colors x frame at =
    store_both 2 2 frame at (get_or colors x 0) _ ∙ store_low 2 _ (at + 2) (get_or colors (x + 1) 0)

-- eight pixels at these bytes
abbrev eight_at : (depth : ℕ) (colors row : List ℕ) (a b c d e f g h : ℕ) → List ℕ
eight_at depth colors row a b c d e f g h =
    let put : List ℕ → ℕ → ℕ → List ℕ = λ row at x. store_pixel depth row at (get_or colors x 0) in
    put (put (put (put (put (put (put (put row a 0) b 1) c 2) d 3) e 4) f 5) g 6) h 7

module _ (colors row : List ℕ) (at : ℕ) where
  in_turn : (depth : ℕ) {a b c d e f g h : ℕ} → a ≡ at + 0 * depth → b ≡ at + 1 * depth → c ≡ at + 2 * depth → d ≡ at + 3 * depth
      → e ≡ at + 4 * depth → f ≡ at + 5 * depth → g ≡ at + 6 * depth → h ≡ at + 7 * depth
      → eight_at depth colors row a b c d e f g h ≡ changed_row depth (λ m old. get_or colors (m % 8) 0) 8 at row
  unfolding in_order
  in_turn depth a b c d e f g h = rw (a, b, c, d, e, f, g, h) refl

  -- at one byte a pixel they are two words of four colours
  pub eight_one : two 4 row at (word_of colors 0) (word_of colors 4) ≡ changed_row 1 (λ m old. get_or colors (m % 8) 0) 8 at row
  eight_one =
      ap (λ (l : List ℕ). store_pixel 4 l (at + 4) (word_of colors 4)) (store_word colors 0 row at)
      ∙ store_word colors 4 _ (at + 4)
      ∙ in_turn 1 (omega arith) (omega arith) (omega arith) (omega arith) (omega arith) (omega arith) (omega arith) (omega arith)

  -- at two bytes four words of two colours
  pub eight_two : two 4 (two 4 row at (halves_of colors 0) (halves_of colors 2)) (at + 8) (halves_of colors 4) (halves_of colors 6)
      ≡ changed_row 2 (λ m old. get_or colors (m % 8) 0) 8 at row
  eight_two =
      ap (λ (l : List ℕ). two 4 (store_pixel 4 l (at + 4) (halves_of colors 2)) (at + 8) (halves_of colors 4) (halves_of colors 6))
      (store_halves colors 0 row at)
      ∙ ap (λ (l : List ℕ). two 4 l (at + 8) (halves_of colors 4) (halves_of colors 6)) (store_halves colors 2 _ (at + 4))
      ∙ ap (λ (l : List ℕ). store_pixel 4 l (at + 8 + 4) (halves_of colors 6)) (store_halves colors 4 _ (at + 8))
      ∙ store_halves colors 6 _ (at + 8 + 4)
      ∙ in_turn 2 (omega arith) (omega arith) (omega arith) (omega arith) (omega arith) (omega arith) (omega arith) (omega arith)

  -- and at four bytes eight words
  pub eight_four : two 4 (two 4 (two 4 (two 4 row at (get_or colors 0 0) (get_or colors 1 0)) (at + 8) (get_or colors 2 0) (get_or colors 3 0))
      (at + 16) (get_or colors 4 0) (get_or colors 5 0)) (at + 24) (get_or colors 6 0) (get_or colors 7 0)
      ≡ changed_row 4 (λ m old. get_or colors (m % 8) 0) 8 at row
  eight_four = in_turn 4 (omega arith) (omega arith) (omega arith) (omega arith) (omega arith) (omega arith) (omega arith) (omega arith)

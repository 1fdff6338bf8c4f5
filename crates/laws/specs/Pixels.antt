-- Pixels of n bytes: facts about depth, once over the byte count.
use Rattle.std.specs.Prelude.{ℕ, zero, suc, ◌+◌, ◌-◌, ◌*◌, ◌/◌, ◌%◌, ◌^◌, ◌≤◌, ◌<◌, ◌≡◌, refl, ◌||◌, List, [], ◌∷◌, length, get_or, set, Option}
use Rattle.std.proofs.Common.{sym, ap, ◌∙◌, arith, mul-suc, add-suc, mod-lt, pow_pos, pow-add, length-set, get_or-set_same, get_or-set_other}
use Rattle.std.proofs.Math.Arith.{mod-mul}
use Rattle.model.proofs.Bits.{low_split}
use Rattle.model.specs.Choice.{◌=?◌}
use Rattle.model.proofs.Choice.{if_both}
use Rattle.model.specs.Formats.{Depth, format_of, depth_of}
use Rattle.model.specs.Pixel.{read_pixel, store_pixel}
use Rattle.model.specs.Raster.{raster}
use Rattle.model.proofs.Raster.{raster_odd, raster_half}

-- bytes a pixel: 1, 2 or 4
pub depth_last : {n : ℕ} → Depth n → (n ≡ 1 → ⊥) → (n ≡ 2 → ⊥) → n ≡ 4
depth_last Depth.one p q = absurd (p refl)
depth_last Depth.two p q = absurd (q refl)
depth_last Depth.four p q = refl

pub depth_least : {n : ℕ} → Depth n → 0 < n
depth_least Depth.one = omega arith
depth_least Depth.two = omega arith
depth_least Depth.four = omega arith

pub depth_most : {n : ℕ} → Depth n → n ≤ 4
depth_most Depth.one = omega arith
depth_most Depth.two = omega arith
depth_most Depth.four = omega arith

-- of every colour format, 0 of those that are refused
pub depth_of_most : (code : ℕ) → depth_of (format_of code) ≤ 4
unfolding format_of
depth_of_most code =
    let Most : Option ℕ → Type 0 = λ x. depth_of x ≤ 4 in
    if_both Most (code =? 0b0000) (omega arith)
    (if_both Most (code =? 0b0100 || code =? 0b0101 || code =? 0b0110) (omega arith) (if_both Most (code =? 0b1000) (omega arith) (omega arith)))

-- storing keeps the length, and the bytes below the pixel
pub length_store : (n : ℕ) (frame : List ℕ) (at value : ℕ) → length (store_pixel n frame at value) ≡ length frame
unfolding store_pixel
length_store zero frame at value = refl
length_store (suc n) frame at value = length_store n _ (at + 1) (value / 256) ∙ length-set frame at (value % 256)

pub store_below : (n : ℕ) (frame : List ℕ) (at value i : ℕ) → i < at
    → get_or (store_pixel n frame at value) i 0 ≡ get_or frame i 0
unfolding store_pixel
store_below zero frame at value i h = refl
store_below (suc n) frame at value i h =
    store_below n _ (at + 1) (value / 256) i (omega arith)
    ∙ get_or-set_other frame at i (value % 256) 0 (λ e. omega arith)

pub store_above : (n : ℕ) (frame : List ℕ) (at value i : ℕ) → at + n ≤ i
    → get_or (store_pixel n frame at value) i 0 ≡ get_or frame i 0
unfolding store_pixel
store_above zero frame at value i h = refl
store_above (suc n) frame at value i h =
    store_above n _ (at + 1) (value / 256) i (omega arith)
    ∙ get_or-set_other frame at i (value % 256) 0 (λ e. omega arith)

-- a pixel is read by its bytes
pub read_same : (n : ℕ) (xs ys : List ℕ) (a b : ℕ) → ((j : ℕ) → j < n → get_or xs (a + j) 0 ≡ get_or ys (b + j) 0)
    → read_pixel n xs a ≡ read_pixel n ys b
unfolding read_pixel
read_same zero xs ys a b h = refl
read_same (suc n) xs ys a b h =
    let y : a + 0 ≡ a = omega arith in
    let z : b + 0 ≡ b = omega arith in
    let one : get_or xs a 0 ≡ get_or ys b 0 = rw (y, z) at (h 0 (omega arith)) in
    let rest = read_same n xs ys (a + 1) (b + 1)
    (λ j l.
    let e : a + 1 + j ≡ a + suc j = omega arith in
    let f : b + 1 + j ≡ b + suc j = omega arith in
    rw (e, f) (h (suc j) (omega arith))) in
    rw (one, rest)

-- frame memory holds bytes, and goes on doing so
abbrev pub Bytes : List ℕ → Type 0
Bytes frame = (i : ℕ) → get_or frame i 0 < 256

set_bytes : (frame : List ℕ) (at value : ℕ) → value < 256 → Bytes frame → Bytes (set frame at value)
set_bytes [] at value l p i = p i
set_bytes (x ∷ frame) zero value l p zero = l
set_bytes (x ∷ frame) zero value l p (suc i) = p (suc i)
set_bytes (x ∷ frame) (suc at) value l p zero = p zero
set_bytes (x ∷ frame) (suc at) value l p (suc i) = set_bytes frame at value l (λ k. p (suc k)) i

pub store_bytes : (n : ℕ) (frame : List ℕ) (at value : ℕ) → Bytes frame → Bytes (store_pixel n frame at value)
unfolding store_pixel
store_bytes zero frame at value p = p
store_bytes (suc n) frame at value p =
    store_bytes n _ (at + 1) (value / 256) (set_bytes frame at (value % 256) (mod-lt value (omega arith)) p)

-- so a pixel is a number of its bits, and storing it as it is changes nothing
pub read_lt : (n : ℕ) (frame : List ℕ) (at : ℕ) → Bytes frame → read_pixel n frame at < 2 ^ (8 * n)
unfolding read_pixel
read_lt zero frame at p = omega arith
read_lt (suc n) frame at p =
    let e : 2 ^ (8 * suc n) ≡ 2 ^ (8 * n) * 256 = ap (λ (x : ℕ). 2 ^ x) (mul-suc 8 n) ∙ pow-add 2 (8 * n) 8 in
    omega (arith, e, p at, read_lt n frame (at + 1) p)

pub set_same : (frame : List ℕ) (at : ℕ) → set frame at (get_or frame at 0) ≡ frame
set_same [] at = refl
set_same (x ∷ frame) zero = refl
set_same (x ∷ frame) (suc at) = ap (λ (t : List ℕ). x ∷ t) (set_same frame at)

pub store_read : (n : ℕ) (frame : List ℕ) (at : ℕ) → Bytes frame → store_pixel n frame at (read_pixel n frame at) ≡ frame
unfolding read_pixel store_pixel
store_read zero frame at p = refl
store_read (suc n) frame at p =
    let q = p at in
    let low : (get_or frame at 0 + 256 * read_pixel n frame (at + 1)) % 256 ≡ get_or frame at 0 = omega arith in
    let high : (get_or frame at 0 + 256 * read_pixel n frame (at + 1)) / 256 ≡ read_pixel n frame (at + 1) = omega arith in
    rw (low, high, set_same frame at) (store_read n frame (at + 1) p)

-- a value's lowest byte and the bytes above it
bytes : (n value : ℕ) → value % 2 ^ (8 * suc n) ≡ value / 256 % 2 ^ (8 * n) * 256 + value % 256
bytes n value =
    ap (λ (x : ℕ). value % x) (ap (λ (x : ℕ). 2 ^ x) (mul-suc 8 n) ∙ pow-add 2 (8 * n) 8)
    ∙ mod-mul value {m = 2 ^ (8 * n)} {c = 256} (pow_pos (8 * n)) (omega arith)

-- what is stored is read back, cut to the depth
pub read_store : (n : ℕ) (frame : List ℕ) (at value : ℕ) → at + n ≤ length frame
    → read_pixel n (store_pixel n frame at value) at ≡ value % 2 ^ (8 * n)
unfolding read_pixel store_pixel
read_store zero frame at value h = omega arith
read_store (suc n) frame at value h =
    let next = set frame at (value % 256) in
    let low : get_or (store_pixel n next (at + 1) (value / 256)) at 0 ≡ value % 256 =
    store_below n next (at + 1) (value / 256) at (omega arith) ∙ get_or-set_same frame at (value % 256) 0 (omega arith) in
    let high = read_store n next (at + 1) (value / 256) (rw (length-set frame at (value % 256)) (omega arith)) in
    rw (low, high, bytes n value) (omega arith)

-- the bits above the pixel's are not stored
pub store_low : (n : ℕ) (frame : List ℕ) (at value : ℕ)
    → store_pixel n frame at (value % 2 ^ (8 * n)) ≡ store_pixel n frame at value
unfolding store_pixel
store_low zero frame at value = refl
store_low (suc n) frame at value =
    let e = bytes n value in
    let low : value % 2 ^ (8 * suc n) % 256 ≡ value % 256 = rw e (omega arith) in
    let high : value % 2 ^ (8 * suc n) / 256 ≡ value / 256 % 2 ^ (8 * n) = rw e (omega arith) in
    rw (low, high) (store_low n (set frame at (value % 256)) (at + 1) (value / 256))

-- the m low bits of a raster operation over more bits
pub raster_narrow : (more m code p s d : ℕ) → raster (more + m) code p s d % 2 ^ m ≡ raster m code p s d
unfolding raster
raster_narrow more zero code p s d = omega arith
raster_narrow more (suc m) code p s d =
    let all = raster (suc (more + m)) code p s d in
    let half : all / 2 ≡ raster (more + m) code (p / 2) (s / 2) (d / 2) = raster_half (more + m) code p s d in
    rw (add-suc more m)
    (omega (
      arith,
      low_split m all,
      raster_odd (more + m) code p s d,
      ap (λ (x : ℕ). x % 2 ^ m) half,
      raster_narrow more m code (p / 2) (s / 2) (d / 2),
    ))

-- so the raster operation over 32 bits serves at each depth
pub store_raster : (n : ℕ) → Depth n → (frame : List ℕ) (at code p s d : ℕ)
    → store_pixel n frame at (raster 32 code p s d) ≡ store_pixel n frame at (raster (8 * n) code p s d)
store_raster n deep frame at code p s d =
    let e : 32 ≡ 32 - 8 * n + 8 * n = omega (arith, depth_most deep) in
    let narrow : raster 32 code p s d % 2 ^ (8 * n) ≡ raster (8 * n) code p s d =
    ap (λ (x : ℕ). raster x code p s d % 2 ^ (8 * n)) e ∙ raster_narrow (32 - 8 * n) (8 * n) code p s d in
    sym (store_low n frame at (raster 32 code p s d)) ∙ rw narrow

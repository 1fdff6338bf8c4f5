-- The raster operation on whole pixels, with no step for each bit. A choice takes each bit from one of two numbers, as the
-- same bit of a third says; the raster operation is a choice by S of two choices by D of four choices by P, between masks
-- of the code's eight bits.
use Prim.Native.Nat.{ℕ, zero, suc, ◌+◌, ◌-◌, ◌*◌, ◌/◌, ◌%◌, ◌^◌, ◌<◌}
use Rattle.std.specs.Prelude.{◌≡◌, if◌then◌else◌}
use Rattle.std.proofs.Math.Path.{refl}
use Rattle.std.proofs.Common.{sym, ap, ◌∙◌, ⊎_elim, arith}
use Rattle.std.proofs.Math.Nat.{pow-suc}
use Rattle.std.specs.Int.Bits.{bit_and, bit_xor, differ, xor_step, and_zero_r, xor_zero_l}
use Rattle.std.proofs.lemmas.Nat.{and_mod, xor_mod, and_shr, xor_shr, and_mask}
use Rattle.std.proofs.Math.Pow.{pow_pos}
use Rattle.model.specs.Choice.{◌=?◌}
use Rattle.model.specs.Bits.{bit}
use Rattle.model.proofs.Bits.{bit_cases, by_bits}
use Rattle.model.specs.Raster.{raster, chosen_bit}
use Rattle.model.proofs.Raster.{raster_lt, raster_odd, raster_half, raster_unique}

-- bit by bit over m bits: x's bit where `by` has 0, y's where it has 1
unfoldable pub choice : ℕ → ℕ → ℕ → ℕ → ℕ
choice zero x y by = 0
choice (suc m) x y by = (if by % 2 =? 0 then x % 2 else y % 2) + 2 * choice m (x / 2) (y / 2) (by / 2)

-- m times the bit c
abbrev pub mask : ℕ → ℕ → ℕ
mask m c = c * (2 ^ m - 1)

-- what bit i of the code, and bit i + 4, give where P is 0 and where it is 1
unfoldable pub by_pattern : ℕ → ℕ → ℕ → ℕ → ℕ
by_pattern m code p i = choice m (mask m (bit code i)) (mask m (bit code (i + 4))) p

-- the raster operation by seven choices
unfoldable pub by_choices : ℕ → ℕ → ℕ → ℕ → ℕ → ℕ
by_choices m code p s d =
    choice m
    (choice m (by_pattern m code p 0) (by_pattern m code p 1) d)
    (choice m (by_pattern m code p 2) (by_pattern m code p 3) d)
    s

choice_bit : (x y by : ℕ) → (if by % 2 =? 0 then x % 2 else y % 2) < 2
choice_bit x y by = ⊎_elim (λ e. rw e (omega arith)) (λ e. rw e (omega arith)) (bit_cases by)

choice_half : (m x y by : ℕ) → choice (suc m) x y by / 2 ≡ choice m (x / 2) (y / 2) (by / 2)
unfolding choice
choice_half m x y by = let h = choice_bit x y by in omega arith

choice_odd : (m x y by : ℕ) → choice (suc m) x y by % 2 ≡ if by % 2 =? 0 then x % 2 else y % 2
unfolding choice
choice_odd m x y by = let h = choice_bit x y by in omega arith

mask_half : (m x : ℕ) → mask (suc m) (x % 2) / 2 ≡ mask m (x % 2)
mask_half m x = ⊎_elim (λ e. rw e (omega arith)) (λ e. rw e (omega (arith, pow-suc 2 m, pow_pos m))) (bit_cases x)

mask_odd : (m x : ℕ) → mask (suc m) (x % 2) % 2 ≡ x % 2
mask_odd m x = ⊎_elim (λ e. rw e (omega arith)) (λ e. rw e (omega (arith, pow-suc 2 m, pow_pos m))) (bit_cases x)

pattern_half : (m code p i : ℕ) → by_pattern (suc m) code p i / 2 ≡ by_pattern m code (p / 2) i
unfolding by_pattern
pattern_half m code p i =
    choice_half m _ _ p ∙ rw (mask_half m (code / 2 ^ i), mask_half m (code / 2 ^ (i + 4)))

pattern_odd : (m code p i : ℕ) → by_pattern (suc m) code p i % 2 ≡ if p % 2 =? 0 then bit code i else bit code (i + 4)
unfolding by_pattern
pattern_odd m code p i =
    choice_odd m _ _ p ∙ rw (mask_odd m (code / 2 ^ i), mask_odd m (code / 2 ^ (i + 4)))

-- the eight cases of three bits
cases_bit : (code p s d : ℕ)
    → (if s % 2 =? 0
    then (if d % 2 =? 0 then (if p % 2 =? 0 then bit code 0 else bit code 4) else (if p % 2 =? 0 then bit code 1 else bit code 5))
    else (if d % 2 =? 0 then (if p % 2 =? 0 then bit code 2 else bit code 6) else (if p % 2 =? 0 then bit code 3 else bit code 7)))
    ≡ chosen_bit code (p % 2) (s % 2) (d % 2)
cases_bit code =
    by_bits
    (λ p s d.
    (if s =? 0
    then (if d =? 0 then (if p =? 0 then bit code 0 else bit code 4) else (if p =? 0 then bit code 1 else bit code 5))
    else (if d =? 0 then (if p =? 0 then bit code 2 else bit code 6) else (if p =? 0 then bit code 3 else bit code 7)))
    ≡ chosen_bit code p s d)
    refl refl refl refl refl refl refl refl

choices_none : (code p s d : ℕ) → by_choices zero code p s d ≡ 0
unfolding by_choices choice
choices_none code p s d = refl

choices_odd : (code m p s d : ℕ) → by_choices (suc m) code p s d % 2 ≡ chosen_bit code (p % 2) (s % 2) (d % 2)
unfolding by_choices
choices_odd code m p s d = simp (choice_odd, pattern_odd) (cases_bit code p s d)

choices_half : (code m p s d : ℕ) → by_choices (suc m) code p s d / 2 ≡ by_choices m code (p / 2) (s / 2) (d / 2)
unfolding by_choices
choices_half code m p s d = simp (choice_half, pattern_half)

pub raster_choices : (code m p s d : ℕ) → raster m code p s d ≡ by_choices m code p s d
raster_choices code =
    raster_unique code (λ m p s d. by_choices m code p s d) (choices_none code) (choices_odd code) (choices_half code)

-- a choice in three operations
choose_bit : (x y by : ℕ) → differ (x % 2) (bit_and by (bit_xor x y) % 2) ≡ if by % 2 =? 0 then x % 2 else y % 2
choose_bit x y by =
    rw (and_mod by (bit_xor x y) 1, xor_mod x y 1)
    (by_bits (λ a b c. differ a (bit_and c (bit_xor a b)) ≡ if c =? 0 then a else b) refl refl refl refl refl refl refl refl x y by)

pub choose_whole : (m x y by : ℕ) → x < 2 ^ m → y < 2 ^ m → bit_xor x (bit_and by (bit_xor x y)) ≡ choice m x y by
unfolding choice
choose_whole zero x y by hx hy =
    let ex : x ≡ 0 = omega arith in
    let ey : y ≡ 0 = omega arith in
    rw (ex, ey) (xor_zero_l _ ∙ and_zero_r by)
choose_whole (suc m) x y by hx hy =
    let z = bit_and by (bit_xor x y) in
    let e : z / 2 ≡ bit_and (by / 2) (bit_xor (x / 2) (y / 2)) = and_shr by (bit_xor x y) 1 ∙ ap (bit_and (by / 2)) (xor_shr x y 1) in
    let ih : bit_xor (x / 2) (z / 2) ≡ choice m (x / 2) (y / 2) (by / 2) =
    ap (bit_xor (x / 2)) e ∙ choose_whole m (x / 2) (y / 2) (by / 2) (omega (arith, pow-suc 2 m)) (omega (arith, pow-suc 2 m)) in
    omega (arith, xor_step x z, choose_bit x y by)

-- ---- blends

-- a number's bits where `keep` has 1, xor `flip`
abbrev pub blended : (flip keep old : ℕ) → ℕ
blended flip keep old = bit_xor flip (bit_and old keep)

-- its low bits are the blend of the low bits
pub blended_low : (m flip keep old : ℕ) → blended flip keep old % 2 ^ m ≡ blended (flip % 2 ^ m) (keep % 2 ^ m) (old % 2 ^ m)
blended_low m flip keep old = xor_mod flip (bit_and old keep) m ∙ ap (bit_xor (flip % 2 ^ m)) (and_mod old keep m)

-- of one pattern and one source value the raster operation is a choice by D, between what they give where D is 0 and where it
-- is 1
module _ (code : ℕ) where
  unfoldable by_destination : ℕ → ℕ → ℕ → ℕ → ℕ
  by_destination m p s d = choice m (raster m code p s 0) (raster m code p s (2 ^ m - 1)) d

  destination_none : (p s d : ℕ) → by_destination zero p s d ≡ 0
  unfolding by_destination choice
  destination_none p s d = refl

  destination_odd : (m p s d : ℕ) → by_destination (suc m) p s d % 2 ≡ chosen_bit code (p % 2) (s % 2) (d % 2)
  unfolding by_destination
  destination_odd m p s d =
      let ones : (2 ^ suc m - 1) % 2 ≡ 1 = omega (arith, pow-suc 2 m, pow_pos m) in
      choice_odd m _ _ d
      ∙ rw (raster_odd m code p s 0, raster_odd m code p s (2 ^ suc m - 1), ones)
      (⊎_elim (λ e. rw e) (λ e. rw e) (bit_cases d))

  destination_half : (m p s d : ℕ) → by_destination (suc m) p s d / 2 ≡ by_destination m (p / 2) (s / 2) (d / 2)
  unfolding by_destination
  destination_half m p s d =
      let ones : (2 ^ suc m - 1) / 2 ≡ 2 ^ m - 1 = omega (arith, pow-suc 2 m, pow_pos m) in
      choice_half m _ _ d ∙ rw (raster_half m code p s 0, raster_half m code p s (2 ^ suc m - 1), ones)

  raster_by_destination : (m p s d : ℕ) → raster m code p s d ≡ choice m (raster m code p s 0) (raster m code p s (2 ^ m - 1)) d
  unfolding by_destination
  raster_by_destination = raster_unique code by_destination destination_none destination_odd destination_half

-- so it is a blend of D
abbrev pub flip_of : (code p s : ℕ) → ℕ
flip_of code p s = raster 32 code p s 0

abbrev pub keep_of : (code p s : ℕ) → ℕ
keep_of code p s = bit_xor (raster 32 code p s 0) (raster 32 code p s (2 ^ 32 - 1))

pub raster_blended : (code p s d : ℕ) → blended (flip_of code p s) (keep_of code p s) d ≡ raster 32 code p s d
raster_blended code p s d =
    choose_whole 32 (raster 32 code p s 0) (raster 32 code p s (2 ^ 32 - 1)) d (raster_lt 32 code p s 0) (raster_lt 32 code p s (2 ^ 32 - 1))
    ∙ sym (raster_by_destination code 32 p s d)

-- the blend that keeps all
pub blended_all : (old : ℕ) → blended 0 (2 ^ 32 - 1) old ≡ old % 2 ^ 32
blended_all old = xor_zero_l _ ∙ and_mask old 32

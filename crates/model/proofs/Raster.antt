-- What is proved of specs/Raster.
use Prim.Native.Nat.{ℕ, zero, suc, ◌/◌, ◌%◌, ◌^◌, ◌<◌}
use Rattle.std.specs.Prelude.{◌≡◌, refl}
use Rattle.std.proofs.Math.Path.{sym}
use Rattle.std.proofs.Common.{ap, ◌∙◌, arith, mod-lt, div-one, pow-suc}
use Rattle.std.proofs.Math.Nat.{mod-one}
use Rattle.std.specs.Int.Bits.{bit_xor}
use Rattle.std.proofs.lemmas.Nat.{xor_shr, xor_mod}
use Rattle.model.specs.Bits.{bit}
use Rattle.model.proofs.Bits.{by_bits, bit_suc, low_split}
use Rattle.model.specs.Raster.{chosen_bit, raster}

-- ---- laws

chosen_lt : (code p s d : ℕ) → chosen_bit code p s d < 2
chosen_lt code p s d = mod-lt _ (omega arith)

pub raster_odd : (m code p s d : ℕ) → raster (suc m) code p s d % 2 ≡ chosen_bit code (p % 2) (s % 2) (d % 2)
unfolding raster
raster_odd m code p s d = let h = chosen_lt code (p % 2) (s % 2) (d % 2) in omega arith

pub raster_half : (m code p s d : ℕ) → raster (suc m) code p s d / 2 ≡ raster m code (p / 2) (s / 2) (d / 2)
unfolding raster
raster_half m code p s d = let h = chosen_lt code (p % 2) (s % 2) (d % 2) in omega arith

-- the rule as document 01 words it, at each of the m bits
pub raster_bit : (m code p s d i : ℕ) → i < m
    → bit (raster m code p s d) i ≡ chosen_bit code (bit p i) (bit s i) (bit d i)
raster_bit zero code p s d i h = absurd (omega arith)
raster_bit (suc m) code p s d zero h =
    simp div-one (raster_odd m code p s d)
raster_bit (suc m) code p s d (suc i) h =
    bit_suc (raster (suc m) code p s d) i
    ∙ ap (λ (x : ℕ). bit x i) (raster_half m code p s d)
    ∙ raster_bit m code (p / 2) (s / 2) (d / 2) i (omega arith)
    ∙ simp bit_suc

-- it is a number of m bits
pub raster_lt : (m code p s d : ℕ) → raster m code p s d < 2 ^ m
unfolding raster
raster_lt zero code p s d = omega arith
raster_lt (suc m) code p s d =
    omega (arith, pow-suc 2 m, chosen_lt code (p % 2) (s % 2) (d % 2), raster_lt m code (p / 2) (s / 2) (d / 2))

-- any other way to compute it that gives each bit by the rule gives the same number
module _ (code : ℕ) (way : ℕ → ℕ → ℕ → ℕ → ℕ)
    (none : (p s d : ℕ) → way zero p s d ≡ 0)
    (odd : (m p s d : ℕ) → way (suc m) p s d % 2 ≡ chosen_bit code (p % 2) (s % 2) (d % 2))
    (half : (m p s d : ℕ) → way (suc m) p s d / 2 ≡ way m (p / 2) (s / 2) (d / 2)) where
  pub raster_unique : (m p s d : ℕ) → raster m code p s d ≡ way m p s d
  unfolding raster
  raster_unique zero p s d = sym (none p s d)
  raster_unique (suc m) p s d =
      omega (arith, odd m p s d, half m p s d, raster_unique m (p / 2) (s / 2) (d / 2))

-- so does the low part of a function of whole numbers whose lowest bit follows the rule and whose other bits are its own
-- at the operands' other bits
module _ (code : ℕ) (way : ℕ → ℕ → ℕ → ℕ)
    (odd : (p s d : ℕ) → chosen_bit code (p % 2) (s % 2) (d % 2) ≡ way p s d % 2)
    (half : (p s d : ℕ) → way p s d / 2 ≡ way (p / 2) (s / 2) (d / 2)) where
  pub raster_low : (m p s d : ℕ) → raster m code p s d ≡ way p s d % 2 ^ m
  raster_low =
      raster_unique code (λ m p s d. way p s d % 2 ^ m) (λ p s d. mod-one (way p s d))
      (λ m p s d. omega (arith, low_split m (way p s d), odd p s d))
      (λ m p s d. omega (arith, low_split m (way p s d), ap (λ (x : ℕ). x % 2 ^ m) (half p s d)))

-- CCh gives S, F0h gives P, AAh gives D (000, Table 6-26)
pub raster_source : (m p s d : ℕ) → raster m 0xCC p s d ≡ s % 2 ^ m
raster_source =
    raster_low 0xCC (λ p s d. s)
    (by_bits (λ p s d. chosen_bit 0xCC p s d ≡ s) refl refl refl refl refl refl refl refl) (λ p s d. refl)

pub raster_pattern : (m p s d : ℕ) → raster m 0xF0 p s d ≡ p % 2 ^ m
raster_pattern =
    raster_low 0xF0 (λ p s d. p)
    (by_bits (λ p s d. chosen_bit 0xF0 p s d ≡ p) refl refl refl refl refl refl refl refl) (λ p s d. refl)

pub raster_destination : (m p s d : ℕ) → raster m 0xAA p s d ≡ d % 2 ^ m
raster_destination =
    raster_low 0xAA (λ p s d. d)
    (by_bits (λ p s d. chosen_bit 0xAA p s d ≡ d) refl refl refl refl refl refl refl refl) (λ p s d. refl)

-- 5Ah gives P xor D, 66h gives S xor D (000, Table 6-26)
pub raster_pattern_xor : (m p s d : ℕ) → raster m 0x5A p s d ≡ bit_xor p d % 2 ^ m
raster_pattern_xor =
    raster_low 0x5A (λ p s d. bit_xor p d)
    (λ p s d.
    by_bits (λ p s d. chosen_bit 0x5A p s d ≡ bit_xor p d) refl refl refl refl refl refl refl refl p s d ∙ sym (xor_mod p d 1))
    (λ p s d. xor_shr p d 1)

pub raster_source_xor : (m p s d : ℕ) → raster m 0x66 p s d ≡ bit_xor s d % 2 ^ m
raster_source_xor =
    raster_low 0x66 (λ p s d. bit_xor s d)
    (λ p s d.
    by_bits (λ p s d. chosen_bit 0x66 p s d ≡ bit_xor s d) refl refl refl refl refl refl refl refl p s d ∙ sym (xor_mod s d 1))
    (λ p s d. xor_shr s d 1)

-- What is proved of specs/Bits.
use Rattle.std.specs.Prelude.{ℕ, zero, suc, ◌+◌, ◌*◌, ◌/◌, ◌%◌, ◌^◌, ◌<◌, ◌≡◌, refl, ◌⊎◌}
use Rattle.std.proofs.Common.{sym, ap, subst, ◌∙◌, inl, inr, ⊎_elim, arith, mod-lt, pow-suc, pow_pos}
use Rattle.std.proofs.Math.Nat.{pow-succ', div-div-eq-div-mul}
use Rattle.std.proofs.Math.Arith.{mod-mul}
use Rattle.model.specs.Bits.{bit}

-- ---- laws

pub bit_cases : (x : ℕ) → (x % 2 ≡ 0) ⊎ (x % 2 ≡ 1)
bit_cases x = go (x % 2) (mod-lt x (omega arith))
  where
    go : (r : ℕ) → r < 2 → (r ≡ 0) ⊎ (r ≡ 1)
    go zero h = inl refl
    go (suc zero) h = inr refl
    go (suc (suc r)) h = absurd (omega arith)

-- what holds of three bits in each of the eight cases
pub by_bits : (P : ℕ → ℕ → ℕ → Type 0) → P 0 0 0 → P 0 0 1 → P 0 1 0 → P 0 1 1 → P 1 0 0 → P 1 0 1 → P 1 1 0 → P 1 1 1
    → (x y z : ℕ) → P (x % 2) (y % 2) (z % 2)
by_bits P a b c d e f g h x y z =
    one (λ v. P v (y % 2) (z % 2))
    (one (λ v. P 0 v (z % 2)) (one (P 0 0) a b z) (one (P 0 1) c d z) y)
    (one (λ v. P 1 v (z % 2)) (one (P 1 0) e f z) (one (P 1 1) g h z) y) x
  where
    one : (Q : ℕ → Type 0) → Q 0 → Q 1 → (v : ℕ) → Q (v % 2)
    one Q q r v = ⊎_elim (λ e. subst Q (sym e) q) (λ e. subst Q (sym e) r) (bit_cases v)

pub bit_suc : (x i : ℕ) → bit x (suc i) ≡ bit (x / 2) i
bit_suc x i = ap (λ (y : ℕ). y % 2) (ap (λ (y : ℕ). x / y) (pow-succ' 2 i) ∙ sym (div-div-eq-div-mul x 2 (2 ^ i)))

-- the lowest bit of the m + 1 low bits of a number, and the others
pub low_split : (m x : ℕ) → x % 2 ^ suc m ≡ x / 2 % 2 ^ m * 2 + x % 2
low_split m x = ap (λ (y : ℕ). x % y) (pow-suc 2 m) ∙ mod-mul x (pow_pos m) (omega arith)

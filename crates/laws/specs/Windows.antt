-- Eight bits of two bytes that stand side by side, from any bit of the first on.
use Rattle.std.specs.Prelude.{ℕ, ◌+◌, ◌-◌, ◌*◌, ◌/◌, ◌%◌, ◌^◌, ◌≤◌, ◌<◌, ◌≡◌}
use Rattle.std.proofs.Common.{sym, ap, ◌∙◌, ⊎_elim, arith, shr-shr}
use Rattle.std.proofs.Math.Pow.{field as low_field, mod-mod-pow}
use Rattle.model.specs.Bits.{bit}
use Rattle.laws.specs.Numbers.{less_or_not}

-- a bit of a number's low byte
pub low_bit : (n s : ℕ) → s < 8 → bit n s ≡ bit (n % 256) s
low_bit n s l =
    let e : 8 ≡ 8 - s + s = omega arith in
    let f : 8 - s ≡ 7 - s + 1 = omega arith in
    sym
    (ap (λ (y : ℕ). n % 2 ^ y / 2 ^ s % 2) e ∙ ap (λ (y : ℕ). y % 2) (low_field n (8 - s) s)
    ∙ ap (λ (y : ℕ). n / 2 ^ s % 2 ^ y % 2) f ∙ mod-mod-pow (n / 2 ^ s) (7 - s) 1)

-- two bytes side by side, moved to the right so that bit number `shift` of the first, counted from its top, comes to bit 7
abbrev pub joined : (first second shift : ℕ) → ℕ
joined first second shift = (first * 256 + second) / 2 ^ (8 - shift)

-- so of a row of bytes bit 7 - k is bit number shift + k; the second byte is the first itself where c bits need no more
pub joined_bit : (byte : ℕ → ℕ) (shift c k : ℕ) → shift < 8 → c ≤ 8 → k < c → byte ((shift + c - 1) / 8) < 256
    → bit (joined (byte 0) (byte ((shift + c - 1) / 8)) shift) (7 - k) ≡ bit (byte ((shift + k) / 8)) (7 - (shift + k) % 8)
joined_bit byte shift c k s h l small =
    ap (λ (y : ℕ). y % 2) (shr-shr both (8 - shift) (7 - k)) ∙ ⊎_elim in_first in_second (less_or_not (shift + k) 8)
  where
    second : ℕ
    second = byte ((shift + c - 1) / 8)

    both : ℕ
    both = byte 0 * 256 + second

    last : ℕ
    last = 7 - (shift + k) % 8

    in_first : shift + k < 8 → both / 2 ^ (8 - shift + (7 - k)) % 2 ≡ bit (byte ((shift + k) / 8)) last
    in_first p =
        let e : 8 - shift + (7 - k) ≡ 8 + last = omega arith in
        let f : both / 2 ^ 8 ≡ byte 0 = omega arith in
        let z : (shift + k) / 8 ≡ 0 = omega arith in
        ap (λ (y : ℕ). both / 2 ^ y % 2) e ∙ ap (λ (y : ℕ). y % 2) (sym (shr-shr both 8 last))
        ∙ ap (λ (y : ℕ). y / 2 ^ last % 2) f ∙ ap (λ (y : ℕ). bit (byte y) last) (sym z)

    in_second : 8 ≤ shift + k → both / 2 ^ (8 - shift + (7 - k)) % 2 ≡ bit (byte ((shift + k) / 8)) last
    in_second p =
        let e : 8 - shift + (7 - k) ≡ last = omega arith in
        let f : both % 256 ≡ second = omega arith in
        let z : (shift + c - 1) / 8 ≡ (shift + k) / 8 = omega arith in
        ap (λ (y : ℕ). both / 2 ^ y % 2) e ∙ low_bit both last (omega arith)
        ∙ ap (λ (y : ℕ). y / 2 ^ last % 2) f ∙ ap (λ (y : ℕ). bit (byte y) last) z

-- Numbers as text.
use Rattle.std.specs.Prelude.{ℕ, zero, suc, ◌-◌, ◌*◌, ◌/◌, ◌%◌, ◌^◌, ◌≤◌, ◌<◌, ◌≡◌, refl, Bool, true, false, List, [], ◌∷◌, ◌++◌}
use Rattle.std.proofs.Common.{ap, subst, arith, mod-eq_of_lt, div-lt_iff_lt-mul, le-div_iff_mul-le, pow-suc, ltb-true, ltb-false, lt-ltb, le-ltb}
use Rattle.std.proofs.Math.Nat.{div-lt_self, one-le-pow, pow-le-pow_right}
use Rattle.io.specs.Digits.{hex_digit_ascii, last_digits, IsDigitCount}
use Rattle.model.specs.Choice.{◌<?◌}
use Rattle.text.specs.Ascii.{ascii}

-- the decimal digits of n, with no zeros in front: one where n is below 10, else those of n / 10 and then the last one. (At
-- most `more` come before the last one: a number that falls, as a recursion needs.)
abbrev pub digits_of : ℕ → Bool → ℕ → List ℕ
digits_of zero small n = hex_digit_ascii n ∷ []
digits_of (suc more) true n = hex_digit_ascii n ∷ []
digits_of (suc more) false n = digits_of more (n / 10 <? 10) (n / 10) ++ (hex_digit_ascii (n % 10) ∷ [])

-- a number in decimal: before the last digit there are not more than n
unfoldable pub decimal : ℕ → List ℕ
decimal n = digits_of n (n <? 10) n

-- a word of 32 bits in hexadecimal: eight digits in lower case, the highest first
unfoldable pub hexadecimal : ℕ → List ℕ
hexadecimal n = last_digits 16 8 n

-- ---- laws

-- 0 has one digit, and no other number has a 0 in front
pub examples :
    (decimal 0 ≡ ascii "0") × (decimal 90 ≡ ascii "90") × (decimal 4_294_967_295 ≡ ascii "4294967295")
    × (hexadecimal 0x23D66B00 ≡ ascii "23d66b00") × (hexadecimal 10 ≡ ascii "0000000a")
unfolding decimal hexadecimal
examples = (refl, refl, refl, refl, refl)

-- the fewest digits that hold a number are those
fewest_digits : (k n more : ℕ) → n ≤ more → IsDigitCount 10 1 n k → last_digits 10 k n ≡ digits_of more (n <? 10) n
fewest_digits zero n more h f = absurd (omega arith)
fewest_digits (suc zero) n zero h f = let l : n < 10 = f.1 in rw (mod-eq_of_lt l)
fewest_digits (suc zero) n (suc more) h f = let l : n < 10 = f.1 in rw (lt-ltb n 10 l, mod-eq_of_lt l)
fewest_digits (suc (suc k)) n zero h f =
    let last : suc (suc k) - 1 ≡ suc k = omega arith in
    let p = one-le-pow (suc k) 10 (omega arith) in
    let q : 10 ^ suc k ≤ n = subst (λ (x : ℕ). 10 ^ x ≤ n) last (f.2 (omega arith)) in
    absurd (omega arith)
fewest_digits (suc (suc k)) n (suc more) h f =
    let last : suc (suc k) - 1 ≡ suc k = omega arith in
    let rest : k ≡ suc k - 1 = omega arith in
    let p = one-le-pow k 10 (omega arith) in
    let q : 10 ^ suc k ≤ n = subst (λ (x : ℕ). 10 ^ x ≤ n) last (f.2 (omega arith)) in
    let t : 10 ^ suc k ≡ 10 ^ k * 10 = pow-suc 10 k in
    let u : 10 ^ suc (suc k) ≡ 10 ^ suc k * 10 = pow-suc 10 (suc k) in
    let ten : 10 ≤ n = omega arith in
    let d : n / 10 < n = div-lt_self (omega arith) (omega arith) in
    let small : n / 10 < 10 ^ suc k = (div-lt_iff_lt-mul {k = 10} {x = n} {y = 10 ^ suc k} (omega arith)).1 (omega (arith, f.1)) in
    let large : 10 ^ k ≤ n / 10 = (le-div_iff_mul-le {k = 10} {x = 10 ^ k} {y = n} (omega arith)).1 (omega arith) in
    rw (le-ltb n 10 ten) (ap (λ (x : List ℕ). x ++ (hex_digit_ascii (n % 10) ∷ [])) (fewest_digits (suc k) (n / 10) more (omega arith) (omega arith, small, λ l. subst (λ (x : ℕ). 10 ^ x ≤ n / 10) rest large)))

pub fewest_decimal : (n k : ℕ) → IsDigitCount 10 1 n k → last_digits 10 k n ≡ decimal n
unfolding decimal
fewest_decimal n k f = fewest_digits k n n (omega arith) f

-- a number below b to the power of `most` takes no more than `most` digits
pub fewest_most : (b least most n k : ℕ) → 0 < b → least ≤ most → n < b ^ most → IsDigitCount b least n k → k ≤ most
fewest_most b least most n k pos l h f = go (most <? k) refl
  where
    go : (t : Bool) → most <? k ≡ t → k ≤ most
    go false e = ltb-false most k e
    go true e =
        let above = ltb-true most k e in
        let p = f.2 (omega arith) in
        let q = pow-le-pow_right {n = b} pos {i = most} {j = k - 1} (omega arith) in
        absurd (omega arith)

-- so a word of 32 bits has eight hexadecimal digits
pub fewest_hexadecimal : (n k : ℕ) → n < 4_294_967_296 → IsDigitCount 16 8 n k → (k ≡ 8) × (last_digits 16 k n ≡ hexadecimal n)
unfolding hexadecimal
fewest_hexadecimal n k h f =
    let e : k ≡ 8 = omega (arith, fewest_most 16 8 8 n k (omega arith) (omega arith) h f) in
    (e, ap (λ (x : ℕ). last_digits 16 x n) e)

-- Signed numbers of a width. A local holds a signed number's bits, `of_z w z`, and an operation reads them back,
-- `to_z w (of_z w z)`: the laws are stated as the code asks for them, over two numbers that fit.
use Rattle.std.specs.Prelude.{ℕ, suc, ◌+◌, ◌-◌, ◌^◌, ◌≤◌, ◌<◌, ◌≡◌, refl, Bool, true, false, cond, ltb, ℤ, pos, negsuc, ◌+ℤ◌, if◌then◌else◌}
use Rattle.std.proofs.Common.{arith, ltb-true, ltb-false}
use Rattle.std.proofs.Math.IntN.{sub_ℕ}
use Rattle.std.specs.Int.Signed.{lt_z, mag}
use Rattle.std.specs.Int.{Width}
use mir.Val.{SFits, hbits, to_z, of_z}
use Rattle.std.proofs.lemmas.Int.{to_z-of_z}
use Rattle.model.proofs.Choice.{not_both}

-- a difference of two naturals that lie less than h apart
pub mag_sub : (h a b : ℕ) → a < b + h → b ≤ a + h → mag (sub_ℕ a b) < h
mag_sub h a b p q = go (ltb a b) refl
  where
    go : (t : Bool) → ltb a b ≡ t → mag (cond t (negsuc (b - suc a)) (pos (a - b))) < h
    go true e = omega (arith, ltb-true a b e)
    go false e = omega (arith, ltb-false a b e)

-- to a number below 0 a term that is not below 0 is added, to any other a term that is not above 0: the sum fits
abbrev pub towards_zero : Bool → ℤ → Type 0
towards_zero below t = (if below then lt_z t (pos 0) else lt_z (pos 0) t) ≡ false

sum_fits : (w : Width) (e t : ℤ) (below : Bool) → SFits w e → SFits w t → lt_z e (pos 0) ≡ below → towards_zero below t
    → SFits w (e +ℤ t)
sum_fits w (pos m) t true p q b c = absurd (omega (arith, ltb-true m 0 b))
sum_fits w (pos m) (pos n) false p q b c = record { sfits = omega (arith, ltb-false 0 n c, p.sfits) }
sum_fits w (pos m) (negsuc n) false p q b c = record { sfits = mag_sub (2 ^ hbits w) m (suc n) (omega (arith, p.sfits)) (omega (arith, q.sfits)) }
sum_fits w (negsuc m) t false p q b c = absurd (not_both true refl b)
sum_fits w (negsuc m) (pos n) true p q b c = record { sfits = mag_sub (2 ^ hbits w) n (suc m) (omega (arith, q.sfits)) (omega (arith, p.sfits)) }
sum_fits w (negsuc m) (negsuc n) true p q b c = absurd (not_both true refl c)

-- the code's tests against 0 are the number's
pub below_is : (w : Width) (z : ℤ) {b : Bool} → SFits w z → lt_z (to_z w (of_z w z)) (pos 0) ≡ b → lt_z z (pos 0) ≡ b
below_is w z p h = rw (to_z-of_z w z p) at h

pub above_is : (w : Width) (z : ℤ) {b : Bool} → SFits w z → lt_z (pos 0) (to_z w (of_z w z)) ≡ b → lt_z (pos 0) z ≡ b
above_is w z p h = rw (to_z-of_z w z p) at h

-- the code's `if e < 0` and its sum `e + t` in an arm: the sum fits, is the sum of the numbers, and the test is the number's
pub record Sum (w : Width) (e t : ℤ) (below : Bool) : Type 0 where
  pub asked : SFits w (to_z w (of_z w e) +ℤ to_z w (of_z w t))
  pub is : to_z w (of_z w (to_z w (of_z w e) +ℤ to_z w (of_z w t))) ≡ e +ℤ t
  pub test : lt_z e (pos 0) ≡ below

pub sum_of : (w : Width) {e t : ℤ} (below : Bool) → SFits w e → SFits w t → lt_z (to_z w (of_z w e)) (pos 0) ≡ below → towards_zero below t
    → Sum w e t below
sum_of w {e} {t} below p q b c =
    let h = below_is w e p b in
    let f = sum_fits w e t below p q h c in
    record {
      asked = rw (to_z-of_z w e p, to_z-of_z w t q) f;
      is = rw (to_z-of_z w e p, to_z-of_z w t q, to_z-of_z w (e +ℤ t) f);
      test = h;
    }

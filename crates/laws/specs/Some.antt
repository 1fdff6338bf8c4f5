-- What the definitions of bounds give: "some number below n" is found, and none is where none has the property; the least and
-- the greatest of n numbers; and an extent is outside exactly where some byte is.
use Prim.Native.Nat.{ℕ, zero, suc, ◌≤◌, ◌<◌}
use Rattle.std.specs.Prelude.{◌≡◌, refl, Bool, true, false, Option, is_none}
use Rattle.std.proofs.Common.{subst, eq-or-lt_of_le, le_of_suc-le-suc}
use Rattle.std.proofs.Math.Logic.{⊎_elim}
use native.Mathlib.Omega.{arith}
use borrow.Author.Tests.{ltb-false, le-ltb}
use Rattle.model.specs.Choice.{◌<?◌}
use Rattle.model.proofs.Choice.{true_or_false, not_both, either, neither, if_both}
use Rattle.model.specs.Bounds.{some, outside, least, greatest, extent}
use Rattle.model.specs.declared.Extent.{Extent}

pub some_found : (n : ℕ) (has : ℕ → Bool) → some n has ≡ true → (k : ℕ) × (k < n) × (has k ≡ true)
unfolding some
some_found zero has e = absurd (not_both false e refl)
some_found (suc n) has e =
    ⊎_elim
    (λ p. let f = some_found n has p in (f.0, (let l = f.1 in omega arith), f.2))
    (λ p. (n, omega arith, p))
    (either (some n has) (has n) e)

pub some_not : (n : ℕ) (has : ℕ → Bool) (k : ℕ) → some n has ≡ false → k < n → has k ≡ false
unfolding some
some_not zero has k e l = absurd (omega arith)
some_not (suc n) has k e l =
    let h = neither (some n has) (has n) e in
    ⊎_elim
    (λ q. subst (λ (x : ℕ). has x ≡ false) (omega arith) h.1)
    (λ q. some_not n has k h.0 q)
    (eq-or-lt_of_le (le_of_suc-le-suc l))

pub some_at : (n : ℕ) (has : ℕ → Bool) (k : ℕ) → k < n → has k ≡ true → some n has ≡ true
some_at n has k l e =
    ⊎_elim (λ p. p) (λ p. absurd (not_both (has k) e (some_not n has k p l))) (true_or_false (some n has))

pub some_none : (n : ℕ) (has : ℕ → Bool) → ((k : ℕ) → k < n → has k ≡ false) → some n has ≡ false
some_none n has h =
    ⊎_elim
    (λ p. let f = some_found n has p in absurd (not_both (has f.0) f.2 (h f.0 f.1)))
    (λ p. p)
    (true_or_false (some n has))

-- ---- the least and the greatest of f 0 to f n

-- each is m where m is found and nothing lies beyond it
module _ (f : ℕ → ℕ) (m : ℕ) where
  least_ge : (n : ℕ) → ((i : ℕ) → i ≤ n → m ≤ f i) → m ≤ least n f
  unfolding least
  least_ge zero h = h 0 (omega arith)
  least_ge (suc n) h =
      if_both (λ x. m ≤ x) (f (suc n) <? least n f) (h (suc n) (omega arith)) (least_ge n (λ i l. h i (omega arith)))

  pub least_is : (n k : ℕ) → k ≤ n → f k ≡ m → ((i : ℕ) → i ≤ n → m ≤ f i) → least n f ≡ m
  unfolding least
  least_is zero k l e h = let z : k ≡ 0 = omega arith in rw z at e
  least_is (suc n) k l e h =
      ⊎_elim
      (λ (q : k ≡ suc n).
      let low = least_ge n (λ i p. h i (omega arith)) in
      rw (rw q at e) (⊎_elim (λ t. rw t) (λ t. rw t (omega (arith, ltb-false m (least n f) t))) (true_or_false (m <? least n f))))
      (λ (q : k < suc n). rw (least_is n k (omega arith) e (λ i p. h i (omega arith)), le-ltb (f (suc n)) m (h (suc n) (omega arith))))
      (eq-or-lt_of_le l)

  greatest_le : (n : ℕ) → ((i : ℕ) → i ≤ n → f i ≤ m) → greatest n f ≤ m
  unfolding greatest
  greatest_le zero h = h 0 (omega arith)
  greatest_le (suc n) h =
      if_both (λ x. x ≤ m) (greatest n f <? f (suc n)) (h (suc n) (omega arith)) (greatest_le n (λ i l. h i (omega arith)))

  pub greatest_is : (n k : ℕ) → k ≤ n → f k ≡ m → ((i : ℕ) → i ≤ n → f i ≤ m) → greatest n f ≡ m
  unfolding greatest
  greatest_is zero k l e h = let z : k ≡ 0 = omega arith in rw z at e
  greatest_is (suc n) k l e h =
      ⊎_elim
      (λ (q : k ≡ suc n).
      let high = greatest_le n (λ i p. h i (omega arith)) in
      rw (rw q at e) (⊎_elim (λ t. rw t) (λ t. rw t (omega (arith, ltb-false (greatest n f) m t))) (true_or_false (greatest n f <? m))))
      (λ (q : k < suc n). rw (greatest_is n k (omega arith) e (λ i p. h i (omega arith)), le-ltb m (f (suc n)) (h (suc n) (omega arith))))
      (eq-or-lt_of_le l)

-- ---- extents

abbrev pub is_outside : Option Extent → Bool
is_outside = is_none

pub extent_outside : (framelength depth count offset : ℕ) (plus minus : ℕ → ℕ) {e : Option Extent}
    → e ≡ extent framelength depth count offset plus minus → outside framelength depth count offset plus minus ≡ is_outside e
unfolding extent
extent_outside framelength depth count offset plus minus q =
    rw q (⊎_elim (λ t. rw t) (λ t. rw t) (true_or_false (outside framelength depth count offset plus minus)))

-- Pixel k of a vector with no walk. Errors and terms are biased, 32,768 more, so that none is below 0. A diagonal step in place of
-- an axial one lowers the error by the axial term less the diagonal one. Once a step of each kind is taken the error lies from the
-- diagonal term to below the axial term: that tells how many of the first k steps are diagonal.
use Prim.Native.Nat.{ℕ, zero, suc, ◌+◌, ◌-◌, ◌*◌, ◌/◌, ◌≤◌, ◌<◌}
use Rattle.std.specs.Prelude.{◌≡◌, Bool, cond, ◌⊎◌, ltb, ℤ, pos, negsuc, ◌+ℤ◌, if◌then◌else◌}
use Rattle.std.proofs.Math.Path.{refl, ap}
use Rattle.std.proofs.Common.{sym, ◌∙◌, inr, ⊎_elim, arith, add-one, mul-le-mul, lt_of_mul-lt-mul_right}
use Rattle.std.proofs.Math.Bool.{true, false}
use Rattle.std.proofs.Math.Logic.{inl}
use Rattle.std.proofs.Math.Nat.{div-eq_of_lt-le}
use Rattle.std.proofs.Math.IntN.{sub_ℕ, +ℤ_assoc, +ℤ_comm}
use Rattle.std.specs.Int.Signed.{lt_z}
use borrow.Author.Tests.{ltb-true, ltb-false, le-ltb}
use Rattle.model.specs.Choice.{◌<?◌}
use Rattle.model.specs.Limits.{side_most}
use Rattle.model.specs.VectorPixel.{major_step, minor_step, moved, axial_step, diagonal_step, step, position}
use Rattle.model.specs.declared.Vector.{Vector}
use Rattle.model.specs.declared.Position.{Position}
use Rattle.laws.specs.Ranges.{RangedVector}
use Rattle.laws.specs.Walks.{ahead, back, moved_by, moved_error}

-- ---- biased numbers

abbrev pub bias : ℕ
bias = 32_768

abbrev pub unbiased : ℕ → ℤ
unbiased n = sub_ℕ n bias

unbiased_below : (n : ℕ) → lt_z (unbiased n) (pos 0) ≡ n <? bias
unbiased_below n = go (ltb n bias)
  where
    go : (b : Bool) → lt_z (cond b (negsuc (bias - suc n)) (pos (n - bias))) (pos 0) ≡ b
    go true = refl
    go false = le-ltb (n - bias) 0 (omega arith)

unbiased_above : (n : ℕ) → lt_z (pos 0) (unbiased n) ≡ false → n ≤ bias
unbiased_above n = go (ltb n bias) refl
  where
    go : (b : Bool) → ltb n bias ≡ b → lt_z (pos 0) (cond b (negsuc (bias - suc n)) (pos (n - bias))) ≡ false → n ≤ bias
    go true e h = omega (arith, ltb-true n bias e)
    go false e h = omega (arith, ltb-false 0 (n - bias) h)

unbiased_sum : (m n : ℕ) → bias ≤ m + n → unbiased m +ℤ unbiased n ≡ unbiased (m + n - bias)
unbiased_sum m n h =
    let less = negsuc 32_767 in
    let both : unbiased (m + n) ≡ pos (m + n - bias) = rw (le-ltb (m + n) bias h) in
    +ℤ_assoc (pos m) less (unbiased n)
    ∙ ap (λ (z : ℤ). pos m +ℤ z) (+ℤ_comm less (unbiased n))
    ∙ sym (+ℤ_assoc (pos m) (unbiased n) less)
    ∙ ap (λ (z : ℤ). z +ℤ less) (sym (+ℤ_assoc (pos m) (pos n) less) ∙ both)

-- the initial error and the terms of a vector, biased, and their ranges
pub record TermsOf (v : Vector) (initial axial diagonal : ℕ) : Type 0 where
  pub initial_is : v.initial ≡ unbiased initial
  pub axial_is : v.axial ≡ unbiased axial
  pub diagonal_is : v.diagonal ≡ unbiased diagonal

pub record Terms (initial axial diagonal : ℕ) : Type 0 where
  pub initial_most : initial < 65_536
  pub axial_least : bias ≤ axial
  pub axial_most : axial < 65_536
  pub diagonal_most : diagonal ≤ bias

pub terms_in_range : {v : Vector} {initial axial diagonal : ℕ} → RangedVector v → TermsOf v initial axial diagonal
    → initial < 65_536 → axial < 65_536 → Terms initial axial diagonal
terms_in_range {v} {initial} {axial} {diagonal} r o p q = record {
  initial_most = p;
  axial_least = ltb-false axial bias (sym (unbiased_below axial) ∙ rw o.axial_is at r.axial_rises);
  axial_most = q;
  diagonal_most = unbiased_above diagonal (rw o.diagonal_is at r.diagonal_falls);
}

-- a number of steps times a term, or times a step's bytes
pub product_most : (k n : ℕ) → k ≤ side_most → n ≤ 65_539 → k * n ≤ 268_382_205
product_most k n = mul-le-mul

-- ---- positions

same_position : {s t : Position} → s.plus ≡ t.plus → s.minus ≡ t.minus → s.error ≡ t.error → s ≡ t
same_position p m e = λ i. record { plus = p i; minus = m i; error = e i }

-- k steps along the major axis, n along the minor one
abbrev reached : Vector → (k n error : ℕ) → Position
reached v k n error = record {
  plus = k * (major_step v * ahead v.majorpositive) + n * (minor_step v * ahead v.minorpositive);
  minus = k * (major_step v * back v.majorpositive) + n * (minor_step v * back v.minorpositive);
  error = unbiased error;
}

module _ (initial axial diagonal : ℕ) where
  -- the error after k steps, and how many of them are diagonal
  unfoldable pub error_at : ℕ → ℕ
  error_at zero = initial
  error_at (suc k) = error_at k + (if error_at k <? bias then axial else diagonal) - bias

  unfoldable pub diagonals : ℕ → ℕ
  diagonals zero = 0
  diagonals (suc k) = if error_at k <? bias then diagonals k else suc (diagonals k)

  -- what holds of them
  pub record Counted (k n error : ℕ) : Type 0 where
    pub most : n ≤ k
    pub small : error < 65_536
    pub sum : error + n * (axial - diagonal) ≡ initial + k * (axial - bias)
    pub low : (n ≡ 0) ⊎ (diagonal ≤ error)
    pub high : (n ≡ k) ⊎ (error < axial)

  module _ (t : Terms initial axial diagonal) where
    onward : {k n error : ℕ} → Counted k n error → (b : Bool) → error <? bias ≡ b
        → Counted (suc k) (if b then n else suc n) (error + (if b then axial else diagonal) - bias)
    onward {k} {n} {error} c true e =
        let l = ltb-true error bias e in
        record {
          most = omega arith;
          small = omega arith;
          sum = omega arith;
          low = ⊎_elim (λ z. inl z) (λ (z : diagonal ≤ error). inr (omega arith)) c.low;
          high = inr (omega arith);
        }
    onward {k} {n} {error} c false e =
        let l = ltb-false error bias e in
        record {
          most = omega arith;
          small = omega arith;
          sum = omega arith;
          low = inr (omega arith);
          high = ⊎_elim (λ (z : n ≡ k). inl (ap suc z)) (λ (z : error < axial). inr (omega arith)) c.high;
        }

    pub counted : (k : ℕ) → Counted k (diagonals k) (error_at k)
    unfolding error_at diagonals
    counted zero = record { most = omega arith; small = t.initial_most; sum = omega arith; low = inl refl; high = inl refl }
    counted (suc k) = onward (counted k) (error_at k <? bias) refl

    -- ---- the count, by the error after k axial steps

    module _ (k : ℕ) where
      abbrev total : ℕ
      total = initial + k * (axial - bias)

      pub none_diagonal : total < diagonal → 0 ≡ diagonals k
      none_diagonal l = let c = counted k in ⊎_elim sym (λ (z : diagonal ≤ error_at k). absurd (omega arith)) c.low

      below_next : diagonal ≤ total → (diagonals k ≡ k) ⊎ (total - diagonal < suc (diagonals k) * (axial - diagonal))
      below_next l = let c = counted k in ⊎_elim (λ z. inl z) (λ (z : error_at k < axial). inr (omega arith)) c.high

      pub some_diagonal : diagonal ≤ total → total - diagonal < k * (axial - diagonal)
          → (total - diagonal) / (axial - diagonal) ≡ diagonals k
      some_diagonal l q =
          let c = counted k in
          div-eq_of_lt-le (axial - diagonal)
          (⊎_elim (λ (z : diagonals k ≡ 0). rw z (omega arith)) (λ (z : diagonal ≤ error_at k). omega arith) c.low)
          (rw add-one (⊎_elim (λ (z : diagonals k ≡ k). rw z (omega arith)) (λ z. z) (below_next l)))

      pub each_diagonal : diagonal ≤ total → k * (axial - diagonal) ≤ total - diagonal → k ≡ diagonals k
      each_diagonal l q =
          let c = counted k in
          ⊎_elim sym
          (λ z. let w : k < suc (diagonals k) = lt_of_mul-lt-mul_right (axial - diagonal) (omega arith) in omega arith)
          (below_next l)

    -- ---- the law

    module _ (v : Vector) (o : TermsOf v initial axial diagonal) where
      stepped : (k n error : ℕ) (b : Bool) → error <? bias ≡ b
          → step v (reached v k n error) ≡ reached v (suc k) (if b then n else suc n) (error + (if b then axial else diagonal) - bias)
      unfolding step axial_step diagonal_step
      stepped k n error true e =
          let m = moved_by v.majorpositive (major_step v) (reached v k n error) in
          rw (unbiased_below error ∙ e)
          (same_position (omega arith) (omega arith)
          (ap (λ (z : ℤ). unbiased error +ℤ z) o.axial_is ∙ unbiased_sum error axial (omega arith)))
      stepped k n error false e =
          let along = moved v.majorpositive (major_step v) (reached v k n error) in
          let m = moved_by v.majorpositive (major_step v) (reached v k n error) in
          let a = moved_by v.minorpositive (minor_step v) along in
          let l = ltb-false error bias e in
          rw (unbiased_below error ∙ e)
          (same_position (omega arith) (omega arith)
          (ap (λ (z : ℤ). unbiased error +ℤ z) o.diagonal_is ∙ unbiased_sum error diagonal (omega arith)))

      position_is : (k : ℕ) → position v k ≡ reached v k (diagonals k) (error_at k)
      unfolding position error_at diagonals
      position_is zero = same_position (omega arith) (omega arith) o.initial_is
      position_is (suc k) = ap (step v) (position_is k) ∙ stepped k (diagonals k) (error_at k) (error_at k <? bias) refl

      -- pixel k: the steps along each axis at once
      pub closed_form : (k : ℕ)
          → moved v.minorpositive (diagonals k * minor_step v)
          (moved v.majorpositive (k * major_step v) (record { plus = 0; minus = 0; error = unbiased (error_at k) }))
          ≡ position v k
      closed_form k =
          let first : Position = record { plus = 0; minus = 0; error = unbiased (error_at k) } in
          let along = moved v.majorpositive (k * major_step v) first in
          let m = moved_by v.majorpositive (k * major_step v) first in
          let a = moved_by v.minorpositive (diagonals k * minor_step v) along in
          same_position (omega arith) (omega arith)
          (moved_error v.minorpositive (diagonals k * minor_step v) along ∙ moved_error v.majorpositive (k * major_step v) first)
          ∙ sym (position_is k)

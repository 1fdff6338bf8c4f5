-- The columns and rows of pixels that are counted row by row, and which of two numbers is less.
use Rattle.std.specs.Prelude.{ℕ, zero, suc, ◌+◌, ◌-◌, ◌*◌, ◌/◌, ◌%◌, ◌≤◌, ◌<◌, ◌≡◌, ◌⊎◌}
use Rattle.std.proofs.Common.{◌∙◌, inl, inr, ⊎_elim, arith, mul-le-mul_right, mod-eq_of_lt, div-lt_iff_lt-mul, div-add-mod', add-zero, add-mul, mul_comm, mod-lt}
use Rattle.std.proofs.Math.Nat.{mul-add-mod_self_right, mul-add-div_right, div-eq_of_lt}

pub less_or_not : (m n : ℕ) → (m < n) ⊎ (n ≤ m)
less_or_not m zero = inr (omega arith)
less_or_not zero (suc n) = inl (omega arith)
less_or_not (suc m) (suc n) = ⊎_elim (λ l. inl (omega arith)) (λ l. inr (omega arith)) (less_or_not m n)

-- of w columns and h rows, column i of row j is number j * w + i
pub column_is : (w j i : ℕ) → i < w → (j * w + i) % w ≡ i
column_is w j i l = mul-add-mod_self_right j w i ∙ mod-eq_of_lt l

pub row_is : (w j i : ℕ) → i < w → (j * w + i) / w ≡ j
row_is w j i l = mul-add-div_right {m = w} (omega arith) j i ∙ rw (div-eq_of_lt l) (add-zero j)

pub number_lt : (w h j i : ℕ) → i < w → j < h → j * w + i < w * h
number_lt w h j i p q =
    let e : suc j * w ≤ h * w = mul-le-mul_right w q in
    let s : suc j * w ≡ j * w + w = omega arith in
    let c = mul_comm w h in
    omega arith

pub row_lt : (w h k : ℕ) → 0 < w → k < w * h → k / w < h
row_lt w h k z l = let c = mul_comm w h in (div-lt_iff_lt-mul z).1 (omega arith)

-- n pixels on in the same row
module _ (w k n : ℕ) (l : k % w + n < w) where
  split : k + n ≡ k / w * w + (k % w + n)
  split = omega (arith, div-add-mod' k w)

  pub column_add : (k + n) % w ≡ k % w + n
  column_add = rw split (column_is w (k / w) (k % w + n) l)

  pub row_add : (k + n) / w ≡ k / w
  row_add = rw split (row_is w (k / w) (k % w + n) l)

-- and from there to the first of the next row
module _ (w k : ℕ) (wide : 0 < w) where
  to_next : k + (w - k % w) ≡ (k / w + 1) * w + 0
  to_next = omega (arith, div-add-mod' k w, mod-lt k wide, add-mul (k / w) 1 w)

  pub column_next : (k + (w - k % w)) % w ≡ 0
  column_next = rw to_next (column_is w (k / w + 1) 0 wide)

  pub row_next : (k + (w - k % w)) / w ≡ k / w + 1
  row_next = rw to_next (row_is w (k / w + 1) 0 wide)

-- Rows whose rule comes round: pixels that lie eight apart have one rule, and a row writer goes by eights.
use Rattle.std.specs.Prelude.{ℕ, ◌+◌, ◌-◌, ◌*◌, ◌/◌, ◌%◌, ◌≤◌, ◌≡◌, List, length}
use Rattle.std.proofs.Common.{◌∙◌, arith, add-mul, div-mul-le_self}
use Rattle.laws.specs.Order.{in_order, order_same, order_add, order_length, Remain, remain_add}
use Rattle.laws.specs.Changes.{changed_at, changed_row, length_changed}

-- a rule that comes round after eight pixels
pub record Round (rule : ℕ → ℕ → ℕ) : Type 0 where
  pub comes_round : (i m : ℕ) → i % 8 ≡ 0 → rule (i + m) ≡ rule m

-- the most of n pixels that make whole eights
abbrev pub whole_eights : ℕ → ℕ
whole_eights n = n - n % 8

-- those and the rest in a row of so many bytes
pub eights_room : (depth size : ℕ) → let n = size / depth in whole_eights n * depth + n % 8 * depth ≤ size
eights_room depth size =
    let n = size / depth in
    let all : whole_eights n + n % 8 ≡ n = omega arith in
    omega (arith, rw all at (add-mul (whole_eights n) (n % 8) depth), div-mul-le_self size depth)

module _ (depth : ℕ) {rule : ℕ → ℕ → ℕ} (round : Round rule) where
  -- c pixels from one whose number is a multiple of eight go by the rule as those from number 0 do
  chunk_at : (c i at : ℕ) → i % 8 ≡ 0 → at ≡ i * depth → (row : List ℕ)
      → changed_row depth rule c at row ≡ in_order (changed_at depth rule 0) i c row
  chunk_at c i at w a =
      order_same (changed_at depth rule at) (changed_at depth rule 0) c 0 i
      (λ m l row.
      let z : 0 + m ≡ m = omega arith in
      let y : 0 + (i + m) * depth ≡ at + m * depth = omega (arith, add-mul i m depth) in
      rw (z, round.comes_round i m w, y))

  -- so many more of a row whose writer goes by eights from pixel k
  pub chunk_next : (k c : ℕ) {n : ℕ} {first : List ℕ} {m at : ℕ} {row next : List ℕ} → Remain (changed_at depth rule 0) k n first m row
      → m + c ≤ n → (k + m) % 8 ≡ 0 → at ≡ (k + m) * depth → next ≡ changed_row depth rule c at row
      → Remain (changed_at depth rule 0) k n first (m + c) next
  chunk_next k c {m = m} {at} {row} r l w a e = remain_add (length_changed depth rule 0) r c l (e ∙ chunk_at c (k + m) at w a row)

  -- the first w pixels of a row, then those up to n
  module _ (row : List ℕ) {w n : ℕ} (p : w ≤ n) {middle : List ℕ} (e : middle ≡ changed_row depth rule w 0 row) where
    pub same_row : length middle ≡ length row
    same_row = rw e (order_length (changed_at depth rule 0) (length_changed depth rule 0) w 0 row)

    pub then_rest : {next : List ℕ} → next ≡ in_order (changed_at depth rule 0) w (n - w) middle → next ≡ changed_row depth rule n 0 row
    then_rest f =
        let z : 0 + w ≡ w = omega arith in
        let all : w + (n - w) ≡ n = omega arith in
        f ∙ rw e (rw (z, all) at (order_add (changed_at depth rule 0) w 0 (n - w) row))

    -- by the rules from the first on, where w makes whole eights
    pub then_few : {c at : ℕ} → w % 8 ≡ 0 → n - w ≡ c → at ≡ w * depth → {next : List ℕ} → next ≡ changed_row depth rule c at middle
        → next ≡ changed_row depth rule n 0 row
    then_few {c} {at} v k a f = then_rest (rw k (f ∙ chunk_at c w at v a middle))

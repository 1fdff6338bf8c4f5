-- The walk along a vector: how far k steps lead.
use Rattle.std.specs.Prelude.{ℕ, zero, suc, ◌+◌, ◌*◌, ◌^◌, ◌≤◌, ◌<◌, ◌≡◌, refl, Bool, true, false, pos, if◌then◌else◌}
use Rattle.std.proofs.Common.{arith, add-zero, zero-add, suc-add, add-one}
use Rattle.std.specs.Int.Signed.{lt_z}
use Rattle.model.specs.VectorPixel.{major_step, minor_step, moved, axial_step, diagonal_step, step, position}
use Rattle.model.specs.declared.Vector.{Vector}
use Rattle.model.specs.declared.Position.{Position}
use Rattle.laws.specs.Pixels.{depth_most}
use Rattle.laws.specs.Ranges.{RangedVector}

-- a position whose two sides are far below the largest number of 64 bits: what a step asks for so that its sums fit
pub record Near (s : Position) : Type 0 where
  pub plus : s.plus < 2 ^ 32
  pub minus : s.minus < 2 ^ 32

-- what a byte of a move adds, and what it takes away
abbrev pub ahead : Bool → ℕ
ahead positive = if positive then 1 else 0

abbrev pub back : Bool → ℕ
back positive = if positive then 0 else 1

pub moved_by : (positive : Bool) (n : ℕ) (s : Position)
    → ((moved positive n s).plus ≡ s.plus + n * ahead positive) × ((moved positive n s).minus ≡ s.minus + n * back positive)
    × (n * ahead positive + n * back positive ≡ n)
moved_by true n s = omega arith
moved_by false n s = omega arith

pub moved_error : (positive : Bool) (n : ℕ) (s : Position) → (moved positive n s).error ≡ s.error
moved_error true n s = refl
moved_error false n s = refl

-- a step along each axis is a pixel and a stride
pub both_steps : (v : Vector) → major_step v + minor_step v ≡ v.stride + v.depth
both_steps v = go v.ymajor
  where
    go : (b : Bool) → (if b then v.stride else v.depth) + (if b then v.depth else v.stride) ≡ v.stride + v.depth
    go true = refl
    go false = omega arith

-- each of the two is no more than a stride and a pixel
pub steps_most : (v : Vector) → RangedVector v → major_step v + minor_step v ≤ 65_539
steps_most v r = omega (arith, both_steps v, depth_most r.deep, r.stride_most)

-- a choice has what both of its arms have
choice_both : {A : Type 0} (P : A → Type 0) (t : Bool) {a b : A} → P a → P b → P (if t then a else b)
choice_both P true p q = p
choice_both P false p q = q

-- no nearer on either side, and at most so many bytes further
pub record Onward (bytes : ℕ) (s t : Position) : Type 0 where
  pub plus_least : s.plus ≤ t.plus
  pub plus_most : t.plus ≤ s.plus + bytes
  pub minus_least : s.minus ≤ t.minus
  pub minus_most : t.minus ≤ s.minus + bytes

-- a step leads at most a pixel and a stride further
step_on : (v : Vector) → RangedVector v → (s : Position) → Onward 65_539 s (step v s)
unfolding step axial_step diagonal_step
step_on v r s =
    let along = moved v.majorpositive (major_step v) s in
    let m = moved_by v.majorpositive (major_step v) s in
    let n = moved_by v.minorpositive (minor_step v) along in
    let b = steps_most v r in
    choice_both (Onward 65_539 s) (lt_z s.error (pos 0)) (omega arith) (omega arith)

-- one step more
pub position_next : (v : Vector) (k : ℕ) {s : Position} → s ≡ position v k → step v s ≡ position v (k + 1)
unfolding position
position_next v k e = rw (add-one, e)

-- i steps lead at most i times as far
pub position_on : (v : Vector) → RangedVector v → (k i : ℕ) {j : ℕ} → i + k ≡ j → Onward (i * 65_539) (position v k) (position v j)
unfolding position
position_on v r k i e = rw e at (go i)
  where
    go : (i : ℕ) → Onward (i * 65_539) (position v k) (position v (i + k))
    go zero = rw zero-add (omega arith)
    go (suc i) = let h = go i in rw suc-add (omega (arith, step_on v r (position v (i + k))))

-- so every pixel of a vector lies near the offset
pub position_near : (v : Vector) (k : ℕ) {s : Position} → RangedVector v → k ≤ v.length → s ≡ position v k → Near s
unfolding position
position_near v k r l e = rw e (omega (arith, r.long_most, position_on v r 0 k (add-zero k)))

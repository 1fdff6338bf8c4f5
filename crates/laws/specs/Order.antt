-- Pixels in order: n of them from number k on, one after the other.
use Prim.Native.Nat.{ℕ, zero, suc, ◌+◌, ◌-◌, ◌≤◌, ◌<◌}
use Rattle.std.specs.Prelude.{◌≡◌, List, length}
use Rattle.std.proofs.Math.Path.{refl, sym}
use Rattle.std.proofs.Common.{ap, ◌∙◌, add-one}
use native.Mathlib.Omega.{arith}
use Rattle.model.specs.BltPixel.{draw_blt}
use Rattle.model.specs.VectorPixel.{draw_vector}
use Rattle.model.specs.Unit.{draw_pixel}
use Rattle.model.specs.declared.Blt.{Blt}
use Rattle.model.specs.declared.Vector.{Vector}
use Rattle.model.specs.declared.Primitive.{Primitive}

unfoldable pub in_order : (ℕ → List ℕ → List ℕ) → ℕ → ℕ → List ℕ → List ℕ
in_order draw k zero frame = frame
in_order draw k (suc n) frame = in_order draw (k + 1) n (draw k frame)

abbrev pub blt_pixels : Blt → ℕ → ℕ → List ℕ → List ℕ
blt_pixels b = in_order (draw_blt b)

abbrev pub vector_pixels : Vector → ℕ → ℕ → List ℕ → List ℕ
vector_pixels v = in_order (draw_vector v)

abbrev pub pixels : Primitive → (registers table : List ℕ) → ℕ → ℕ → List ℕ → List ℕ
pixels primitive registers table = in_order (draw_pixel primitive registers table)

module _ (draw : ℕ → List ℕ → List ℕ) where
  pub order_zero : (k : ℕ) (frame : List ℕ) → in_order draw k 0 frame ≡ frame
  unfolding in_order
  order_zero k frame = refl

  pub order_suc : (k n : ℕ) (frame : List ℕ) → in_order draw k (suc n) frame ≡ in_order draw (k + 1) n (draw k frame)
  unfolding in_order
  order_suc k n frame = refl

  -- n pixels and m more
  pub order_add : (n k m : ℕ) (frame : List ℕ) → in_order draw (k + n) m (in_order draw k n frame) ≡ in_order draw k (n + m) frame
  unfolding in_order
  order_add zero k m frame = let e : k + 0 ≡ k = omega arith in let z : 0 + m ≡ m = omega arith in rw (e, z)
  order_add (suc n) k m frame =
      let e : k + suc n ≡ k + 1 + n = omega arith in
      let z : suc n + m ≡ suc (n + m) = omega arith in
      rw (e, z) (order_add n (k + 1) m (draw k frame))

  -- the last of n + 1 pixels, over what those before it left
  pub order_last : (k n : ℕ) (frame : List ℕ) → in_order draw k (suc n) frame ≡ draw (k + n) (in_order draw k n frame)
  unfolding in_order
  order_last k n frame = sym (rw (add-one n) at (order_add n k 1 frame))

  pub order_length : ((k : ℕ) (frame : List ℕ) → length (draw k frame) ≡ length frame) → (n k : ℕ) (frame : List ℕ)
      → length (in_order draw k n frame) ≡ length frame
  unfolding in_order
  order_length h zero k frame = refl
  order_length h (suc n) k frame = order_length h n (k + 1) (draw k frame) ∙ h k frame

-- pixels drawn in a memory that shows another one: `show` of what the one holds is what the other holds, as long as the one
-- stays what it has to be
pub order_through : (draw other : ℕ → List ℕ → List ℕ) (show : List ℕ → List ℕ) (Kept : List ℕ → Type 0) (n k i : ℕ)
    → ((m : ℕ) → m < n → (frame : List ℕ) → Kept frame
    → (draw (k + m) (show frame) ≡ show (other (i + m) frame)) × Kept (other (i + m) frame))
    → (frame : List ℕ) → Kept frame → in_order draw k n (show frame) ≡ show (in_order other i n frame)
unfolding in_order
order_through draw other show Kept zero k i h frame p = refl
order_through draw other show Kept (suc n) k i h frame p =
    let a : k + 0 ≡ k = omega arith in
    let b : i + 0 ≡ i = omega arith in
    let one = rw (a, b) at (h 0 (omega arith) frame p) in
    rw one.0
    (order_through draw other show Kept n (k + 1) (i + 1)
    (λ m l.
    let c : k + 1 + m ≡ k + suc m = omega arith in
    let d : i + 1 + m ≡ i + suc m = omega arith in
    rw (c, d) (h (suc m) (omega arith)))
    (other i frame) one.1)

-- two ways to draw that agree on these pixels
pub order_same : (draw other : ℕ → List ℕ → List ℕ) (n k i : ℕ)
    → ((m : ℕ) → m < n → (frame : List ℕ) → draw (k + m) frame ≡ other (i + m) frame)
    → (frame : List ℕ) → in_order draw k n frame ≡ in_order other i n frame
order_same draw other n k i h frame =
    order_through draw other (λ frame. frame) (λ frame. Unit {0}) n k i (λ m l frame p. (h m l frame, tt)) frame tt

-- pixels that may change places are drawn from the last to the first with the same end
pub order_reverse : (draw : ℕ → List ℕ → List ℕ) (n : ℕ)
    → ((m k : ℕ) → m < k → k < n → (frame : List ℕ) → draw m (draw k frame) ≡ draw k (draw m frame))
    → (frame : List ℕ) → in_order (λ m. draw (n - 1 - m)) 0 n frame ≡ in_order draw 0 n frame
unfolding in_order
order_reverse draw zero h frame = refl
order_reverse draw (suc n) h frame =
    let a : suc n - 1 - 0 ≡ n = omega arith in
    let b : n + 1 ≡ suc n = omega arith in
    let c : 0 + n ≡ n = omega arith in
    rw a
    (order_same _ (λ m. draw (n - 1 - m)) n 1 0
    (λ m l frame. ap (λ (x : ℕ). draw x frame) (let e : suc n - 1 - (0 + 1 + m) ≡ n - 1 - (0 + m) = omega arith in e))
    (draw n frame)
    ∙ order_reverse draw n (λ m k l p. h m k l (omega arith)) (draw n frame)
    ∙ order_through draw draw (draw n) (λ frame. Unit {0}) n 0 0 (λ m l frame p. (h (0 + m) n (omega arith) (omega arith) frame, tt)) frame tt
    ∙ (rw (b, c) at (order_add draw n 0 1 frame)))

-- ---- loops

-- in the middle of a loop that draws n pixels from number k on: m are drawn, and the rest remain to draw
pub record Remain (draw : ℕ → List ℕ → List ℕ) (k n : ℕ) (first : List ℕ) (m : ℕ) (frame : List ℕ) : Type 0 where
  pub drawn : m ≤ n
  pub same : length frame ≡ length first
  pub rest : in_order draw k n first ≡ in_order draw (k + m) (n - m) frame

module _ {draw : ℕ → List ℕ → List ℕ} {k n : ℕ} where
  pub remain_all : (frame : List ℕ) → Remain draw k n frame 0 frame
  remain_all frame =
      let e : k + 0 ≡ k = omega arith in
      let z : n - 0 ≡ n = omega arith in
      record { drawn = omega arith; same = refl; rest = rw (e, z) }

  pub remain_none : {first : List ℕ} {m : ℕ} {frame : List ℕ} → Remain draw k n first m frame → n ≤ m → frame ≡ in_order draw k n first
  remain_none {first} {m} {frame} r l =
      let z : n - m ≡ 0 = omega arith in
      sym (r.rest ∙ rw z (order_zero draw (k + m) frame))

  module _ (keeps : (k : ℕ) (frame : List ℕ) → length (draw k frame) ≡ length frame)
      {first : List ℕ} {m : ℕ} {frame : List ℕ} (r : Remain draw k n first m frame) where
    -- c pixels more
    pub remain_add : (c : ℕ) {next : List ℕ} → m + c ≤ n → next ≡ in_order draw (k + m) c frame → Remain draw k n first (m + c) next
    remain_add c l e =
        let d : n - m ≡ c + (n - (m + c)) = omega arith in
        let f : k + (m + c) ≡ k + m + c = omega arith in
        record {
          drawn = l;
          same = rw e (order_length draw keeps c (k + m) frame ∙ r.same);
          rest = rw (e, f) (r.rest ∙ rw d (sym (order_add draw c (k + m) (n - (m + c)) frame)));
        }

    -- one more
    pub remain_next : {next : List ℕ} → m < n → next ≡ draw (k + m) frame → Remain draw k n first (m + 1) next
    unfolding in_order
    remain_next l e = remain_add 1 (omega arith) e

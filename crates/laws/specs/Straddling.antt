-- Where a pixel of a host source straddles two words, in closed form: at four bytes a pixel from bytes 1 to 3, at two from byte 3, or
-- from byte 1 where a row has a second pixel, and nowhere where there is no pixel.
use Rattle.std.specs.Prelude.{ℕ, zero, suc, ◌+◌, ◌-◌, ◌*◌, ◌/◌, ◌%◌, ◌≤◌, ◌<◌, ◌≡◌, refl, Bool, true, false, not, ◌&&◌, ◌||◌, List, if◌then◌else◌, Option}
use Rattle.std.proofs.Common.{sym, ap, ◌∙◌, ⊎_elim, arith, mul_assoc, mul-zero, mul-suc, zero-mul, add-zero, mod-lt, mod-eq_of_lt, eq-eqb, ne_eqb, eqb-true, lt-ltb, ltb-true, ltb-false}
use Rattle.std.proofs.lemmas.Bool.{not-false, eqb-false}
use Rattle.model.specs.Choice.{◌<?◌, ◌=?◌}
use Rattle.model.proofs.Choice.{true_or_false, not_both, both, either, neither, if_both}
use Rattle.model.specs.Registers.{format_code, source_mode, width, height}
use Rattle.model.specs.Formats.{format_of, depth_of}
use Rattle.model.specs.Bounds.{some}
use Rattle.model.specs.Rectangle.{pixels_of}
use Rattle.model.specs.BltPixel.{rectangle_of, mono_mode, blt_of}
use Rattle.model.specs.Host.{from_host, starting_byte, host_of, host_byte, host_pixel, straddles}
use Rattle.laws.specs.Pixels.{depth_of_most}
use Rattle.laws.specs.Some.{some_not, some_at, some_none}

-- of rows of so many pixels of so many bytes, from starting byte `first`
abbrev pub straddling : (depth first width : ℕ) → Bool
straddling depth first width =
    if depth =? 4 then not (first =? 0)
    else if depth =? 2 then first =? 3 || first =? 1 && 1 <? width
    else false

-- ---- `some`, where it is known whether one has the property

decided : (n : ℕ) (has : ℕ → Bool) (b : Bool) → (b ≡ true → 0 < n → (k : ℕ) × (k < n) × (has k ≡ true))
    → (b ≡ false → (k : ℕ) → k < n → has k ≡ false) → some n has ≡ (0 <? n && b)
unfolding some
decided zero has b t e = refl
decided (suc n) has true t e =
    let x = t refl (omega arith) in
    some_at (suc n) has x.0 x.1 x.2 ∙ sym (rw (lt-ltb 0 (suc n) (omega arith)))
decided (suc n) has false t e = some_none (suc n) has (e refl) ∙ sym (rw (lt-ltb 0 (suc n) (omega arith)))

-- ---- one pixel

-- of so many bytes from byte x on: it has bytes in two words
abbrev crosses : (depth x : ℕ) → Bool
crosses depth x = not ((x + (depth - 1)) / 4 =? x / 4)

module _ (f : ℕ) (small : f < 4) (x m c : ℕ) where
  crosses_4 : x ≡ f + 4 * m + 4 * c → crosses 4 x ≡ not (f =? 0)
  crosses_4 e =
      ⊎_elim
      (λ p. let z = eqb-true f 0 p in ap not (eq-eqb ((x + 3) / 4) (x / 4) (omega arith) ∙ sym p))
      (λ p. ap not (ne_eqb ((x + 3) / 4) (x / 4) (λ q. eqb-false f 0 p (omega arith)) ∙ sym p))
      (true_or_false (f =? 0))

  crosses_2 : x ≡ f + 4 * m + 2 * c → crosses 2 x ≡ (f + 2 * c) % 4 =? 3
  crosses_2 e =
      let at = (f + 2 * c) % 4 in
      let below : (at ≡ 3 → ⊥) → at < 3 =
      λ h. ⊎_elim (λ t. ltb-true at 3 t) (λ t. absurd (h (omega (arith, ltb-false at 3 t)))) (true_or_false (at <? 3)) in
      ⊎_elim
      (λ p. ap not (ne_eqb ((x + 1) / 4) (x / 4) (λ q. omega (arith, eqb-true at 3 p))) ∙ sym p)
      (λ p. ap not (eq-eqb ((x + 1) / 4) (x / 4) (omega (arith, below (eqb-false at 3 p)))) ∙ sym p)
      (true_or_false (at =? 3))

-- ---- those of a rectangle: n of them in rows of w

sides : (w h : ℕ) → 0 < w * h → (0 < w) × (w ≤ w * h)
sides zero h l = absurd (omega (arith, zero-mul h))
sides (suc w) zero l = absurd (omega (arith, mul-zero (suc w)))
sides (suc w) (suc h) l = (omega arith, omega (arith, mul-suc (suc w) h))

module _ (f w n : ℕ) (small : f < 4) (wide : 0 < n → (0 < w) × (w ≤ n)) where
  -- the words of a row, and the byte in which pixel k begins
  abbrev words : (depth : ℕ) → ℕ
  words depth = (f + (0 + w * (8 * depth) + 7) / 8 + 3) / 4

  abbrev byte_of : (depth k : ℕ) → ℕ
  byte_of depth k = f + k / w * (words depth * 4) + (0 + k % w * (8 * depth)) / 8

  abbrev Closed : (depth : ℕ) → Type 0
  Closed depth = some n (λ k. crosses depth (byte_of depth k)) ≡ (0 <? n && straddling depth f w)

  each_4 : (k : ℕ) → crosses 4 (byte_of 4 k) ≡ not (f =? 0)
  each_4 k = crosses_4 f small (byte_of 4 k) (k / w * words 4) (k % w) (omega (arith, mul_assoc (k / w) (words 4) 4))

  each_2 : (k : ℕ) → crosses 2 (byte_of 2 k) ≡ (f + 2 * (k % w)) % 4 =? 3
  each_2 k = crosses_2 f small (byte_of 2 k) (k / w * words 2) (k % w) (omega (arith, mul_assoc (k / w) (words 2) 4))

  never : (depth : ℕ) → depth - 1 ≡ 0 → some n (λ k. crosses depth (byte_of depth k)) ≡ (0 <? n && false)
  never depth z =
      decided n _ false
      (λ e. absurd (not_both false e refl))
      (λ e k l. rw (eq-eqb ((byte_of depth k + (depth - 1)) / 4) (byte_of depth k / 4) (rw (z, add-zero))))

  at_4 : Closed 4
  at_4 = decided n _ (not (f =? 0)) (λ e l. (0, l, each_4 0 ∙ e)) (λ e k l. each_4 k ∙ e)

  -- from byte 3 the first pixel does, from byte 1 the second, if there is one in the row, and no other can
  at_2 : Closed 2
  at_2 =
      decided n _ (f =? 3 || f =? 1 && 1 <? w)
      (λ e l. ⊎_elim
      (λ p. first l (eqb-true f 3 p))
      (λ p. let b = both (f =? 1) _ p in second l (eqb-true f 1 b.0) (ltb-true 1 w b.1))
      (either (f =? 3) _ e))
      (λ e k l. let x = neither (f =? 3) _ e in each_2 k ∙ ne_eqb ((f + 2 * (k % w)) % 4) 3 (other k l (eqb-false f 3 x.0) x.1))
    where
      first : 0 < n → f ≡ 3 → (k : ℕ) × (k < n) × (crosses 2 (byte_of 2 k) ≡ true)
      first l e = (0, l, each_2 0 ∙ eq-eqb ((f + 2 * (0 % w)) % 4) 3 (omega (arith, mod-eq_of_lt (wide l).0)))

      second : 0 < n → f ≡ 1 → 1 < w → (k : ℕ) × (k < n) × (crosses 2 (byte_of 2 k) ≡ true)
      second l e g = (1, omega (arith, (wide l).1), each_2 1 ∙ eq-eqb ((f + 2 * (1 % w)) % 4) 3 (omega (arith, mod-eq_of_lt g)))

      other : (k : ℕ) → k < n → (f ≡ 3 → ⊥) → f =? 1 && 1 <? w ≡ false → (f + 2 * (k % w)) % 4 ≡ 3 → ⊥
      other k l three one q =
          let o : f ≡ 1 =
          ⊎_elim (λ t. omega (arith, ltb-true f 3 t)) (λ t. absurd (three (omega (arith, ltb-false f 3 t)))) (true_or_false (f <? 3)) in
          omega (arith, mod-lt k (wide (omega arith)).0, ltb-false 1 w (rw (eq-eqb f 1 o) at one))

  closed : (code : ℕ) → Closed (depth_of (format_of code))
  unfolding format_of
  closed code =
      let Of : Option ℕ → Type 0 = λ x. Closed (depth_of x) in
      if_both Of (code =? 0b0000) (never 1 refl)
      (if_both Of (code =? 0b0100 || code =? 0b0101 || code =? 0b0110) at_2 (if_both Of (code =? 0b1000) at_4 (never 0 refl)))

-- ---- of the registers

off : (a b c : Bool) → a && false && b ≡ a && false && c
off true b c = refl
off false b c = refl

pub straddles_closed : (registers : List ℕ)
    → straddles registers
    ≡ (from_host registers && not (mono_mode registers)
    && (0 <? width registers * height registers
    && straddling (depth_of (format_of (format_code registers))) (starting_byte registers) (width registers)))
unfolding straddles host_pixel host_byte host_of blt_of rectangle_of
straddles_closed registers =
    let w = width registers in
    let h = height registers in
    ⊎_elim
    (λ e. rw e (off (from_host registers) _ _))
    (λ e. let x = neither (source_mode registers =? 0b01) (source_mode registers =? 0b10) e in
    rw (x.0, x.1, closed (starting_byte registers) w (w * h) (mod-lt _ (omega arith)) (sides w h) (format_code registers)))
    (true_or_false (mono_mode registers))

-- where none does, the bytes of a colour pixel lie in one word
pub in_word : (registers : List ℕ) → straddles registers ≡ false → from_host registers ≡ true → mono_mode registers ≡ false
    → (k : ℕ) → k < pixels_of (blt_of registers).destination
    → host_pixel registers k % 4 + depth_of (format_of (format_code registers)) ≤ 4
unfolding straddles
in_word registers e host color k l =
    let depth = depth_of (format_of (format_code registers)) in
    let none : some (pixels_of (blt_of registers).destination) (λ k. crosses depth (host_pixel registers k)) ≡ false = rw (host, color) at e in
    let same : (host_pixel registers k + (depth - 1)) / 4 ≡ host_pixel registers k / 4 =
    eqb-true _ _ (not-false _ (some_not (pixels_of (blt_of registers).destination) (λ k. crosses depth (host_pixel registers k)) k none l)) in
    omega (arith, depth_of_most (format_code registers))

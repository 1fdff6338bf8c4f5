use Prim.Native.Nat.{ℕ, ◌+◌, ◌*◌, ◌/◌, ◌-◌, ◌%◌, ◌<◌}
use mathlib.Core.Path.{◌≡◌, refl, sym, ap, ◌∙◌}
use native.Mathlib.Omega.{arith}
use lib.ListN.{length}
use Rattle.model.specs.BltPixel.{draw_at}
use Rattle.model.specs.declared.Blt.{Blt}
use Rattle.laws.specs.Order.{order_zero, order_add}
use Rattle.laws.specs.Rows.{length_row}
use Rattle.laws.specs.Glyphs.{Windowed, windowed_in, windowed_reads, windowed_part, window_drawn}
use Rattle.glyphs.proofs.eights.Goals as goal

-- the pixels of window k
eight_of : {size : ℕ} {b : Blt} {i j n flip1 keep1 flip0 keep0 to q shift : ℕ} → Windowed size b i j n flip1 keep1 flip0 keep0 to q shift
    → (k : ℕ) → k < n / 8 → {now : ℕ} → now ≡ size
    → Windowed now b (i + 8 * k) j 8 flip1 keep1 flip0 keep0 (to + 8 * k * b.destination.depth) (q + k) shift
eight_of w k l same = let e : 8 * k / 8 ≡ k = omega arith in rw e at (windowed_part w (8 * k) {c = 8} (omega arith) (omega arith) (omega arith) same)

pub loop-k-init : goal.loop-k-init
loop-k-init c = record { bytes = λ x. (c.slice_known-1.given x).fits; drawn = sym (order_zero _ _ _) }

pub overflow_add-q : goal.overflow_add-q
overflow_add-q c = let w = eight_of c.requires c.loop-k.k c.loop-k-test.true (ap length c.loop-k.invariant.drawn ∙ length_row _ _ _ _ _) in
    omega (arith, windowed_reads w, w.row.small)

pub window-bits-requires : goal.window-bits-requires
window-bits-requires c = let w = eight_of c.requires c.loop-k.k c.loop-k-test.true (ap length c.loop-k.invariant.drawn ∙ length_row _ _ _ _ _) in
    (omega (arith, c.requires.shift_is), omega arith, omega arith, windowed_reads w)

pub overflow_mul-k-in-loop-k : goal.overflow_mul-k-in-loop-k
overflow_mul-k-in-loop-k c = let w = eight_of c.requires c.loop-k.k c.loop-k-test.true (ap length c.loop-k.invariant.drawn ∙ length_row _ _ _ _ _) in
    omega (arith, windowed_in w, w.row.small)

pub overflow_add-to : goal.overflow_add-to
overflow_add-to c = let w = eight_of c.requires c.loop-k.k c.loop-k-test.true (ap length c.loop-k.invariant.drawn ∙ length_row _ _ _ _ _) in
    omega (arith, windowed_in w, w.row.small)

pub eight-requires : goal.eight-requires
eight-requires c = let w = eight_of c.requires c.loop-k.k c.loop-k-test.true (ap length c.loop-k.invariant.drawn ∙ length_row _ _ _ _ _) in
    (w.row.fit.destination_fit.ranged.deep, windowed_in w)

pub loop-k-preserved : goal.loop-k-preserved
loop-k-preserved c = let w = eight_of c.requires c.loop-k.k c.loop-k-test.true (ap length c.loop-k.invariant.drawn ∙ length_row _ _ _ _ _) in
    let more : 8 * (c.loop-k.k + 1) ≡ 8 * c.loop-k.k + 8 = omega arith in
    record {
      bytes = λ x. (c.slice_known-in-loop-k-1.given x).fits;
      drawn = c.eight.ensures
          ∙ window_drawn w (omega arith) _ c.loop-k.invariant.bytes c.window-bits.ensures
          ∙ rw (more, c.loop-k.invariant.drawn) (order_add (λ x. draw_at c.args.b x c.args.j) (8 * c.loop-k.k) c.args.i 8 c.args.f.now);
    }

pub shape_of-f : goal.shape_of-f
shape_of-f c = ap length c.loop-k.invariant.drawn ∙ length_row _ _ _ _ _

pub returns : goal.returns
returns c = let e : c.args.n - c.args.n % 8 ≡ 8 * c.loop-k.k = omega (arith, c.loop-k-test.false, c.loop-k.auto.k-end) in
    (refl, rw e c.loop-k.invariant.drawn)

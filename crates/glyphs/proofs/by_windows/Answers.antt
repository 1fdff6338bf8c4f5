use Prim.Native.Nat.{◌+◌, ◌%◌}
use mathlib.Core.Path.{◌≡◌, ap, ◌∙◌}
use native.Mathlib.Omega.{arith}
use lib.ListN.{length}
use Rattle.model.specs.BltPixel.{draw_at}
use Rattle.laws.specs.Order.{order_add}
use Rattle.laws.specs.Rows.{length_row}
use Rattle.laws.specs.Glyphs.{windowed_in, windowed_reads, windowed_part, window_drawn}
use Rattle.glyphs.proofs.by_windows.Goals as goal

pub returns-then-c-eq0 : goal.returns-then-c-eq0
returns-then-c-eq0 c = let e : c.eights-m.result ≡ c.args.n = omega (arith, c.eights-m.ensures.0, c.if-c-eq0.true) in
    rw e at c.eights-m.ensures.1

pub overflow_add-q : goal.overflow_add-q
overflow_add-q c = let w = windowed_part c.requires c.eights-m.result {c = c.args.n % 8} (omega (arith, c.if-c-eq0.false)) (omega (arith, c.eights-m.ensures.0)) (omega (arith, c.eights-m.ensures.0)) (ap length c.eights-m.ensures.1 ∙ length_row _ _ _ _ _) in
    omega (arith, windowed_reads w, w.row.small)

pub window-bits-requires : goal.window-bits-requires
window-bits-requires c = let w = windowed_part c.requires c.eights-m.result {c = c.args.n % 8} (omega (arith, c.if-c-eq0.false)) (omega (arith, c.eights-m.ensures.0)) (omega (arith, c.eights-m.ensures.0)) (ap length c.eights-m.ensures.1 ∙ length_row _ _ _ _ _) in
    (omega (arith, c.requires.shift_is), w.some, omega arith, windowed_reads w)

pub overflow_mul-m : goal.overflow_mul-m
overflow_mul-m c = let w = windowed_part c.requires c.eights-m.result {c = c.args.n % 8} (omega (arith, c.if-c-eq0.false)) (omega (arith, c.eights-m.ensures.0)) (omega (arith, c.eights-m.ensures.0)) (ap length c.eights-m.ensures.1 ∙ length_row _ _ _ _ _) in
    omega (arith, windowed_in w, w.row.small)

pub overflow_add-to : goal.overflow_add-to
overflow_add-to c = let w = windowed_part c.requires c.eights-m.result {c = c.args.n % 8} (omega (arith, c.if-c-eq0.false)) (omega (arith, c.eights-m.ensures.0)) (omega (arith, c.eights-m.ensures.0)) (ap length c.eights-m.ensures.1 ∙ length_row _ _ _ _ _) in
    omega (arith, windowed_in w, w.row.small)

pub few-requires : goal.few-requires
few-requires c = let w = windowed_part c.requires c.eights-m.result {c = c.args.n % 8} (omega (arith, c.if-c-eq0.false)) (omega (arith, c.eights-m.ensures.0)) (omega (arith, c.eights-m.ensures.0)) (ap length c.eights-m.ensures.1 ∙ length_row _ _ _ _ _) in
    (w.row.fit.destination_fit.ranged.deep, windowed_in w)

pub returns : goal.returns
returns c = let w = windowed_part c.requires c.eights-m.result {c = c.args.n % 8} (omega (arith, c.if-c-eq0.false)) (omega (arith, c.eights-m.ensures.0)) (omega (arith, c.eights-m.ensures.0)) (ap length c.eights-m.ensures.1 ∙ length_row _ _ _ _ _) in
    let e : c.eights-m.result + c.args.n % 8 ≡ c.args.n = omega (arith, c.eights-m.ensures.0) in
    c.few.ensures
    ∙ window_drawn w (omega arith) _ (λ x. (c.slice_known-2-1.given x).fits) c.window-bits.ensures
    ∙ rw c.eights-m.ensures.1 (rw e at (order_add (λ x. draw_at c.args.b x c.args.j) c.eights-m.result c.args.i (c.args.n % 8) c.args.f.now))

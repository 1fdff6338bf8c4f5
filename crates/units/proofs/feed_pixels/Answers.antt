use Rattle.std.proofs.Common.{◌≡◌, ◌+◌, ◌-◌, length, ap, ◌∙◌, arith}
use Rattle.units.proofs.Feeds.{fit_deep, band_fed, band_part, pixels_most_lem}
use Rattle.laws.specs.WellFormed.{length_host}
use Rattle.laws.specs.Order.{order_add, order_length}
use Rattle.model.specs.Unit.{fed_word}
use Rattle.units.proofs.feed_pixels.Goals as goal

pub span-used-requires : goal.span-used-requires
span-used-requires c = let f = c.requires.fit in
    (fit_deep c.args.core.now c.args.k f.pixel, f.pixel.within, f.feeding, omega arith, c.requires.some_left)

pub draw-requires : goal.draw-requires
draw-requires c = let h = c.requires.wellformed in
    let s = c.span-used.ensures in
    let l = h.fit.lengths in
    let all = band_fed c.args.core.now c.args.write c.args.k c.args.feed c.requires.fit l.frame_most_holds l.ring_most_holds (omega (arith, l.ring_least_holds)) _ s.2 s.3 in
    let z : c.args.k + 0 ≡ c.args.k = omega arith in
    rw (h.frame_is, h.ring_is) (rw z at (band_part all 0 c.row_rest-first.result (omega (arith, c.row_rest-first.ensures))), h.fit.read_in)

pub overflow_add-k : goal.overflow_add-k
overflow_add-k c = omega (arith, c.span-used.ensures.2, c.row_rest-first.ensures, pixels_most_lem c.args.core.now c.args.k c.requires.fit.pixel)

pub draw-requires-2 : goal.draw-requires-2
draw-requires-2 c = let h = c.requires.wellformed in
    let s = c.span-used.ensures in
    let l = h.fit.lengths in
    let all = band_fed c.args.core.now c.args.write c.args.k c.args.feed c.requires.fit l.frame_most_holds l.ring_most_holds (omega (arith, l.ring_least_holds)) _ s.2 s.3 in
    let same = ap length c.draw.ensures ∙ order_length _ (λ k. length_host _ _ k _) c.row_rest-first.result c.args.k _ in
    rw h.ring_is (rw (same ∙ h.frame_is) (band_part all c.row_rest-first.result (c.span-used.result - c.row_rest-first.result) (omega (arith, c.row_rest-first.ensures))), h.fit.read_in)

pub overflow_add-k-2 : goal.overflow_add-k-2
overflow_add-k-2 c = omega (arith, c.span-used.ensures.2, pixels_most_lem c.args.core.now c.args.k c.requires.fit.pixel)

pub feed_on-requires : goal.feed_on-requires
feed_on-requires c = let f = c.requires.fit in
    record { deep = fit_deep c.args.core.now c.args.k f.pixel; read_in = c.requires.wellformed.fit.read_in; length_most = omega (arith, f.most, c.requires.wellformed.fit.lengths.ring_least_holds) }

pub returns : goal.returns
unfolding fed_word
returns c = let s = c.span-used.ensures in
    let n : c.row_rest-first.result + (c.span-used.result - c.row_rest-first.result) ≡ c.span-used.result = omega (arith, c.row_rest-first.ensures) in
    record { some = s.0; most = s.1; within = s.2; feeding = s.3; core_is = c.feed_on.ensures; frame_is = c.draw-2.ensures ∙ rw c.draw.ensures (order_add _ c.row_rest-first.result c.args.k (c.span-used.result - c.row_rest-first.result) _ ∙ rw n) }

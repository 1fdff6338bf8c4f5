use Prim.Native.Nat.{◌+◌}
use mathlib.Core.Path.{◌≡◌, refl, sym, ◌∙◌}
use native.Mathlib.Omega.{arith}
use native.Mathlib.Nat.{add-zero, sub-zero}
use Rattle.laws.specs.Pixels.{length_store}
use Rattle.laws.specs.Plain.{blend_stored}
use Rattle.laws.specs.Walks.{position_near, position_next}
use Rattle.vector.proofs.Frames.{drawn_inside, draw_more, draw_none}
use Rattle.vector.proofs.draw.Goals as goal

pub position_of-s-requires : goal.position_of-s-requires
position_of-s-requires c = (c.requires.0.ranged, omega arith)

pub loop-i-init : goal.loop-i-init
loop-i-init c = (omega arith, rw add-zero c.position_of-s.ensures, refl, rw (add-zero, sub-zero))

pub overflow_add-v : goal.overflow_add-v
overflow_add-v c = let r = c.requires.0.ranged in
    omega (arith, r.offset_most, position_near _ (c.args.k + c.loop-i.i) r (omega arith) c.loop-i.invariant.1)

pub overflow_sub-v : goal.overflow_sub-v
overflow_sub-v c = (drawn_inside _ _ (c.args.k + c.loop-i.i) c.requires.0 (omega arith) c.loop-i.invariant.1).0

pub apply-requires : goal.apply-requires
apply-requires c = let h = drawn_inside _ _ (c.args.k + c.loop-i.i) c.requires.0 (omega arith) c.loop-i.invariant.1 in
    (c.requires.0.ranged.deep, omega arith)

pub next-s-requires : goal.next-s-requires
next-s-requires c = let r = c.requires.0.ranged in
    (r, position_near _ (c.args.k + c.loop-i.i) r (omega arith) c.loop-i.invariant.1)

pub loop-i-preserved : goal.loop-i-preserved
loop-i-preserved c = let a = c.args in
    let p = c.apply.ensures in
    let o = c.blend_of-blend.ensures in
    let i = c.loop-i.i in
    let h = c.loop-i.invariant in
    let painted = p ∙ sym (blend_stored c.requires.0.ranged.deep a.v.code a.v.color a.v.foreground o.0 o.1 _ _) in
    let e : a.k + (i + 1) ≡ a.k + i + 1 = omega arith in (
      omega arith,
      rw e (c.next-s.ensures ∙ position_next _ _ h.1),
      rw (p, length_store) h.2,
      rw painted (draw_more _ a.k a.n i _ c.loop-i-test.true h.1 ∙ h.3),
    )

pub returns : goal.returns
returns c = sym (draw_none _ _ _ _ (omega arith)) ∙ c.loop-i.invariant.3

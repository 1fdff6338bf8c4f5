use mathlib.Core.Bool.{true, false}
use native.Mathlib.Omega.{arith}
use mir.Syntax.{w16}
use Rattle.model.specs.VectorPixel.{axial_step, diagonal_step, step}
use Rattle.laws.specs.Signs.{Sum, sum_of}
use Rattle.laws.specs.Walks.{moved_by, steps_most}
use borrow.Author.Rules.{rules}
use Rattle.vector.proofs.next.Goals as goal

-- The two arms are the axial and the diagonal step. In each the error and the term added to it have different signs, so the sum fits.
pub shifted-along-requires : goal.shifted-along-requires
shifted-along-requires c = omega (arith, steps_most _ c.requires.0, c.major_step.ensures)

pub overflow_add-result : goal.overflow_add-result
overflow_add-result c =
    let axial : Sum w16 c.args.s.error c.args.v.axial true =
    sum_of w16 true (search rules) (search rules) c.if-s-lt0.true c.requires.0.axial_rises
    in
    axial.asked

pub returns-then-s-lt0 : goal.returns-then-s-lt0
unfolding step axial_step
returns-then-s-lt0 c =
    let axial : Sum w16 c.args.s.error c.args.v.axial true =
    sum_of w16 true (search rules) (search rules) c.if-s-lt0.true c.requires.0.axial_rises
    in
    simp (axial.is, axial.test, c.shifted-along.ensures, c.major_step.ensures)

pub shifted-aside-requires : goal.shifted-aside-requires
shifted-aside-requires c =
    let a = c.args in
    let m = c.major_step in
    rw c.shifted-along.ensures
    (omega (arith, steps_most _ c.requires.0, c.minor_step.ensures, m.ensures, moved_by a.v.majorpositive m.result a.s))

pub overflow_add-result-else-s-lt0 : goal.overflow_add-result-else-s-lt0
overflow_add-result-else-s-lt0 c =
    let diagonal : Sum w16 c.args.s.error c.args.v.diagonal false =
    sum_of w16 false (search rules) (search rules) c.if-s-lt0.false c.requires.0.diagonal_falls
    in
    diagonal.asked

pub returns-else-s-lt0 : goal.returns-else-s-lt0
unfolding step diagonal_step
returns-else-s-lt0 c =
    let diagonal : Sum w16 c.args.s.error c.args.v.diagonal false =
    sum_of w16 false (search rules) (search rules) c.if-s-lt0.false c.requires.0.diagonal_falls
    in
    simp (diagonal.is, diagonal.test, c.shifted-aside.ensures, c.shifted-along.ensures, c.minor_step.ensures, c.major_step.ensures)

use Prim.Native.Nat.{ℕ, ◌*◌}
use mathlib.Core.Path.{◌≡◌, sym, ◌∙◌}
use native.Mathlib.Omega.{arith}
use mir.Syntax.{w16}
use mir.Val.{SFits, to_z, of_z}
use mir.ValLaws.{to_z-of_z}
use Rattle.model.specs.declared.Vector.{Vector}
use Rattle.laws.specs.Walks.{moved_by, steps_most}
use Rattle.laws.specs.ClosedForm.{TermsOf, unbiased, terms_in_range, counted, product_most, closed_form}
use borrow.Author.Rules.{rules}
use Rattle.vector.proofs.position_of.Goals as goal

-- The diagonal steps are counted, and the steps along each axis taken at once, as the closed form says.

-- a vector's terms are what the code's bits of them say
read_from : (v : Vector) {initial axial diagonal : ℕ} → SFits w16 v.initial → SFits w16 v.axial → SFits w16 v.diagonal
    → to_z w16 (of_z w16 v.initial) ≡ unbiased initial
    → to_z w16 (of_z w16 v.axial) ≡ unbiased axial
    → to_z w16 (of_z w16 v.diagonal) ≡ unbiased diagonal
    → TermsOf v initial axial diagonal
read_from v i a d initial axial diagonal = record {
  initial_is = sym (to_z-of_z w16 v.initial i) ∙ initial;
  axial_is = sym (to_z-of_z w16 v.axial a) ∙ axial;
  diagonal_is = sym (to_z-of_z w16 v.diagonal d) ∙ diagonal;
}

pub diagonal_steps-n-requires : goal.diagonal_steps-n-requires
diagonal_steps-n-requires c =
    let read = read_from c.args.v (search rules) (search rules) (search rules) c.biased-initial.ensures.0 c.biased-axial.ensures.0 c.biased-diagonal.ensures.0 in
    (terms_in_range c.requires.0 read c.biased-initial.ensures.1 c.biased-axial.ensures.1, omega (arith, c.requires.0.long_most, c.requires.1))

pub error_after-error-requires : goal.error_after-error-requires
error_after-error-requires c =
    let read = read_from c.args.v (search rules) (search rules) (search rules) c.biased-initial.ensures.0 c.biased-axial.ensures.0 c.biased-diagonal.ensures.0 in
    (terms_in_range c.requires.0 read c.biased-initial.ensures.1 c.biased-axial.ensures.1, omega (arith, c.requires.0.long_most, c.requires.1), c.diagonal_steps-n.ensures)

-- the bytes along the major axis, and along the minor one
pub overflow_mul-k : goal.overflow_mul-k
overflow_mul-k c =
    omega (arith, product_most c.args.k c.major_step.result (omega (arith, c.requires.0.long_most, c.requires.1)) (rw c.major_step.ensures (omega (arith, steps_most _ c.requires.0))))

pub shifted-along-requires : goal.shifted-along-requires
shifted-along-requires c =
    omega (arith, product_most c.args.k c.major_step.result (omega (arith, c.requires.0.long_most, c.requires.1)) (rw c.major_step.ensures (omega (arith, steps_most _ c.requires.0))))

pub overflow_mul-n : goal.overflow_mul-n
overflow_mul-n c =
    let read = read_from c.args.v (search rules) (search rules) (search rules) c.biased-initial.ensures.0 c.biased-axial.ensures.0 c.biased-diagonal.ensures.0 in
    let terms = terms_in_range c.requires.0 read c.biased-initial.ensures.1 c.biased-axial.ensures.1 in
    let few = (counted _ _ _ terms c.args.k).most in
    omega (arith, product_most c.diagonal_steps-n.result c.minor_step.result (rw c.diagonal_steps-n.ensures (omega (arith, c.requires.0.long_most, c.requires.1))) (rw c.minor_step.ensures (omega (arith, steps_most _ c.requires.0))))

pub shifted-requires : goal.shifted-requires
shifted-requires c =
    let read = read_from c.args.v (search rules) (search rules) (search rules) c.biased-initial.ensures.0 c.biased-axial.ensures.0 c.biased-diagonal.ensures.0 in
    let terms = terms_in_range c.requires.0 read c.biased-initial.ensures.1 c.biased-axial.ensures.1 in
    let few = (counted _ _ _ terms c.args.k).most in
    let aside = product_most c.diagonal_steps-n.result c.minor_step.result (rw c.diagonal_steps-n.ensures (omega (arith, c.requires.0.long_most, c.requires.1))) (rw c.minor_step.ensures (omega (arith, steps_most _ c.requires.0))) in
    let along = product_most c.args.k c.major_step.result (omega (arith, c.requires.0.long_most, c.requires.1)) (rw c.major_step.ensures (omega (arith, steps_most _ c.requires.0))) in
    rw c.shifted-along.ensures
    (omega (arith, aside, along, moved_by c.args.v.majorpositive (c.args.k * c.major_step.result) (record { plus = 0; minus = 0; error = to_z w16 (of_z w16 c.from_biased.result) })))

pub returns : goal.returns
returns c =
    let read = read_from c.args.v (search rules) (search rules) (search rules) c.biased-initial.ensures.0 c.biased-axial.ensures.0 c.biased-diagonal.ensures.0 in
    let terms = terms_in_range c.requires.0 read c.biased-initial.ensures.1 c.biased-axial.ensures.1 in
    rw (
      c.shifted.ensures,
      c.minor_step.ensures,
      c.shifted-along.ensures,
      c.major_step.ensures,
      to_z-of_z w16 c.from_biased.result (search rules),
      c.from_biased.ensures,
      c.error_after-error.ensures.0,
      c.diagonal_steps-n.ensures,
    )
    (closed_form _ _ _ terms _ read c.args.k)

use mir.Syntax.{w16}
use mir.ValLaws.{to_z-of_z}
use Rattle.laws.specs.Signs.{below_is}
use borrow.Author.Rules.{rules}
use Rattle.vector.proofs.bad_terms.Goals as goal

-- The code tests the two terms in the order of the definition.
pub returns-then-v-lt0 : goal.returns-then-v-lt0
returns-then-v-lt0 c = rw (below_is w16 c.args.v.axial (search rules) c.if-v-lt0.true) c.if-v-lt0.true

pub returns-else-v-lt0 : goal.returns-else-v-lt0
returns-else-v-lt0 c = let v = c.args.v in
    simp (below_is w16 v.axial (search rules) c.if-v-lt0.false, to_z-of_z w16 v.diagonal (search rules))

use mir.Syntax.{w16}
use mir.ValLaws.{to_z-of_z}
use borrow.Author.Rules.{rules}
use Rattle.vector.proofs.shifted.Goals as goal

-- The bytes are added on the side that the direction names.
pub returns-then-positive : goal.returns-then-positive
returns-then-positive c = simp (to_z-of_z w16 c.args.s.error (search rules), c.if-positive.true)

pub returns-else-positive : goal.returns-else-positive
returns-else-positive c = simp (to_z-of_z w16 c.args.s.error (search rules), c.if-positive.false)

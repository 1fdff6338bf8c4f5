use mathlib.Core.Path.{◌∙◌}
use mir.Syntax.{w16}
use mir.ValLaws.{to_z-of_z}
use borrow.Author.Rules.{rules}
use borrow.Author.Tests.{lt-ltb}
use Rattle.model.specs.VectorPixel.{signed16}
use Rattle.vector.proofs.signed.Goals as goal

pub returns : goal.returns
unfolding signed16
returns c = rw (lt-ltb c.args.x 65_536 c.requires) (to_z-of_z w16 c.cast_signed.result (search rules) ∙ c.cast_signed.ensures)

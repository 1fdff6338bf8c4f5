use borrow.Author.Tests.{ne_eqb}
use Rattle.model.specs.Command.{bad_header}
use Rattle.command.proofs.bad_header.Goals as goal

pub returns-in-0 : goal.returns-in-0
unfolding bad_header
returns-in-0 c = simp (← c.bits.ensures.0, ← c.bits-in-0.ensures.0, c.in-0.is)

pub returns-in-1 : goal.returns-in-1
unfolding bad_header
returns-in-1 c = simp (← c.bits.ensures.0, ← c.bits-in-1.ensures.0, c.in-1.is)

pub returns-in-2 : goal.returns-in-2
unfolding bad_header
returns-in-2 c = simp (← c.bits.ensures.0, ← c.bits-in-2.ensures.0, c.in-2.is)

pub returns-in_default : goal.returns-in_default
unfolding bad_header
returns-in_default c = simp (← c.bits.ensures.0, ← c.bits-in_default.ensures.0, ne_eqb _ _ c.in_default.in_default-own.rest.0.0.1, ne_eqb _ _ c.in_default.in_default-own.rest.0.1, ne_eqb _ _ c.in_default.in_default-own.rest.1)

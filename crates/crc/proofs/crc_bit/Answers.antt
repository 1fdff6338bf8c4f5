use borrow.Author.Tests.{eq-eqb, ne_eqb}
use Rattle.crc.specs.Crc.{crc_bit}
use Rattle.crc.proofs.crc_bit.Goals as goal

pub returns-then-c-eq0 : goal.returns-then-c-eq0
unfolding crc_bit
returns-then-c-eq0 c = rw (eq-eqb _ _ c.if-c-eq0.true)

pub returns-else-c-eq0 : goal.returns-else-c-eq0
unfolding crc_bit
returns-else-c-eq0 c = rw (ne_eqb _ _ c.if-c-eq0.false)

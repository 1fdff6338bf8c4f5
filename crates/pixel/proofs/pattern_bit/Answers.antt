use mathlib.Core.Path.{sym}
use Rattle.laws.specs.Patterns.{bit_upper, bit_lower}
use Rattle.pixel.proofs.pattern_bit.Goals as goal

pub returns-then-row-lt4 : goal.returns-then-row-lt4
returns-then-row-lt4 c = let a = c.args in sym (bit_upper a.data0 a.data1 a.row a.column c.if-row-lt4.true)

pub returns-else-row-lt4 : goal.returns-else-row-lt4
returns-else-row-lt4 c = let a = c.args in sym (bit_lower a.data0 a.data1 a.row a.column c.if-row-lt4.false)

use Rattle.host.proofs.Parts.{area_wide}
use Rattle.laws.specs.Host.{ranged_host}
use Rattle.laws.specs.Numbers.{row_lt}
use Rattle.model.specs.Unit.{pixel_count}
use Rattle.model.specs.Host.{host_pixel, host_word}
use Rattle.model.specs.BltPixel.{rectangle_of, blt_of}
use Rattle.model.specs.Registers.{width, height}
use native.Mathlib.Nat.{mod-lt}
use Prim.Native.Nat.{◌<◌}
use native.Mathlib.Omega.{arith}
use Rattle.host.proofs.word_of.Goals as goal

pub column_of-i-requires : goal.column_of-i-requires
unfolding pixel_count blt_of rectangle_of
column_of-i-requires c = rw c.number-width.ensures.0 (area_wide _ _ _ c.requires.1)

pub row_of-j-requires : goal.row_of-j-requires
unfolding pixel_count blt_of rectangle_of
row_of-j-requires c = rw c.number-width.ensures.0 (area_wide _ _ _ c.requires.1)

pub byte_of-requires : goal.byte_of-requires
unfolding pixel_count blt_of rectangle_of
byte_of-requires c = let w : 0 < width c.args.registers = area_wide _ _ _ c.requires.1 in (
  rw c.host_of.ensures (ranged_host c.args.registers c.requires.0),
  rw (c.column_of-i.ensures, c.number-width.ensures.0) (omega (arith, mod-lt c.args.k w)),
  rw (c.row_of-j.ensures, c.number-width.ensures.0) (omega (arith, row_lt (width c.args.registers) (height c.args.registers) c.args.k w c.requires.1)),
)

pub returns : goal.returns
unfolding host_word host_pixel blt_of rectangle_of
returns c = (rw (c.byte_of.ensures.0, c.host_of.ensures, c.column_of-i.ensures, c.row_of-j.ensures, c.number-width.ensures.0), omega (arith, c.byte_of.ensures.1))

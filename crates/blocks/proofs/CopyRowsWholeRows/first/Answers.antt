use native.Mathlib.Omega.{arith}
use Rattle.laws.specs.Moves.{row_most, copy_bytes}
use Rattle.blocks.proofs.Parts.{some, asked_low, asked_low_source}
use Rattle.blocks.proofs.CopyRowsWholeRows.first.Goals as goal

pub low_byte-from-requires : goal.low_byte-from-requires
low_byte-from-requires c = rw c.width-width.ensures (asked_low_source c.requires.1 c.args.self.now.framed)

pub low_byte-to-requires : goal.low_byte-to-requires
low_byte-to-requires c = rw c.width-width.ensures (asked_low c.requires.1)

pub bytes_of-requires : goal.bytes_of-requires
bytes_of-requires c = rw c.width-width.ensures (omega (arith, row_most c.requires.1))

pub all_clear-requires : goal.all_clear-requires
all_clear-requires c =
    let bytes = copy_bytes c.requires.1 (some c.requires.1) c.args.self.now.framed (rw c.width-width.ensures at c.low_byte-from.ensures) (rw c.width-width.ensures at c.low_byte-to.ensures) in
    omega (arith, bytes.0, bytes.1, rw c.width-width.ensures at c.bytes_of.ensures, c.requires.1.small)

use Rattle.blocks.proofs.Parts.{asked_low}
use Rattle.blocks.proofs.FillRowsWholeRows.first.Goals as goal

pub low_byte-requires : goal.low_byte-requires
low_byte-requires c = rw c.width.ensures (asked_low c.requires.1)
